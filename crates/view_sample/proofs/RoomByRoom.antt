-- What is written of rooms, one by one.
use Rattle.std.proofs.Common.{◌≡◌, ◌∙◌, ℕ, ◌+◌, ◌≤◌, ◌==◌, ◌&&◌, Bool, true, List, [], ◌∷◌, ◌++◌, length, take, Ok, refl, sym, ap, subst, arith}
use Rattle.std.specs.List.{concat}
use Rattle.std.proofs.lemmas.List.{append-nil, append_assoc, take_all}
use Rattle.std.proofs.lemmas.List.Folds.{concat-append}
use Rattle.room_files.specs.Kinds.{block_of}
use Rattle.room_files.specs.declared.kinds.Kinds.TheVariants.{All}
use Rattle.room_spec.specs.Rooms.{RoomSpec}
use Rattle.room_files.specs.BlockLists.{IsBlockAt}
use Rattle.room_files.specs.Blocks.{Setup}
use Rattle.room_files.specs.Verdicts.{outcome_if}
use Rattle.room_files.specs.declared.outcome.Outcome.{Outcome}
use Rattle.room_sample.specs.declared.sampling.Plan.{Plan}
use Rattle.view_sample.specs.EachRoom.{AddsRooms, AreRoomTexts, IsRoomsOutput}
use Rattle.view_sample.specs.Sample.{head_of, is_for_people, last_of}
use Rattle.view_sample.proofs.RoomTexts.{and_assoc, and_right}
use Rattle.view_sample.proofs.Taking.{took}

module _ (IsText : RoomSpec → Bool → List ℕ → Type 0) where
  texts_more : (specs : List RoomSpec) (well : Bool) (texts : List (List ℕ)) (spec : RoomSpec) (one : Bool) (text : List ℕ) → AreRoomTexts IsText specs well texts → IsText spec one text → AreRoomTexts IsText (specs ++ spec ∷ []) (well && one) (texts ++ text ∷ [])
  texts_more [] well [] spec one text are is = (one, true, is, refl, ap (λ (b : Bool). b && one) are ∙ and_right one)
  texts_more (other ∷ specs) well (first ∷ texts) spec one text are is = (are.0, are.1 && one, are.2, texts_more specs are.1 texts spec one text are.3 is, ap (λ (b : Bool). b && one) are.4 ∙ and_assoc are.0 are.1 one)
  texts_more [] well (first ∷ texts) spec one text are is = absurd are
  texts_more (other ∷ specs) well [] spec one text are is = absurd are

  pub no_rooms : (before : List ℕ) → AddsRooms IsText [] true before before
  no_rooms before = record { texts = []; each_room = refl; after_is = sym (append-nil before) }

  pub one_room_more : (specs : List RoomSpec) (i : ℕ) (block : List ℕ) (well one : Bool) (before so_far after : List ℕ) → IsBlockAt specs i block → AddsRooms IsText (take i specs) well before so_far
      → ((spec : RoomSpec) → block_of All block ≡ Ok (spec, length block) → (text : List ℕ) × IsText spec one text × (after ≡ so_far ++ text)) → AddsRooms IsText (take (i + 1) specs) (well && one) before after
  one_room_more specs i block well one before so_far after at adds more =
      let said = more at.room at.says in
      let text = said.0 in
      record {
        texts = adds.texts ++ text ∷ [];
        each_room = subst (λ (rooms : List RoomSpec). AreRoomTexts IsText rooms (well && one) (adds.texts ++ text ∷ [])) (sym (took specs i at.room at.there)) (texts_more (take i specs) well adds.texts at.room one text adds.each_room said.1);
        after_is =
            said.2 ∙ ap (λ (t : List ℕ). t ++ text) adds.after_is ∙ append_assoc before (concat adds.texts) text
            ∙ ap (λ (t : List ℕ). before ++ (concat adds.texts ++ t)) (sym (append-nil text))
            ∙ ap (λ (t : List ℕ). before ++ t) (sym (concat-append adds.texts (text ∷ [])));
      }

  pub all_rooms : (specs : List RoomSpec) (i : ℕ) (well : Bool) (before after : List ℕ) → length specs ≤ i → AddsRooms IsText (take i specs) well before after → AddsRooms IsText specs well before after
  all_rooms specs i well before after past adds = subst (λ (rooms : List RoomSpec). AddsRooms IsText rooms well before after) (take_all i specs (omega (arith, past))) adds

  pub rooms_answered : (plan : Plan) (setup : Setup) (accepted well : Bool) (outcome : Outcome) (before reported output : List ℕ) → before ≡ head_of (is_for_people plan) setup.refused → accepted ≡ (length setup.refused == 0)
      → AddsRooms IsText setup.rooms well before reported → output ≡ reported ++ last_of (is_for_people plan) → outcome ≡ outcome_if (accepted && well) → IsRoomsOutput IsText plan setup outcome output
  rooms_answered plan setup accepted well outcome before reported output before_is accepted_is adds output_is outcome_is = record {
    reported = reported;
    well = well;
    rooms = subst (λ (head : List ℕ). AddsRooms IsText setup.rooms well head reported) before_is adds;
    output_is = output_is;
    outcome_is = outcome_is ∙ ap (λ (one : Bool). outcome_if (one && well)) accepted_is;
  }
