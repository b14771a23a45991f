-- Texts of rooms, one by one.
use Rattle.std.proofs.Common.{◌≡◌, ◌∙◌, ℕ, ◌+◌, ◌≤◌, ◌==◌, ◌&&◌, Bool, true, false, List, [], ◌∷◌, ◌++◌, Result, Ok, Err, get_or, length, take, refl, sym, ap, subst, arith, inl, inr}
use Rattle.std.specs.Prelude.{IfOk}
use Rattle.std.specs.List.{All, concat}
use Rattle.std.proofs.lemmas.List.{append-nil, append_assoc, take_all, take_more}
use Rattle.std.proofs.lemmas.List.Elements.{Contains-get_or}
use Rattle.std.proofs.lemmas.List.Folds.{concat-append}
use Rattle.std.proofs.lemmas.List.Sorted.{All-permutation}
use Rattle.std.proofs.lemmas.Option.{get_or_from_slice_get, slice_get_within}
use Rattle.room_files.specs.Kinds.{block_of}
use Rattle.room_files.specs.declared.kinds.Kinds.TheVariants as kinds
use Rattle.room_spec.specs.Rooms.{IsWithinLimits, RoomSpec}
use Rattle.ws_history.specs.declared.states.ProcessState.{ProcessState}
use Rattle.room_files.specs.BlockLists.{IsBlockAt}
use Rattle.room_sample.specs.Schedules.{IsOutcome}
use Rattle.room_sample.specs.declared.stretch.Stretch.{Stretch}
use Rattle.room_search.specs.declared.search.Reach.{Reach}
use Rattle.view_sample.specs.Leads.{LeadsTo}
use Rattle.view_sample.specs.Texts.{script_text}
use Rattle.view_rooms.specs.declared.plan.RoomPlan.{RoomPlan}
use Rattle.view_rooms.specs.Listing.{AreInOrder, HasScript}
use Rattle.view_rooms.specs.Rooms.{AddsOutcomes, AreRoomTexts, IsRoomText, crashes_for}
use Rattle.view_rooms.specs.Shown.{found_shown, head_shown, unfinished_shown}

and_right : (b : Bool) → b ≡ (b && true)
and_right true = refl
and_right false = refl

and_assoc : (a b c : Bool) → ((a && b) && c) ≡ (a && (b && c))
and_assoc true b c = refl
and_assoc false b c = refl

texts_more : (plan : RoomPlan) (specs : List RoomSpec) (well : Bool) (texts : List (List ℕ)) (spec : RoomSpec) (one : Bool) (text : List ℕ) → AreRoomTexts plan specs well texts → IsRoomText plan spec one text → AreRoomTexts plan (specs ++ spec ∷ []) (well && one) (texts ++ text ∷ [])
texts_more plan [] well [] spec one text are is = (one, true, is, refl, ap (λ (b : Bool). b && one) are ∙ and_right one)
texts_more plan (other ∷ specs) well (first ∷ texts) spec one text are is =
    (are.0, are.1 && one, are.2, texts_more plan specs are.1 texts spec one text are.3 is, ap (λ (b : Bool). b && one) are.4 ∙ and_assoc are.0 are.1 one)
texts_more plan [] well (first ∷ texts) spec one text are is = absurd are
texts_more plan (other ∷ specs) well [] spec one text are is = absurd are

pub no_texts : (plan : RoomPlan) (before : List ℕ) → AddsOutcomes plan [] true before before
no_texts plan before = record { texts = []; each_room = refl; after_is = sym (append-nil before) }

pub one_text_more : (plan : RoomPlan) (specs : List RoomSpec) (i : ℕ) (block : List ℕ) (well one : Bool) (before so_far after : List ℕ) → IsBlockAt specs i block → AddsOutcomes plan (take i specs) well before so_far
    → ((spec : RoomSpec) → block_of kinds.All block ≡ Ok (spec, length block) → (text : List ℕ) × IsRoomText plan spec one text × (after ≡ so_far ++ text)) → AddsOutcomes plan (take (i + 1) specs) (well && one) before after
one_text_more plan specs i block well one before so_far after at adds more =
    let said = more at.room at.says in
    let text = said.0 in
    let within = slice_get_within specs i at.room at.there in
    let took : take (i + 1) specs ≡ take i specs ++ at.room ∷ [] = take_more specs i at.room within ∙ ap (λ (s : RoomSpec). take i specs ++ s ∷ []) (get_or_from_slice_get specs i at.room at.room at.there) in
    record {
      texts = adds.texts ++ text ∷ [];
      each_room = subst (λ (rooms : List RoomSpec). AreRoomTexts plan rooms (well && one) (adds.texts ++ text ∷ [])) (sym took) (texts_more plan (take i specs) well adds.texts at.room one text adds.each_room said.1);
      after_is =
          said.2 ∙ ap (λ (t : List ℕ). t ++ text) adds.after_is ∙ append_assoc before (concat adds.texts) text
          ∙ ap (λ (t : List ℕ). before ++ (concat adds.texts ++ t)) (sym (append-nil text))
          ∙ ap (λ (t : List ℕ). before ++ t) (sym (concat-append adds.texts (text ∷ [])));
    }

pub all_texts : (plan : RoomPlan) (specs : List RoomSpec) (i : ℕ) (well : Bool) (before after : List ℕ) → length specs ≤ i → AddsOutcomes plan (take i specs) well before after → AddsOutcomes plan specs well before after
all_texts plan specs i well before after past adds = subst (λ (rooms : List RoomSpec). AddsOutcomes plan rooms well before after) (take_all i specs (omega (arith, past))) adds

-- ---- the room of a block

same_read : (block : List ℕ) (one other : RoomSpec × ℕ) → block_of kinds.All block ≡ Ok one → block_of kinds.All block ≡ Ok other → one ≡ other
same_read block one other read says = cc

pub own_room : (block : List ℕ) (spec : RoomSpec) (len : ℕ) → block_of kinds.All block ≡ Ok (spec, len) → (said : RoomSpec) × (block_of kinds.All block ≡ Ok (said, length block)) → block_of kinds.All block ≡ Ok (spec, length block)
own_room block spec len read says =
    subst (λ (room : RoomSpec). block_of kinds.All block ≡ Ok (room, length block)) (ap (λ (one : RoomSpec × ℕ). one.0) (same_read block (says.0, length block) (spec, len) says.1 read)) says.1

pub of_said : (P : RoomSpec → Type 0) (block : List ℕ) (spec said : RoomSpec) → block_of kinds.All block ≡ Ok (spec, length block) → block_of kinds.All block ≡ Ok (said, length block) → P spec → P said
of_said P block spec said own says is = subst P (ap (λ (one : RoomSpec × ℕ). one.0) (same_read block (spec, length block) (said, length block) own says)) is

-- what was written of the room that the block says, whatever says it
pub reported_of_said : {E : Type 0} (plan : RoomPlan) (block : List ℕ) (spec : RoomSpec) (before after : List ℕ) (result : Result Bool E) → block_of kinds.All block ≡ Ok (spec, length block)
    → IfOk result (λ well. (text : List ℕ) × IsRoomText plan spec well text × (after ≡ before ++ text))
    → IfOk result (λ well. (said : RoomSpec) → block_of kinds.All block ≡ Ok (said, length block) → (text : List ℕ) × IsRoomText plan said well text × (after ≡ before ++ text))
reported_of_said plan block spec before after (Ok well) own reported = λ said says. of_said (λ (room : RoomSpec). (text : List ℕ) × IsRoomText plan room well text × (after ≡ before ++ text)) block spec said own says reported
reported_of_said plan block spec before after (Err error) own reported = tt

-- ---- one room

abbrev pub Lead : Type 0
Lead = (spec : RoomSpec) (crashes : ℕ) (block : List ℕ) (schedule : List Stretch) (states : List ProcessState) → IsWithinLimits spec → block_of kinds.All block ≡ Ok (spec, length block) → IsOutcome spec crashes schedule states
    → LeadsTo block spec.name schedule states (script_text spec.name block schedule)

-- the script of each outcome leads to it
scripts_lead : (spec : RoomSpec) (block : List ℕ) (crashes limit : ℕ) (all : Reach) → Lead → IsWithinLimits spec → block_of kinds.All block ≡ Ok (spec, length block) → AreInOrder spec crashes limit all → All (HasScript spec.name block) all.outcomes.items
scripts_lead spec block crashes limit all leads limits says is =
    All-permutation (HasScript spec.name block) is.found all.outcomes.items is.same
    (λ i d below.
    let one = get_or is.found i d in
    leads spec crashes block one.schedule.items one.states.items limits says (is.reached.sound one (Contains-get_or is.found i d below)))

-- what was written of a room that was searched to the end
pub found_reported : (plan : RoomPlan) (spec : RoomSpec) (block : List ℕ) (crashes : ℕ) (all : Reach) (well : Bool) (before head after : List ℕ) → Lead → IsWithinLimits spec → block_of kinds.All block ≡ Ok (spec, length block) → crashes ≡ crashes_for spec plan.crashes
    → AreInOrder spec crashes plan.nodes all → well ≡ (all.missed == 0) → head ≡ before ++ head_shown plan.json spec.name crashes → after ≡ head ++ found_shown plan spec block crashes all
    → (text : List ℕ) × IsRoomText plan spec well text × (after ≡ before ++ text)
found_reported plan spec block crashes all well before head after leads limits says crashes_is outcomes well_is head_is after_is =
    let rest = found_shown plan spec block crashes all in
    let answer : IsRoomText plan spec well (head_shown plan.json spec.name (crashes_for spec plan.crashes) ++ rest) = record {
      block = block;
      says = says;
      rest = rest;
      rest_is =
          inl
          (record {
            all = all;
            outcomes = subst (λ (n : ℕ). AreInOrder spec n plan.nodes all) crashes_is outcomes;
            scripts = scripts_lead spec block crashes plan.nodes all leads limits says outcomes;
            well_is = well_is;
            text_is = ap (λ (n : ℕ). found_shown plan spec block n all) crashes_is;
          });
      text_is = refl;
    } in (
      head_shown plan.json spec.name (crashes_for spec plan.crashes) ++ rest,
      answer,
      after_is ∙ ap (λ (t : List ℕ). t ++ rest) head_is ∙ append_assoc before (head_shown plan.json spec.name crashes) rest ∙ ap (λ (n : ℕ). before ++ (head_shown plan.json spec.name n ++ rest)) crashes_is,
    )

-- and of one with more nodes than the limit
pub unfinished_reported : (plan : RoomPlan) (spec : RoomSpec) (block : List ℕ) (crashes : ℕ) (before head after : List ℕ) → block_of kinds.All block ≡ Ok (spec, length block) → crashes ≡ crashes_for spec plan.crashes
    → head ≡ before ++ head_shown plan.json spec.name crashes → after ≡ head ++ unfinished_shown plan.json spec crashes plan.nodes → (text : List ℕ) × IsRoomText plan spec false text × (after ≡ before ++ text)
unfinished_reported plan spec block crashes before head after says crashes_is head_is after_is =
    let rest = unfinished_shown plan.json spec crashes plan.nodes in
    let answer : IsRoomText plan spec false (head_shown plan.json spec.name (crashes_for spec plan.crashes) ++ rest) = record {
      block = block;
      says = says;
      rest = rest;
      rest_is = inr (record { text_is = ap (λ (n : ℕ). unfinished_shown plan.json spec n plan.nodes) crashes_is; well_is = refl });
      text_is = refl;
    } in (
      head_shown plan.json spec.name (crashes_for spec plan.crashes) ++ rest,
      answer,
      after_is ∙ ap (λ (t : List ℕ). t ++ rest) head_is ∙ append_assoc before (head_shown plan.json spec.name crashes) rest ∙ ap (λ (n : ℕ). before ++ (head_shown plan.json spec.name n ++ rest)) crashes_is,
    )
