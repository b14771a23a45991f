-- Texts of rooms, one by one.
use Rattle.std.proofs.Common.{◌≡◌, ◌∙◌, ℕ, ◌+◌, ◌≤◌, ◌&&◌, Bool, true, false, List, [], ◌∷◌, ◌++◌, Some, Ok, Err, Result, length, take, is_none, is_some, not, Option, None, option_map, refl, sym, ap, subst, arith, inl, inr}
use Rattle.std.specs.Prelude.{IfOk}
use Rattle.std.specs.List.{concat}
use Rattle.std.proofs.lemmas.List.{append-nil, append_assoc, take_all, take_more}
use Rattle.std.proofs.lemmas.List.Folds.{concat-append}
use Rattle.std.proofs.lemmas.Option.{get_or_from_slice_get, slice_get_within}
use Rattle.room_files.specs.Kinds.{block_of}
use Rattle.room_files.specs.declared.kinds.Kinds.TheVariants.{All}
use Rattle.room_spec.specs.Rooms.{RoomSpec}
use Rattle.room_files.specs.BlockLists.{IsBlockAt}
use Rattle.run_search.specs.declared.judging.Judgement.{Judgement}
use Rattle.run_search.specs.Judging.{AreTooManyKept, HasNodes, IsJudged}
use Rattle.run_search.specs.Limits.{AreTooMany}
use Rattle.view_outcomes.specs.declared.search.Asked.{Asked}
use Rattle.view_outcomes.specs.declared.search.Search.{Search}
use Rattle.view_outcomes.specs.declared.listing.AllOutcomes.{AllOutcomes}
use Rattle.view_outcomes.specs.declared.listing.Listed.{Listed}
use Rattle.view_outcomes.specs.Forms.{is_brief_alone}
use Rattle.view_outcomes.specs.Listing.{AreInOrder, IsTaskOfRuns, chosen}
use Rattle.view_outcomes.specs.Judgements.{IsTaskText, is_kept}
use Rattle.view_outcomes.specs.Rooms.{AddsOutcomes, AreRoomAnswers, IsAloneText, IsListText, IsRoomAnswer, IsTextFor, crashes_for}
use Rattle.view_outcomes.specs.Shown.{alone_in, found_shown, head_in, judgement_in, taskless_in, unfinished_in, unjudged_in}

and_right : (b : Bool) → b ≡ (b && true)
and_right true = refl
and_right false = refl

and_assoc : (a b c : Bool) → ((a && b) && c) ≡ (a && (b && c))
and_assoc true b c = refl
and_assoc false b c = refl

answers_more : (search : Search) (specs : List RoomSpec) (well : Bool) (texts : List (List ℕ)) (spec : RoomSpec) (one : Bool) (text : List ℕ) → AreRoomAnswers search specs well texts → IsRoomAnswer search spec one text → AreRoomAnswers search (specs ++ spec ∷ []) (well && one) (texts ++ text ∷ [])
answers_more search [] well [] spec one text are is = (one, true, is, refl, ap (λ (b : Bool). b && one) are ∙ and_right one)
answers_more search (other ∷ specs) well (first ∷ texts) spec one text are is =
    (are.0, are.1 && one, are.2, answers_more search specs are.1 texts spec one text are.3 is, ap (λ (b : Bool). b && one) are.4 ∙ and_assoc are.0 are.1 one)
answers_more search [] well (first ∷ texts) spec one text are is = absurd are
answers_more search (other ∷ specs) well [] spec one text are is = absurd are

pub no_answers : (search : Search) (before : List ℕ) → AddsOutcomes search [] true before before
no_answers search before = record { texts = []; each_room = refl; after_is = sym (append-nil before) }

pub one_answer_more : (search : Search) (specs : List RoomSpec) (i : ℕ) (block : List ℕ) (well one : Bool) (before so_far after : List ℕ) → IsBlockAt specs i block → AddsOutcomes search (take i specs) well before so_far
    → ((spec : RoomSpec) → block_of All block ≡ Ok (spec, length block) → (text : List ℕ) × IsRoomAnswer search spec one text × (after ≡ so_far ++ text)) → AddsOutcomes search (take (i + 1) specs) (well && one) before after
one_answer_more search specs i block well one before so_far after at adds more =
    let said = more at.room at.says in
    let text = said.0 in
    let within = slice_get_within specs i at.room at.there in
    let took : take (i + 1) specs ≡ take i specs ++ at.room ∷ [] = take_more specs i at.room within ∙ ap (λ (s : RoomSpec). take i specs ++ s ∷ []) (get_or_from_slice_get specs i at.room at.room at.there) in
    record {
      texts = adds.texts ++ text ∷ [];
      each_room = subst (λ (rooms : List RoomSpec). AreRoomAnswers search rooms (well && one) (adds.texts ++ text ∷ [])) (sym took) (answers_more search (take i specs) well adds.texts at.room one text adds.each_room said.1);
      after_is =
          said.2 ∙ ap (λ (t : List ℕ). t ++ text) adds.after_is ∙ append_assoc before (concat adds.texts) text
          ∙ ap (λ (t : List ℕ). before ++ (concat adds.texts ++ t)) (sym (append-nil text))
          ∙ ap (λ (t : List ℕ). before ++ t) (sym (concat-append adds.texts (text ∷ [])));
    }

pub all_answers : (search : Search) (specs : List RoomSpec) (i : ℕ) (well : Bool) (before after : List ℕ) → length specs ≤ i → AddsOutcomes search (take i specs) well before after → AddsOutcomes search specs well before after
all_answers search specs i well before after past adds = subst (λ (rooms : List RoomSpec). AddsOutcomes search rooms well before after) (take_all i specs (omega (arith, past))) adds

pub none_is : {A : Type 0} (found : Option A) (none : Bool) → is_some found ≡ not none → none ≡ is_none found
none_is None true is = refl
none_is None false is = absurd cc
none_is (Some value) true is = absurd cc
none_is (Some value) false is = refl

-- what was written of a room that was searched to the end
pub found_reported : (search : Search) (spec : RoomSpec) (block : List ℕ) (crashes : ℕ) (all : AllOutcomes) (well : Bool) (before head after : List ℕ) → crashes ≡ crashes_for spec search.crashes
    → AreInOrder spec crashes search.brief all.listed.items → HasNodes spec search.nodes all.nodes → IsTaskOfRuns spec (option_map (λ events. events.items) all.breaking) → well ≡ is_none all.breaking
    → head ≡ before ++ head_in search.form spec.name crashes → after ≡ head ++ found_shown search spec block crashes all → (text : List ℕ) × IsListText search spec block well text × (after ≡ before ++ text)
found_reported search spec block crashes all well before head after stopped outcomes nodes task well_is head_is after_is =
    let rest = found_shown search spec block crashes all in
    let answer : IsListText search spec block well (head_in search.form spec.name (crashes_for spec search.crashes) ++ rest) = record {
      rest = rest;
      rest_is =
          inl
          (record {
            all = all;
            outcomes = subst (λ (n : ℕ). AreInOrder spec n search.brief all.listed.items) stopped outcomes;
            nodes = nodes;
            task = task;
            well_is = well_is;
            text_is = ap (λ (n : ℕ). found_shown search spec block n all) stopped;
          });
      text_is = refl;
    } in (
      head_in search.form spec.name (crashes_for spec search.crashes) ++ rest,
      answer,
      after_is ∙ ap (λ (t : List ℕ). t ++ rest) head_is ∙ append_assoc before (head_in search.form spec.name crashes) rest ∙ ap (λ (n : ℕ). before ++ (head_in search.form spec.name n ++ rest)) stopped,
    )

-- and of one with more nodes than the limit
pub unfinished_reported : (search : Search) (spec : RoomSpec) (block : List ℕ) (crashes : ℕ) (before head after : List ℕ) → crashes ≡ crashes_for spec search.crashes → AreTooMany spec search.nodes
    → head ≡ before ++ head_in search.form spec.name crashes → after ≡ head ++ unfinished_in search.form spec crashes search.nodes → (text : List ℕ) × IsListText search spec block false text × (after ≡ before ++ text)
unfinished_reported search spec block crashes before head after stopped many head_is after_is =
    let rest = unfinished_in search.form spec crashes search.nodes in
    let answer : IsListText search spec block false (head_in search.form spec.name (crashes_for spec search.crashes) ++ rest) = record {
      rest = rest;
      rest_is = inr (record { many = many; text_is = ap (λ (n : ℕ). unfinished_in search.form spec n search.nodes) stopped; well_is = refl });
      text_is = refl;
    } in (
      head_in search.form spec.name (crashes_for spec search.crashes) ++ rest,
      answer,
      after_is ∙ ap (λ (t : List ℕ). t ++ rest) head_is ∙ append_assoc before (head_in search.form spec.name crashes) rest ∙ ap (λ (n : ℕ). before ++ (head_in search.form spec.name n ++ rest)) stopped,
    )

-- ---- one outcome alone

pub chosen_reported : (search : Search) (spec : RoomSpec) (block : List ℕ) (number crashes : ℕ) (all : List Listed) (well : Bool) (before after : List ℕ) → crashes ≡ crashes_for spec search.crashes
    → AreInOrder spec crashes (is_brief_alone search.form search.brief) all → well ≡ is_some (chosen number all) → after ≡ before ++ alone_in search.form spec.name block number all
    → (text : List ℕ) × IsAloneText number search spec block well text × (after ≡ before ++ text)
chosen_reported search spec block number crashes all well before after stopped outcomes well_is after_is = (
  alone_in search.form spec.name block number all,
  inl
      (record {
        all = all;
        outcomes = subst (λ (n : ℕ). AreInOrder spec n (is_brief_alone search.form search.brief) all) stopped outcomes;
        well_is = well_is;
        text_is = refl;
      }),
  after_is,
)

pub unlisted_reported : (search : Search) (spec : RoomSpec) (block : List ℕ) (number crashes : ℕ) (before after : List ℕ) → crashes ≡ crashes_for spec search.crashes → AreTooMany spec search.nodes
    → after ≡ before ++ (head_in search.form spec.name crashes ++ unfinished_in search.form spec crashes search.nodes) → (text : List ℕ) × IsAloneText number search spec block false text × (after ≡ before ++ text)
unlisted_reported search spec block number crashes before after stopped many after_is =
    let rest = unfinished_in search.form spec (crashes_for spec search.crashes) search.nodes in (
      head_in search.form spec.name (crashes_for spec search.crashes) ++ rest,
      inr (record { rest = rest; rest_is = record { many = many; text_is = refl; well_is = refl }; text_is = refl }),
      after_is ∙ ap (λ (n : ℕ). before ++ (head_in search.form spec.name n ++ unfinished_in search.form spec n search.nodes)) stopped,
    )

-- ---- the task alone

pub taskless_reported : (search : Search) (spec : RoomSpec) (block before after : List ℕ) → None ≡ spec.task → after ≡ before ++ taskless_in search.form spec search.nodes → (text : List ℕ) × IsTaskText search spec block true text × (after ≡ before ++ text)
taskless_reported search spec block before after none is = (taskless_in search.form spec search.nodes, inl (record { none = sym none; text_is = refl; well_is = refl }), is)

pub judged_reported : (search : Search) (spec : RoomSpec) (block : List ℕ) (judgement : Judgement) (well : Bool) (before after : List ℕ) → IsJudged spec search.nodes judgement → well ≡ is_kept judgement → after ≡ before ++ judgement_in search.form spec block search.nodes judgement
    → (text : List ℕ) × IsTaskText search spec block well text × (after ≡ before ++ text)
judged_reported search spec block judgement well before after judged well_is is =
    (judgement_in search.form spec block search.nodes judgement, inr (inl (record { judgement = judgement; judged = judged; text_is = refl; well_is = well_is })), is)

pub unjudged_reported : (search : Search) (spec : RoomSpec) (block before after : List ℕ) → AreTooManyKept spec search.nodes → after ≡ before ++ unjudged_in search.form spec search.nodes → (text : List ℕ) × IsTaskText search spec block false text × (after ≡ before ++ text)
unjudged_reported search spec block before after kept is = (unjudged_in search.form spec search.nodes, inr (inr (record { kept = kept; text_is = refl; well_is = refl })), is)

-- ---- what is asked for

pub asked_reported : {E : Type 0} (search : Search) (spec : RoomSpec) (block : List ℕ) (asked : Asked) (before after : List ℕ) (result : Result Bool E) → search.asked ≡ asked
    → IfOk result (λ well. (text : List ℕ) × IsTextFor asked search spec block well text × (after ≡ before ++ text)) → IfOk result (λ well. (text : List ℕ) × IsTextFor search.asked search spec block well text × (after ≡ before ++ text))
asked_reported search spec block asked before after (Ok well) is reported = (reported.0, subst (λ (what : Asked). IsTextFor what search spec block well reported.0) (sym is) reported.1, reported.2)
asked_reported search spec block asked before after (Err error) is reported = tt
