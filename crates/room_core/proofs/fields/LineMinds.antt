-- With what its word answers, a mind becomes the mind that the line makes.
use Rattle.std.proofs.Common.{◌≡◌, ℕ, ◌+◌, ◌<◌, ◌≤◌, Bool, true, false, cond, ltb, min, List, [], ◌∷◌, ◌++◌, length, Option, Some, None, set, refl, sym, ap, ◌∙◌, subst, arith}
use Rattle.std.specs.Prelude.{slice_index}
use Rattle.std.proofs.lemmas.List.{length-append}
use Rattle.protocol_lang.specs.Numbers.{greatest}
use Rattle.room_spec.specs.Rooms.{RoomSpec, IsWithinLimits, processes}
use Rattle.room_spec.specs.Sizes.{memory_words, sizes_in}
use Rattle.room_spec.proofs.CallerLemmas.{are_memory_words}
use Rattle.level_cells.specs.Fields.{levels_of}
use Rattle.level_cells.specs.Packing.{packed}
use Rattle.safe_agreement.specs.Levels.{has_level}
use Rattle.sim_memory.specs.Steps.{AreWithin, memory_of, memory_word}
use Rattle.sim_memory.proofs.CallerLemmas.{part_memory, merged_below, some_holder, holder_is}
use Rattle.view_table.specs.Places.{IsProcess, IsAgreementRound}
use Rattle.view_table.proofs.CallerLemmas.{agreement_round}
use Rattle.view_table.specs.declared.place.Place.TheVariants as places
use Rattle.simulator.specs.declared.goal.Goal.{Goal}
use Rattle.simulator.specs.declared.goal.Goal.TheVariants as goals
use Rattle.simulator.specs.declared.line.Line.{Line}
use Rattle.simulator.specs.declared.line.Line.TheVariants.{Rest, Raise, Snap, Show, Enter, Look, Leave, Ask, GetInput, GetView, Values, Out}
use Rattle.simulator.specs.declared.operation.Move.TheVariants.{OutOfTurns}
use Rattle.simulator.specs.Minds.{MindOf, MindState, goal_at, current_round, next_process}
use Rattle.simulator.specs.Turns.{counted, begun, goes_on, snapped, asked, got_input, got_view, got_value, opened_at, opened}
use Rattle.simulator.specs.Moves.{IsOperation, index_in, entry_in, holder_in, first_move_at, first_move, move_at, chosen_in, taken_at, answer_of, is_again, loaded}
use Rattle.simulator.specs.Ranges.{IsMind}
use Rattle.room_core.specs.Fields.{StepMap, Fields, chosen_at, entry_of_steps, holder_of_steps, is_same_collect, shown_value, with_loaded}
use Rattle.room_core.specs.Reading.{worded}
use Rattle.room_core.specs.Tracks.{AreInRange}
use Rattle.room_core.proofs.fields.Snapshots.{part_within, same_collects, same_row, same_holder, same_levels, same_chosen}
use Rattle.room_core.proofs.fields.Wording.{worded_taken, asked_worded, opened_worded, gathered_worded, got_view_worded, showed_worded, snapped_worded}
use Rattle.room_core.proofs.fields.Holding.{Hold}
use Rattle.room_core.proofs.fields.Lines.{taken_first_at, taken_first, taken_on, StandsAt, open_round, snapshot_round, first_place}

-- ---- the first line of a turn

-- in a turn on a write no answer counts
opened_any : (goal : Goal) (k value : ℕ) (chosen other : Option ℕ) (mind : MindOf StepMap) → goal ≡ goals.Write k value → opened_at goal chosen mind ≡ opened_at goal other mind
opened_any (goals.Write round value') k value chosen other mind is = refl
opened_any (goals.Ask round) k value chosen other mind is = absurd cc
opened_any (goals.Propose value') k value chosen other mind is = absurd cc
opened_any goals.AskInput k value chosen other mind is = absurd cc
opened_any goals.Done k value chosen other mind is = absurd cc
opened_any goals.Spent k value chosen other mind is = absurd cc

-- nor in a turn on a proposed input
proposed_any : (goal : Goal) (value : ℕ) (chosen other : Option ℕ) (mind : MindOf StepMap) → goal ≡ goals.Propose value → opened_at goal chosen mind ≡ opened_at goal other mind
proposed_any (goals.Write round value') value chosen other mind is = absurd cc
proposed_any (goals.Ask round) value chosen other mind is = absurd cc
proposed_any (goals.Propose value') value chosen other mind is = refl
proposed_any goals.AskInput value chosen other mind is = absurd cc
proposed_any goals.Done value chosen other mind is = absurd cc
proposed_any goals.Spent value chosen other mind is = absurd cc

chosen_at_place : (spec : RoomSpec) (fields : Fields) (words : List ℕ) (j k : ℕ) → Hold (sizes_in spec) words fields → AreInRange spec fields → IsProcess (sizes_in spec) j → IsAgreementRound (sizes_in spec) k
    → chosen_in spec (slice_index words (index_in spec (places.Levels j k))) ≡ chosen_at spec fields j k
chosen_at_place spec fields words j k held range process round = same_chosen spec fields j k (slice_index words (index_in spec (places.Levels j k))) (λ i. range.level i j k) (held (places.Levels j k) (process, round))

module _ (spec : RoomSpec) (fields : Fields) (words : List ℕ) (mind : MindOf StepMap) (held : Hold (sizes_in spec) words fields) (range : AreInRange spec fields) (is_mind : IsMind spec (worded (sizes_in spec) mind)) where
  first_answer : (goal : Goal) (j : ℕ) (b : Bool) → goal_at mind.goals j ≡ goal → IsOperation (cond b (first_move_at goal spec mind.number j) OutOfTurns)
      → opened (Some j) (chosen_in spec (answer_of (cond b (first_move_at goal spec mind.number j) OutOfTurns) words)) (counted (worded (sizes_in spec) mind)) ≡ worded_taken (sizes_in spec) (taken_first_at goal spec fields j (counted mind))
  first_answer goal j false is moves = absurd moves
  first_answer (goals.Write k value) j true is moves =
      opened_worded (sizes_in spec) spec (Some j) (chosen_in spec value) (counted mind) ∙ ap (worded_taken (sizes_in spec)) (opened_any (goal_at mind.goals j) k value (chosen_in spec value) None (begun j (counted mind)) is)
  first_answer (goals.Ask k) j true is moves =
      let place = first_place spec mind j (goals.Ask k) is_mind is refl in
      ap (λ (chosen : Option ℕ). opened (Some j) chosen (counted (worded (sizes_in spec) mind))) (chosen_at_place spec fields words j k held range place.0 place.1) ∙ opened_worded (sizes_in spec) spec (Some j) (chosen_at spec fields j k) (counted mind)
  first_answer (goals.Propose value) j true is moves =
      opened_worded (sizes_in spec) spec (Some j) (chosen_in spec value) (counted mind) ∙ ap (worded_taken (sizes_in spec)) (proposed_any (goal_at mind.goals j) value (chosen_in spec value) None (begun j (counted mind)) is)
  first_answer goals.AskInput j true is moves =
      let place = first_place spec mind j goals.AskInput is_mind is refl in
      ap (λ (chosen : Option ℕ). opened (Some j) chosen (counted (worded (sizes_in spec) mind))) (chosen_at_place spec fields words j 0 held range place.0 place.1) ∙ opened_worded (sizes_in spec) spec (Some j) (chosen_at spec fields j 0) (counted mind)
  first_answer goals.Done j true is moves = absurd moves
  first_answer goals.Spent j true is moves = absurd moves

  next_answer : (next : Option ℕ) → IsOperation (first_move next spec (worded (sizes_in spec) mind))
      → opened next (chosen_in spec (answer_of (first_move next spec (worded (sizes_in spec) mind)) words)) (counted (worded (sizes_in spec) mind)) ≡ worded_taken (sizes_in spec) (taken_first next spec fields (counted mind))
  next_answer None moves = absurd moves
  next_answer (Some j) moves = first_answer (goal_at mind.goals j) j (ltb mind.turns spec.turns) refl moves

-- ---- what is read of a snapshot

row_at_most : (spec : RoomSpec) (steps : StepMap) (p : ℕ) → AreWithin (sizes_in spec) steps → p < processes spec → entry_of_steps spec steps p ≤ spec.rounds
row_at_most spec steps p within below = merged_below spec.simulators steps p spec.rounds (λ i less. within i p less below)

holder_below : (spec : RoomSpec) (steps : StepMap) (p : ℕ) → IsWithinLimits spec → holder_of_steps spec steps p < spec.simulators
holder_below spec steps p limits =
    let some = limits.shape.m_range.0 in
    let found = some_holder spec.simulators steps p (omega arith) in
    let is : holder_of_steps spec steps p ≡ found.0 = holder_is spec.simulators steps p found.0 found.1 in
    let less = found.1.below in
    omega arith

-- the value that a snapshot as a word shows of a process
value_at_place : (spec : RoomSpec) (fields : Fields) (words : List ℕ) (steps : StepMap) (p : ℕ) → IsWithinLimits spec → AreWithin (sizes_in spec) steps → Hold (sizes_in spec) words fields → p < processes spec → 1 ≤ entry_in spec (memory_of (sizes_in spec) steps) p
    → slice_index words (index_in spec (places.Value (holder_in spec (memory_of (sizes_in spec) steps) p) p (entry_in spec (memory_of (sizes_in spec) steps) p))) ≡ shown_value spec fields steps p
value_at_place spec fields words steps p limits within held below shown =
    let row = same_row spec steps p limits within below in
    let holder = same_holder spec steps p limits within below in
    let most = row_at_most spec steps p within below in
    let some : 1 ≤ entry_of_steps spec steps p = omega arith in
    ap (λ (r : ℕ). slice_index words (index_in spec (places.Value (holder_in spec (memory_of (sizes_in spec) steps) p) p r))) row
    ∙ ap (λ (h : ℕ). slice_index words (index_in spec (places.Value h p (entry_of_steps spec steps p)))) holder
    ∙ held (places.Value (holder_of_steps spec steps p) p (entry_of_steps spec steps p)) (holder_below spec steps p limits, below, agreement_round (sizes_in spec) (entry_of_steps spec steps p) (some, most))

length_with_one : (entries : List (Option ℕ)) (value : Option ℕ) → length (entries ++ value ∷ []) ≡ length entries + 1
length_with_one entries value = let one : List (Option ℕ) = value ∷ [] in length-append entries one

-- ---- a word is loaded

loaded_worded : (spec : RoomSpec) (mind : MindOf StepMap) (source : StepMap) (answer : ℕ) → IsWithinLimits spec → mind.word < memory_words (sizes_in spec) → answer ≡ memory_word (sizes_in spec) source mind.word
    → loaded answer (counted (worded (sizes_in spec) mind)) ≡ worded (sizes_in spec) (with_loaded spec source (counted mind))
loaded_worded spec mind source answer limits one is =
    let few = (are_memory_words (sizes_in spec) limits.shape).few in
    ap (λ (words : List ℕ). record (counted (worded (sizes_in spec) mind)) { snapshot = words })
    (ap (λ (x : ℕ). set (memory_of (sizes_in spec) mind.snapshot) mind.word x) is ∙ sym (part_memory (sizes_in spec) source mind.snapshot mind.word (omega arith)))

-- ---- all lines

pub same_taken : (line : Line) (spec : RoomSpec) (fields : Fields) (i : ℕ) (words : List ℕ) (mind : MindOf StepMap) → StandsAt line spec fields i mind → Hold (sizes_in spec) words fields
    → taken_at line spec (counted (worded (sizes_in spec) mind)) (answer_of (move_at line spec (worded (sizes_in spec) mind)) words) ≡ worded_taken (sizes_in spec) (taken_on line spec fields mind.process (current_round mind) (counted mind))
same_taken Rest spec fields i words mind at held = next_answer spec fields words mind held at.range at.is_mind (next_process mind.goals mind.process) at.moves
same_taken Raise spec fields i words mind at held = refl
same_taken Snap spec fields i words mind at held =
    let one : mind.word < memory_words (sizes_in spec) = at.word in
    let into = with_loaded spec fields.step (counted mind) in
    let is = loaded_worded spec mind fields.step (slice_index words (index_in spec (places.Memory mind.word))) at.is_mind.limits one (held (places.Memory mind.word) one) in
    let within = part_within (sizes_in spec) mind.word fields.step mind.snapshot (λ a p _ _. at.range.step a p) at.snapshot in
    ap (λ (m : MindState). snapped spec (is_again m) m) is
    ∙ ap (λ (same : Bool). snapped spec same (worded (sizes_in spec) into)) (same_collects (sizes_in spec) at.is_mind.limits.shape into.snapshot mind.before within at.before)
    ∙ snapped_worded (sizes_in spec) spec (is_same_collect spec into) into
same_taken Show spec fields i words mind at held = showed_worded (sizes_in spec) spec (counted mind)
same_taken Enter spec fields i words mind at held = refl
same_taken Look spec fields i words mind at held =
    let j = mind.process in
    let k = current_round mind in
    let round = open_round spec mind at.is_mind at.open_at in
    let word : slice_index words (index_in spec (places.Levels j k)) ≡ packed (λ a. fields.level a j k) 2 spec.simulators = held (places.Levels j k) (at.is_mind.process, round) in
    ap (λ (levels : List ℕ). goes_on (Leave (has_level 2 levels)) (counted (worded (sizes_in spec) mind))) (ap (λ (w : ℕ). levels_of w spec.simulators) word ∙ same_levels (λ a. fields.level a j k) spec.simulators (λ a. at.range.level a j k))
same_taken (Leave saw_two) spec fields i words mind at held = refl
same_taken Ask spec fields i words mind at held =
    let j = mind.process in
    let k = current_round mind in
    let round = open_round spec mind at.is_mind at.open_at in
    ap (λ (chosen : Option ℕ). asked chosen (counted (worded (sizes_in spec) mind))) (chosen_at_place spec fields words j k held at.range at.is_mind.process round) ∙ asked_worded (sizes_in spec) spec (chosen_at spec fields j k) (counted mind)
same_taken (GetInput chosen) spec fields i words mind at held =
    let round = subst (λ (k : ℕ). IsAgreementRound (sizes_in spec) k) at.round (open_round spec mind at.is_mind at.open_at.0) in
    ap (λ (value : ℕ). got_input spec value (counted (worded (sizes_in spec) mind))) (held (places.Value chosen mind.process 0) (at.open_at.1, at.is_mind.process, round))
same_taken (GetView chosen) spec fields i words mind at held =
    let j = mind.process in
    let k = current_round mind in
    let view = fields.view chosen j k in
    let one : mind.word < memory_words (sizes_in spec) = at.word in
    let round = snapshot_round spec mind at.is_mind at.open_at.0 at.round in
    let into = with_loaded spec view (counted mind) in
    let is = loaded_worded spec mind view (slice_index words (index_in spec (places.View chosen j k mind.word))) at.is_mind.limits one (held (places.View chosen j k mind.word) (at.open_at.1, at.is_mind.process, round, one)) in
    let within = part_within (sizes_in spec) mind.word view mind.snapshot (at.range.view chosen j k) at.snapshot in
    ap (λ (m : MindState). got_view (entry_in spec m.snapshot) spec chosen m) is
    ∙ got_view_worded (sizes_in spec) spec (entry_in spec (memory_of (sizes_in spec) into.snapshot)) (entry_of_steps spec into.snapshot) chosen into (λ p below. same_row spec into.snapshot p at.is_mind.limits within below)
same_taken Values spec fields i words mind at held =
    let p = length mind.entries in
    let longer = length_with_one mind.entries (Some (min (shown_value spec fields mind.snapshot p) greatest)) in
    let below : p < processes spec = at.open_at.1 in
    ap (λ (value : ℕ). got_value (entry_in spec (memory_of (sizes_in spec) mind.snapshot)) spec value (counted (worded (sizes_in spec) mind))) (value_at_place spec fields words mind.snapshot p at.is_mind.limits at.snapshot held below at.open_at.2)
    ∙ gathered_worded (sizes_in spec) spec (entry_in spec (memory_of (sizes_in spec) mind.snapshot)) (entry_of_steps spec mind.snapshot) (mind.entries ++ Some (min (shown_value spec fields mind.snapshot p) greatest) ∷ []) (counted mind) (omega arith) (λ q less. same_row spec mind.snapshot q at.is_mind.limits at.snapshot less)
same_taken (Out decision) spec fields i words mind at held = refl
