-- No number in the JSON of a step has a fraction.
use Rattle.std.proofs.Common.{◌≡◌, Bool, true, false, cond, ◌||◌, ℕ, ◌-◌, ◌==◌, List, Option, Some, None, refl}
use Rattle.std.specs.List.{range_with_len}
use Rattle.std.specs.Prelude.{drop}
use Rattle.serde_json.specs.Data.{null}
use Rattle.serde_json.specs.Written.{has_float}
use Rattle.json_lines.specs.Values.{number_data, text_data}
use Rattle.json_lines.proofs.CallerLemmas.{both, items_are, numbers_are, text_is}
use Rattle.level_cells.specs.Fields.{levels_of}
use Rattle.safe_agreement.specs.Levels.{resolved_of}
use Rattle.room_spec.specs.Rooms.{RoomSpec, processes}
use Rattle.view_table.specs.declared.place.Place.{Place}
use Rattle.view_table.specs.declared.place.Place.TheVariants.{Memory, Levels, View, Value, Out}
use Rattle.simulator.specs.declared.goal.Goal.{Goal}
use Rattle.simulator.specs.declared.goal.Goal.TheVariants.{Write, Ask, Propose, AskInput, Done, Spent}
use Rattle.room_steps.specs.declared.step.AtomicStep.{AtomicStep}
use Rattle.ws_history.specs.declared.effects.Effect.{Effect}
use Rattle.ws_history.specs.declared.effects.Effect.TheVariants.{Write as WriteEffect, Snapshot, Decision}
use Rattle.ws_history.specs.declared.unreadable.Unreadable.{Unreadable}
use Rattle.step_words.specs.Data.{decides_data, own_step_data, own_steps_data, access_data, place_data, steps_data, word_data}
use Rattle.step_words.specs.Json.{agreement_data, agreement_of, decision_note, effect_data, effect_note, end_data, end_note, notes_data, obstacle_note, quiet_data, shows_data, simulator_data, simulators_data, step_data, unresolved_data}
use Rattle.step_words.specs.Lines.{decision_text, effect_text, ending_text, unreadable_text}
use Rattle.step_words.specs.declared.step.Consequence.{Consequence}
use Rattle.step_words.specs.Names.{operation_text}
use Rattle.step_words.specs.Sights.{memory_with, sight_text}

effect_is : (effect : Option Effect) → has_float (effect_data effect) ≡ false
effect_is None = refl
effect_is (Some (WriteEffect process value)) = refl
effect_is (Some (Snapshot process)) = refl
effect_is (Some (Decision process value)) = refl

simulator_is : (simulator : Option ℕ) → has_float (simulator_data simulator) ≡ false
simulator_is None = refl
simulator_is (Some simulator) = refl

simulators_are : (blocker chosen inside : Option ℕ) → has_float (simulators_data blocker chosen inside) ≡ false
simulators_are blocker chosen inside =
    let one = has_float (simulator_data chosen) in
    let other = has_float (simulator_data inside) in
    both (has_float (simulator_data blocker)) (one || (other || false)) (simulator_is blocker) (both one (other || false) (simulator_is chosen) (both other false (simulator_is inside) refl))

unresolved_is : (round : ℕ) (blocker chosen inside : Option ℕ) → has_float (unresolved_data round blocker chosen inside) ≡ false
unresolved_is round blocker chosen inside = simulators_are blocker chosen inside

agreement_of_is : (agreement : Option Unreadable) (levels : List ℕ) → has_float (agreement_of agreement levels) ≡ false
agreement_of_is None levels = simulators_are None (resolved_of levels) None
agreement_of_is (Some agreement) levels = simulators_are agreement.blocker agreement.chosen (Some agreement.inside)

agreement_is : (place : Place) (spec : RoomSpec) (word : ℕ) (agreement : Option Unreadable) → has_float (agreement_data place spec word agreement) ≡ false
agreement_is (Memory at) spec word agreement = refl
agreement_is (Levels process round) spec word agreement = agreement_of_is agreement (levels_of word spec.simulators)
agreement_is (View simulator process round at) spec word agreement = refl
agreement_is (Value simulator process round) spec word agreement = refl
agreement_is (Out simulator process) spec word agreement = refl

effect_note_is : (effect : Option Effect) → has_float (effect_note effect) ≡ false
effect_note_is None = refl
effect_note_is (Some effect) = text_is (effect_text effect)

decides_is : (decision : Option ℕ) → has_float (decides_data decision) ≡ false
decides_is None = refl
decides_is (Some decision) = refl

decision_note_is : (simulator : ℕ) (decision : Option ℕ) → has_float (decision_note simulator decision) ≡ false
decision_note_is simulator None = refl
decision_note_is simulator (Some decision) = text_is (decision_text simulator decision)

end_note_is : (step : AtomicStep) (end : Option Goal) → has_float (end_note step end) ≡ false
end_note_is step None = refl
end_note_is step (Some goal) = text_is (ending_text step.line step goal)

obstacle_note_is : (unreadable : Option Unreadable) → has_float (obstacle_note unreadable) ≡ false
obstacle_note_is None = refl
obstacle_note_is (Some agreement) = text_is (unreadable_text agreement)

notes_are : (step : AtomicStep) (consequence : Consequence) → has_float (notes_data step consequence) ≡ false
notes_are step consequence =
    let effect = has_float (effect_note consequence.effect) in
    let one = has_float (end_note step step.end) in
    let other = has_float (obstacle_note consequence.unreadable) in
    both (has_float (decision_note step.simulator step.decision)) (effect || (one || (other || false))) (decision_note_is step.simulator step.decision)
    (both effect (one || (other || false)) (effect_note_is consequence.effect)
    (both one (other || false) (end_note_is step step.end) (both other false (obstacle_note_is consequence.unreadable) refl)))

quiet_is : (round : ℕ) (unreadable : Option Unreadable) → has_float (quiet_data round unreadable) ≡ false
quiet_is round None = unresolved_is round None None None
quiet_is round (Some agreement) = unresolved_is round agreement.blocker agreement.chosen (Some agreement.inside)

end_is : (end : Option Goal) (unreadable : Option Unreadable) → has_float (end_data end unreadable) ≡ false
end_is None unreadable = refl
end_is (Some (Write round value)) unreadable = refl
end_is (Some (Ask round)) unreadable = quiet_is round unreadable
end_is (Some (Propose value)) unreadable = refl
end_is (Some AskInput) unreadable = quiet_is 0 unreadable
end_is (Some Done) unreadable = refl
end_is (Some Spent) unreadable = refl

place_is : (place : Place) → has_float (place_data place) ≡ false
place_is (Memory word) = refl
place_is (Levels process round) = refl
place_is (View simulator process round word) = refl
place_is (Value simulator process round) = refl
place_is (Out simulator process) = refl

own_steps_are : (spec : RoomSpec) (words : List ℕ) (simulator : ℕ) → has_float (own_steps_data spec words simulator) ≡ false
own_steps_are spec words simulator = items_are (own_step_data spec words simulator) (λ (process : ℕ). refl) (range_with_len 0 (processes spec))

steps_are : (spec : RoomSpec) (at word : ℕ) → has_float (steps_data spec at word) ≡ false
steps_are spec at word = items_are (own_steps_data spec (memory_with at word)) (own_steps_are spec (memory_with at word)) (range_with_len 0 spec.simulators)

decision_by : (none : Bool) (word : ℕ) → has_float (cond none null (number_data (word - 1))) ≡ false
decision_by true word = refl
decision_by false word = refl

word_is : (place : Place) (spec : RoomSpec) (word : ℕ) → has_float (word_data place spec word) ≡ false
word_is (Memory at) spec word = steps_are spec at word
word_is (Levels process round) spec word = numbers_are (levels_of word spec.simulators)
word_is (View simulator process round at) spec word = steps_are spec at word
word_is (Value simulator process round) spec word = refl
word_is (Out simulator process) spec word = decision_by (word == 0) word

access_is : (spec : RoomSpec) (step : AtomicStep) → has_float (access_data spec step) ≡ false
unfolding access_data
access_is spec step =
    let before = has_float (word_data step.place spec step.word) in
    let decides = has_float (decides_data step.decision) in
    let place = has_float (place_data step.place) in
    both (has_float (word_data step.place spec step.after)) (before || (decides || (place || false))) (word_is step.place spec step.after)
    (both before (decides || (place || false)) (word_is step.place spec step.word) (both decides (place || false) (decides_is step.decision) (both place false (place_is step.place) refl)))

pub step_is : (spec : RoomSpec) (n : ℕ) (step : AtomicStep) (consequence : Consequence) → has_float (step_data spec n step consequence) ≡ false
step_is spec n step consequence =
    let shows = has_float (shows_data spec step) in
    let operation = has_float (text_data (operation_text spec step)) in
    let notes = has_float (notes_data step consequence) in
    let end = has_float (end_data step.end consequence.unreadable) in
    let what = has_float (effect_data consequence.effect) in
    let agreement = has_float (agreement_data step.place spec step.after consequence.agreement) in
    let after_operation = shows || false in
    let after_notes = operation || after_operation in
    let after_end = notes || after_notes in
    let after_what = end || after_end in
    let after_agreement = what || after_what in
    let from_shows = both shows false (text_is (drop 1 (sight_text spec step))) refl in
    let from_operation = both operation after_operation (text_is (operation_text spec step)) from_shows in
    let from_notes = both notes after_notes (notes_are step consequence) from_operation in
    let from_end = both end after_end (end_is step.end consequence.unreadable) from_notes in
    let from_effect = both what after_what (effect_is consequence.effect) from_end in
    let from_agreement = both agreement after_agreement (agreement_is step.place spec step.after consequence.agreement) from_effect in
    both (has_float (access_data spec step)) (agreement || after_agreement) (access_is spec step) from_agreement
