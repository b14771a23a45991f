-- How many atomic steps a simulator takes before it is idle: at most its limit for each turn that it begins, and the rest of the
-- one that is open.
use Rattle.room_spec.specs.Sizes.{sizes_in}
use Rattle.std.proofs.Common.{◌≡◌, ℕ, ◌+◌, ◌-◌, ◌*◌, ◌<◌, ◌≤◌, min, Bool, true, false, cond, eqb, ltb, List, [], ◌∷◌, ◌++◌, length, Option, Some, None, refl, ap, ◌∙◌, arith}
use Rattle.std.proofs.Math.Nat.{suc-mul, add-mul}
use Rattle.std.proofs.lemmas.Nat.{mul-le}
use Rattle.protocol_lang.specs.declared.meaning.Action.{Action}
use Rattle.protocol_lang.specs.declared.meaning.Action.TheVariants as actions
use Rattle.protocol_lang.specs.Meaning.{next_action}
use Rattle.protocol_lang.specs.Numbers.{greatest}
use Rattle.std.specs.Prelude.{◌&&◌, ◌||◌}
use Rattle.safe_agreement.specs.Levels.{has_level}
use Rattle.level_cells.specs.Fields.{levels_of}
use Rattle.room_spec.specs.Rooms.{RoomSpec, processes}
use Rattle.simulator.specs.declared.goal.Goal.{Goal}
use Rattle.simulator.specs.declared.goal.Goal.TheVariants as goals
use Rattle.simulator.specs.declared.line.Line.{Line}
use Rattle.simulator.specs.declared.line.Line.TheVariants.{Rest, Raise, Snap, Show, Enter, Look, Leave, Ask, GetInput, GetView, Values, Out}
use Rattle.simulator.specs.declared.sweep.Ready.TheVariants as ready
use Rattle.simulator.specs.declared.turn.Turn.{Turn}
use Rattle.simulator.specs.declared.turn.Turn.TheVariants.{Useful}
use Rattle.simulator.specs.Bounds.{answered, answered_all, IsReadyThroughout, agreement_rounds}
use Rattle.simulator.specs.Minds.{MindState, goal_at, current_round, next_process, unfinished_in, current_input}
use Rattle.simulator.specs.Moves.{entry_in, chosen_in, is_again, loaded, taken_at, taken}
use Rattle.simulator.specs.Ranges.{IsMind, turn_limit}
use Rattle.simulator.specs.Sweeps.{SweepState, is_resting, ready_of}
use Rattle.simulator.specs.Turns.{TakenOf, counted, begun, goes_on, ended, asked, after_write, acted, most_collects, on_word, padded, gathered_all, gathered, opened_at, opened, scanned, with_decision, words_in, gets_in}
use Rattle.simulator.proofs.Bounding.{open_turns, falls_all, busy_by, open_most, turns_before}
use Rattle.simulator.proofs.Keeping.{kept}
use Rattle.simulator.proofs.Processes.{none_next}
use Rattle.simulator.proofs.Stepping.{bounded, moves, steps_by_one}

-- ---- one step of a turn

-- no turn is begun, and a turn that stays open has the same steps
record IsOn (mind : MindState) (after : TakenOf (List ℕ)) : Type 0 where
  turns : after.mind.turns ≡ mind.turns
  stays : is_resting after.mind.line ≡ false → after.mind.turn_steps ≡ mind.turn_steps

on_line : (line : Line) (mind : MindState) → IsOn mind (goes_on line mind)
on_line line mind = record { turns = refl; stays = λ still. refl }

on_end : (turn : Turn) (goal : Goal) (mind : MindState) → IsOn mind (ended turn goal mind)
on_end turn goal mind = record { turns = refl; stays = λ still. absurd cc }

on_asked : (chosen : Option ℕ) (mind : MindState) → IsOn mind (asked chosen mind)
on_asked None mind = record { turns = refl; stays = λ still. absurd cc }
on_asked (Some chosen) mind = on_line (gets_in (current_round mind) chosen) mind

on_acted : (spec : RoomSpec) (action : Action) (mind : MindState) → IsOn mind (acted spec action mind)
on_acted spec (actions.Write value) mind = on_end Useful (after_write spec.rounds (current_round mind) value) mind
on_acted spec (actions.Decide decision) mind = on_line (Out decision) mind

on_test : (b : Bool) (mind : MindState) (one other : TakenOf (List ℕ)) → IsOn mind one → IsOn mind other → IsOn mind (cond b one other)
on_test true mind one other is that = is
on_test false mind one other is that = that

on_gathered_all : (spec : RoomSpec) (mind : MindState) → IsOn mind (gathered_all spec mind)
on_gathered_all spec mind =
    let action = next_action spec.protocol (current_input spec mind) mind.process (current_round mind) mind.entries in
    on_test (ltb (length mind.entries) (processes spec)) mind (goes_on Values mind) (acted spec action mind) (on_line Values mind) (on_acted spec action mind)

on_gathered : (row : ℕ → ℕ) (spec : RoomSpec) (entries : List (Option ℕ)) (mind : MindState) → IsOn mind (gathered row spec entries mind)
on_gathered row spec entries mind =
    let is = on_gathered_all spec (record mind { entries = padded row (processes spec) entries }) in
    record { turns = is.turns; stays = is.stays }

on_word_line : (spec : RoomSpec) (line : Line) (mind : MindState) (last : TakenOf (List ℕ)) → IsOn mind last → IsOn mind (on_word spec line mind last)
on_word_line spec line mind last is = on_test (ltb (mind.word + 1) (words_in spec)) mind _ last (record { turns = refl; stays = λ still. refl }) is

on_scanned : (spec : RoomSpec) (same : Bool) (mind : MindState) → IsOn mind (scanned spec same mind)
on_scanned spec same mind =
    on_test (eqb (words_in spec) 1) mind _ _ (on_line Show mind) (on_test ((same && ltb 1 (mind.collects + 1)) || eqb (mind.collects + 1) (most_collects spec)) mind _ _ (record { turns = refl; stays = λ still. refl }) (record { turns = refl; stays = λ still. refl }))

on_opened_at : (goal : Goal) (chosen : Option ℕ) (mind : MindState) → IsOn mind (opened_at goal chosen mind)
on_opened_at (goals.Write round value) chosen mind = on_line Raise mind
on_opened_at (goals.Ask round) chosen mind = on_asked chosen mind
on_opened_at (goals.Propose value) chosen mind = on_line Enter mind
on_opened_at goals.AskInput chosen mind = on_asked chosen mind
on_opened_at goals.Done chosen mind = on_line Rest mind
on_opened_at goals.Spent chosen mind = on_line Rest mind

in_turn : (line : Line) (spec : RoomSpec) (mind : MindState) (answer : ℕ) → is_resting line ≡ false → IsOn (counted mind) (taken_at line spec (counted mind) answer)
in_turn Rest spec mind answer still = absurd cc
in_turn Raise spec mind answer still = on_line Snap (counted mind)
in_turn Snap spec mind answer still =
    let got = loaded answer (counted mind) in
    let is = on_word_line spec Snap got _ (let scan = on_scanned spec (is_again got) (record got { word = 0 }) in record { turns = scan.turns; stays = scan.stays }) in
    record { turns = is.turns; stays = is.stays }
in_turn Show spec mind answer still = on_word_line spec Show (counted mind) _ (record { turns = refl; stays = λ still. refl })
in_turn Enter spec mind answer still = on_line Look (counted mind)
in_turn Look spec mind answer still = on_line (Leave (has_level 2 (levels_of answer spec.simulators))) (counted mind)
in_turn (Leave saw_two) spec mind answer still = on_line Ask (counted mind)
in_turn Ask spec mind answer still = on_asked (chosen_in spec answer) (counted mind)
in_turn (GetInput chosen) spec mind answer still = record { turns = refl; stays = λ still. absurd cc }
in_turn (GetView chosen) spec mind answer still =
    let got = loaded answer (counted mind) in
    let is = on_word_line spec (GetView chosen) got _ (let gathering = on_gathered (entry_in spec got.snapshot) spec [] (record got { word = 0 }) in record { turns = gathering.turns; stays = gathering.stays }) in
    record { turns = is.turns; stays = is.stays }
in_turn Values spec mind answer still = on_gathered (entry_in spec mind.snapshot) spec (mind.entries ++ Some (min answer greatest) ∷ []) (counted mind)
in_turn (Out decision) spec mind answer still =
    let is = on_end Useful goals.Done (with_decision decision (counted mind)) in
    record { turns = is.turns; stays = is.stays }

-- ---- the first step of a turn

-- one turn is begun, and it has one step more where it stays open
record IsBegun (mind : MindState) (after : TakenOf (List ℕ)) : Type 0 where
  turns : after.mind.turns ≡ mind.turns + 1
  stays : is_resting after.mind.line ≡ false → after.mind.turn_steps ≡ mind.turn_steps + 1

begins : (spec : RoomSpec) (next : Option ℕ) (mind : MindState) (answer quiet : ℕ) → next_process mind.goals mind.process ≡ next → quiet < unfinished_in mind.goals → IsBegun mind (opened next (chosen_in spec answer) (counted mind))
begins spec None mind answer quiet found busy = absurd (omega (arith, none_next mind.goals mind.process found, busy))
begins spec (Some process) mind answer quiet found busy =
    let is = on_opened_at (goal_at mind.goals process) (chosen_in spec answer) (begun process (counted mind)) in
    record { turns = is.turns; stays = is.stays }

at_rest : (line : Line) (spec : RoomSpec) (mind : MindState) (answer quiet : ℕ) → is_resting line ≡ true → quiet < unfinished_in mind.goals → IsBegun mind (taken_at line spec (counted mind) answer)
at_rest Rest spec mind answer quiet rests busy = begins spec (next_process mind.goals mind.process) mind answer quiet refl busy
at_rest Raise spec mind answer quiet rests busy = absurd cc
at_rest Snap spec mind answer quiet rests busy = absurd cc
at_rest Show spec mind answer quiet rests busy = absurd cc
at_rest Enter spec mind answer quiet rests busy = absurd cc
at_rest Look spec mind answer quiet rests busy = absurd cc
at_rest (Leave saw_two) spec mind answer quiet rests busy = absurd cc
at_rest Ask spec mind answer quiet rests busy = absurd cc
at_rest (GetInput chosen) spec mind answer quiet rests busy = absurd cc
at_rest (GetView chosen) spec mind answer quiet rests busy = absurd cc
at_rest Values spec mind answer quiet rests busy = absurd cc
at_rest (Out decision) spec mind answer quiet rests busy = absurd cc

-- ---- what is spent

-- how many steps the open turn may still take, of so many
abbrev left_of : Bool → ℕ → ℕ → ℕ
left_of true most steps = 0
left_of false most steps = most - steps

-- the steps that a mind has taken, and those that its open turn may still take
abbrev spent : ℕ → MindState → ℕ
spent most mind = mind.steps + left_of (is_resting mind.line) most mind.turn_steps

spent_by : (b : Bool) (most steps turn_steps more : ℕ) → (b ≡ false → turn_steps ≡ more) → steps + left_of b most turn_steps ≤ steps + (most - more)
spent_by true most steps turn_steps more is = omega arith
spent_by false most steps turn_steps more is = omega (arith, is refl)

spends_by : (b : Bool) (spec : RoomSpec) (mind : MindState) (quiet answer : ℕ) → is_resting mind.line ≡ b → IsMind spec mind → ready_of spec mind quiet ≡ ready.Step
    → spent (turn_limit spec) (taken spec mind answer).mind + mind.turns * (turn_limit spec) ≤ mind.steps + left_of b (turn_limit spec) mind.turn_steps + (taken spec mind answer).mind.turns * (turn_limit spec)
spends_by true spec mind quiet answer rests is ready =
    let after = (taken spec mind answer).mind in
    let begins = at_rest mind.line spec mind answer quiet rests (busy_by spec mind quiet ready rests) in
    let left = spent_by (is_resting after.line) (turn_limit spec) after.steps after.turn_steps (mind.turn_steps + 1) begins.stays in
    let product : after.turns * (turn_limit spec) ≡ mind.turns * (turn_limit spec) + (turn_limit spec) = ap (λ (k : ℕ). k * (turn_limit spec)) (begins.turns ∙ omega arith) ∙ suc-mul mind.turns (turn_limit spec) in
    omega (arith, left, product, bounded spec mind is, steps_by_one spec mind answer)
spends_by false spec mind quiet answer still is ready =
    let after = (taken spec mind answer).mind in
    let goes = in_turn mind.line spec mind answer still in
    let few = bounded spec mind is in
    let left = spent_by (is_resting after.line) (turn_limit spec) after.steps after.turn_steps (mind.turn_steps + 1) goes.stays in
    let product : after.turns * (turn_limit spec) ≡ mind.turns * (turn_limit spec) = ap (λ (k : ℕ). k * (turn_limit spec)) goes.turns in
    omega (arith, left, product, few, steps_by_one spec mind answer)

spends : (spec : RoomSpec) (mind : MindState) (quiet answer : ℕ) → IsMind spec mind → ready_of spec mind quiet ≡ ready.Step
    → spent (turn_limit spec) (taken spec mind answer).mind + mind.turns * (turn_limit spec) ≤ spent (turn_limit spec) mind + (taken spec mind answer).mind.turns * (turn_limit spec)
spends spec mind quiet answer is ready =
    let by = spends_by (is_resting mind.line) spec mind quiet answer refl is ready in
    omega (arith, by)

spends_all : (spec : RoomSpec) (sweep : SweepState) (answers : List ℕ) → IsMind spec sweep.mind → IsReadyThroughout spec sweep answers
    → spent (turn_limit spec) (answered_all spec sweep answers).mind + sweep.mind.turns * (turn_limit spec) ≤ spent (turn_limit spec) sweep.mind + (answered_all spec sweep answers).mind.turns * (turn_limit spec)
spends_all spec sweep [] is ready = omega arith
spends_all spec sweep (answer ∷ answers) is ready =
    let here = spends spec sweep.mind sweep.quiet answer is ready.0 in
    let next = kept spec sweep.mind answer is (moves spec sweep.mind sweep.quiet is ready.0) in
    omega (arith, here, spends_all spec (answered spec sweep answer) answers next ready.1)

-- ---- in all

open_left : (line : Line) (most steps : ℕ) → left_of (is_resting line) most steps ≤ open_turns line * most
open_left Rest most steps = omega arith
open_left Raise most steps = omega arith
open_left Snap most steps = omega arith
open_left Show most steps = omega arith
open_left Enter most steps = omega arith
open_left Look most steps = omega arith
open_left (Leave saw_two) most steps = omega arith
open_left Ask most steps = omega arith
open_left (GetInput chosen) most steps = omega arith
open_left (GetView chosen) most steps = omega arith
open_left Values most steps = omega arith
open_left (Out decision) most steps = omega arith

pub steps_bounded : (spec : RoomSpec) (sweep : SweepState) (answers : List ℕ) → IsMind spec sweep.mind → IsReadyThroughout spec sweep answers
    → (answered_all spec sweep answers).mind.steps ≤ sweep.mind.steps + (processes spec * agreement_rounds (sizes_in spec) + 1) * processes spec * (turn_limit spec)
steps_bounded spec sweep answers is ready =
    let n = processes spec in
    let last = answered_all spec sweep answers in
    let most = (n * agreement_rounds (sizes_in spec) + 1) * n in
    let turns : last.mind.turns + open_turns sweep.mind.line ≤ sweep.mind.turns + most =
    omega (arith, turns_before n spec.rounds last.mind last.quiet, falls_all spec sweep answers is ready, open_most spec sweep.mind sweep.quiet is) in
    let product = mul-le (last.mind.turns + open_turns sweep.mind.line) (turn_limit spec) (sweep.mind.turns + most) (turn_limit spec) turns (omega arith) in
    let one = add-mul last.mind.turns (open_turns sweep.mind.line) (turn_limit spec) in
    let other = add-mul sweep.mind.turns most (turn_limit spec) in
    omega (arith, product, one, other, open_left sweep.mind.line (turn_limit spec) sweep.mind.turn_steps, spends_all spec sweep answers is ready)
