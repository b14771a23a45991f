-- What holds of a step at any line, and what a mind does that is ready for one.
use Rattle.std.proofs.Common.{◌≡◌, ◌≢◌, ℕ, zero, suc, ◌+◌, ◌*◌, ◌<◌, ◌≤◌, Bool, true, false, cond, eqb, ltb, leb, List, [], length, Option, Some, None, refl, sym, ap, ◌∙◌, subst, arith}
use Rattle.std.proofs.lemmas.Bool.{eqb-true, ltb-true, ltb-false, lt-ltb, le-ltb, leb-false}
use Rattle.std.proofs.lemmas.Nat.{mul-le}
use Rattle.protocol_lang.specs.declared.meaning.Action.{Action}
use Rattle.protocol_lang.specs.declared.meaning.Action.TheVariants as actions
use Rattle.room_spec.specs.Rooms.{RoomSpec, IsWithinLimits, processes}
use Rattle.room_spec.specs.Sizes.{sizes_in}
use Rattle.room_spec.proofs.CallerLemmas.{are_memory_words}
use Rattle.simulator.specs.declared.goal.Goal.{Goal}
use Rattle.simulator.specs.declared.goal.Goal.TheVariants as goals
use Rattle.simulator.specs.declared.line.Line.{Line}
use Rattle.simulator.specs.declared.line.Line.TheVariants.{Rest, Raise, Snap, Show, Enter, Look, Leave, Ask, GetInput, GetView, Values, Out}
use Rattle.simulator.specs.declared.turn.Turn.{Turn}
use Rattle.simulator.specs.declared.turn.Turn.TheVariants.{Still}
use Rattle.simulator.specs.declared.operation.Move.TheVariants.{Finished, OutOfTurns}
use Rattle.simulator.specs.declared.sweep.Ready.TheVariants as answers
use Rattle.simulator.specs.Minds.{MindState, is_unfinished, goal_at, next_process, unfinished_in}
use Rattle.simulator.specs.Moves.{levels_index, level_unit, entry_in, chosen_in, is_again, leave_by, loaded, first_move_at, first_move, move_at, move_of, IsOperation, taken_at, taken}
use Rattle.simulator.specs.Turns.{TakenOf, counted, goes_on, asked, acted, gathered_all, gathered, most_collects, on_word, opened_at, opened, scanned, words_in}
use Rattle.simulator.specs.Ranges.{IsCollectCount, IsMind, most_steps, scan_steps, turn_limit, words_at}
use Rattle.simulator.specs.Sweeps.{is_resting, ready_between, ready_of}
use Rattle.simulator.proofs.Processes.{IsLeft, next_is_left, next_none, next_some}

-- ---- turns are short

scan_by : (b : Bool) (words collects most word : ℕ) → b ≡ eqb words 1 → collects < most → word < words → (words ≡ 1 → collects ≡ 0) → words * collects + word + 1 ≤ cond b 1 (words * most)
scan_by true words collects most word is less within one =
    let single : words ≡ 1 = eqb-true words 1 (sym is) in
    let none = one single in
    let product : words * collects ≡ 0 = ap (λ x. words * x) none ∙ omega arith in
    omega (arith, product, single, within)
scan_by false words collects most word is less within one =
    let product : words * suc collects ≤ words * most = mul-le words (suc collects) words most (omega arith) less in
    let more : words * suc collects ≡ words * collects + words = grind arith in
    omega (arith, product, more, within)

-- a scan that isn't over has taken fewer steps than a scan may
pub scan_below : (spec : RoomSpec) (word collects : ℕ) → IsCollectCount spec Snap collects → word < words_in spec → words_in spec * collects + word + 1 ≤ scan_steps spec
scan_below spec word collects count within = scan_by (eqb (words_in spec) 1) (words_in spec) collects (most_collects spec) word refl count.0 within count.1

most_below : (line : Line) (spec : RoomSpec) (word collects entries : ℕ) → word < words_at spec line → IsCollectCount spec line collects → 1 ≤ words_in spec → entries ≤ processes spec → most_steps spec line word collects entries < turn_limit spec
unfolding turn_limit
most_below Rest spec word collects entries within count some few = omega arith
most_below Raise spec word collects entries within count some few = omega arith
most_below Snap spec word collects entries within count some few = omega (arith, scan_below spec word collects count within)
most_below Show spec word collects entries within count some few = omega (arith, within)
most_below Enter spec word collects entries within count some few = omega arith
most_below Look spec word collects entries within count some few = omega arith
most_below (Leave saw_two) spec word collects entries within count some few = omega arith
most_below Ask spec word collects entries within count some few = omega arith
most_below (GetInput chosen) spec word collects entries within count some few = omega (arith, some)
most_below (GetView chosen) spec word collects entries within count some few = omega (arith, within)
most_below Values spec word collects entries within count some few = omega (arith, few)
most_below (Out decision) spec word collects entries within count some few = omega (arith, few)

pub words_some : (spec : RoomSpec) → IsWithinLimits spec → (1 ≤ words_in spec) × (words_in spec ≤ 4)
words_some spec limits = let words = are_memory_words (sizes_in spec) limits.shape in (words.some, words.few)

pub bounded : (spec : RoomSpec) (mind : MindState) → IsMind spec mind → mind.turn_steps < turn_limit spec
bounded spec mind is = let most = most_below mind.line spec mind.word mind.collects (length mind.entries) is.word is.collects (words_some spec is.limits).0 is.entries in omega (arith, is.few, most)

-- ---- a step keeps the number and counts itself; after one that ends a turn none are counted in the turn

-- the same number, one step more, also in a turn that goes on, and a turn that has ended has no steps
pub record IsStepped (mind : MindState) (after : TakenOf (List ℕ)) : Type 0 where
  pub number : after.mind.number ≡ mind.number
  pub steps : after.mind.steps ≡ mind.steps + 1
  pub rests : after.turn ≢ Still → after.mind.turn_steps ≡ 0
  pub stays : is_resting after.mind.line ≡ false → after.mind.turn_steps ≡ mind.turn_steps + 1

-- the same number and steps, also in a turn that goes on, and a turn that has ended has no steps
record IsMoved (mind : MindState) (after : TakenOf (List ℕ)) : Type 0 where
  number : after.mind.number ≡ mind.number
  steps : after.mind.steps ≡ mind.steps
  rests : after.turn ≢ Still → after.mind.turn_steps ≡ 0
  stays : is_resting after.mind.line ≡ false → after.mind.turn_steps ≡ mind.turn_steps

moved_on : (line : Line) (mind : MindState) → IsMoved mind (goes_on line mind)
moved_on line mind = record { number = refl; steps = refl; rests = λ ends. absurd (ends refl); stays = λ goes. refl }

moved_asked : (chosen : Option ℕ) (mind : MindState) → IsMoved mind (asked chosen mind)
moved_asked None mind = record { number = refl; steps = refl; rests = λ ends. refl; stays = λ goes. absurd cc }
moved_asked (Some chosen) mind = record { number = refl; steps = refl; rests = λ ends. absurd (ends refl); stays = λ goes. refl }

moved_acted : (spec : RoomSpec) (action : Action) (mind : MindState) → IsMoved mind (acted spec action mind)
moved_acted spec (actions.Write value) mind = record { number = refl; steps = refl; rests = λ ends. refl; stays = λ goes. absurd cc }
moved_acted spec (actions.Decide decision) mind = record { number = refl; steps = refl; rests = λ ends. absurd (ends refl); stays = λ goes. refl }

moved_by : (b : Bool) (mind : MindState) (first second : TakenOf (List ℕ)) → IsMoved mind first → IsMoved mind second → IsMoved mind (cond b first second)
moved_by true mind first second is other = is
moved_by false mind first second is other = other

moved_word : (spec : RoomSpec) (line : Line) (mind : MindState) (last : TakenOf (List ℕ)) → IsMoved mind last → IsMoved mind (on_word spec line mind last)
moved_word spec line mind last is = moved_by (ltb (mind.word + 1) (words_in spec)) mind _ last (record { number = refl; steps = refl; rests = λ ends. absurd (ends refl); stays = λ goes. refl }) is

moved_scanned : (spec : RoomSpec) (same : Bool) (mind : MindState) → IsMoved mind (scanned spec same mind)
moved_scanned spec same mind = moved_by (eqb (words_in spec) 1) mind _ _ (moved_on Show mind) (moved_by _ mind _ _ (record { number = refl; steps = refl; rests = λ ends. absurd (ends refl); stays = λ goes. refl }) (record { number = refl; steps = refl; rests = λ ends. absurd (ends refl); stays = λ goes. refl }))

moved_all : (spec : RoomSpec) (mind : MindState) → IsMoved mind (gathered_all spec mind)
moved_all spec mind = moved_by (ltb (length mind.entries) (processes spec)) mind _ _ (moved_on Values mind) (moved_acted spec _ mind)

moved_gathered : (row : ℕ → ℕ) (spec : RoomSpec) (entries : List (Option ℕ)) (mind : MindState) → IsMoved mind (gathered row spec entries mind)
moved_gathered row spec entries mind = let is = moved_all spec _ in record { number = is.number; steps = is.steps; rests = is.rests; stays = is.stays }

moved_opened_at : (goal : Goal) (chosen : Option ℕ) (mind : MindState) → IsMoved mind (opened_at goal chosen mind)
moved_opened_at (goals.Write round value) chosen mind = moved_on Raise mind
moved_opened_at (goals.Ask round) chosen mind = moved_asked chosen mind
moved_opened_at (goals.Propose value) chosen mind = moved_on Enter mind
moved_opened_at goals.AskInput chosen mind = moved_asked chosen mind
moved_opened_at goals.Done chosen mind = moved_on Rest mind
moved_opened_at goals.Spent chosen mind = moved_on Rest mind

moved_opened : (next chosen : Option ℕ) (mind : MindState) → IsMoved mind (opened next chosen mind)
moved_opened None chosen mind = moved_on Rest mind
moved_opened (Some process) chosen mind = let is = moved_opened_at (goal_at mind.goals process) chosen _ in record { number = is.number; steps = is.steps; rests = is.rests; stays = is.stays }

moved_taken : (line : Line) (spec : RoomSpec) (mind : MindState) (answer : ℕ) → IsMoved mind (taken_at line spec mind answer)
moved_taken Rest spec mind answer = moved_opened (next_process mind.goals mind.process) (chosen_in spec answer) mind
moved_taken Raise spec mind answer = moved_on Snap mind
moved_taken Snap spec mind answer =
    let is = moved_word spec Snap (loaded answer mind) _ (let scan = moved_scanned spec (is_again (loaded answer mind)) (record (loaded answer mind) { word = 0 }) in record { number = scan.number; steps = scan.steps; rests = scan.rests; stays = scan.stays }) in
    record { number = is.number; steps = is.steps; rests = is.rests; stays = is.stays }
moved_taken Show spec mind answer = moved_word spec Show mind _ (record { number = refl; steps = refl; rests = λ ends. absurd (ends refl); stays = λ goes. refl })
moved_taken Enter spec mind answer = moved_on Look mind
moved_taken Look spec mind answer = moved_on _ mind
moved_taken (Leave saw_two) spec mind answer = moved_on Ask mind
moved_taken Ask spec mind answer = moved_asked (chosen_in spec answer) mind
moved_taken (GetInput chosen) spec mind answer = record { number = refl; steps = refl; rests = λ ends. refl; stays = λ goes. absurd cc }
moved_taken (GetView chosen) spec mind answer =
    let got = loaded answer mind in
    let is = moved_word spec (GetView chosen) got _ (let gathering = moved_gathered (entry_in spec got.snapshot) spec [] (record got { word = 0 }) in record { number = gathering.number; steps = gathering.steps; rests = gathering.rests; stays = gathering.stays }) in
    record { number = is.number; steps = is.steps; rests = is.rests; stays = is.stays }
moved_taken Values spec mind answer = moved_gathered (entry_in spec mind.snapshot) spec _ mind
moved_taken (Out decision) spec mind answer = record { number = refl; steps = refl; rests = λ ends. refl; stays = λ goes. absurd cc }

pub stepped : (spec : RoomSpec) (mind : MindState) (answer : ℕ) → IsStepped mind (taken spec mind answer)
stepped spec mind answer = let is = moved_taken mind.line spec (counted mind) answer in record { number = is.number; steps = is.steps; rests = is.rests; stays = is.stays }

pub keeps_number : (spec : RoomSpec) (mind : MindState) (answer : ℕ) → (taken spec mind answer).mind.number ≡ mind.number
keeps_number spec mind answer = let is = stepped spec mind answer in is.number

pub steps_by_one : (spec : RoomSpec) (mind : MindState) (answer : ℕ) → (taken spec mind answer).mind.steps ≡ mind.steps + 1
steps_by_one spec mind answer = let is = stepped spec mind answer in is.steps

pub stays_in_turn : (spec : RoomSpec) (mind : MindState) (answer : ℕ) → is_resting (taken spec mind answer).mind.line ≡ false → (taken spec mind answer).mind.turn_steps ≡ mind.turn_steps + 1
stays_in_turn spec mind answer = let is = stepped spec mind answer in is.stays

pub rests : (spec : RoomSpec) (mind : MindState) (answer : ℕ) → (taken spec mind answer).turn ≢ Still → (taken spec mind answer).mind.turn_steps ≡ 0
rests spec mind answer = let is = stepped spec mind answer in is.rests

pub rests_of : (spec : RoomSpec) (mind after : MindState) (turn : Turn) (answer : ℕ) → after ≡ (taken spec mind answer).mind → turn ≡ (taken spec mind answer).turn → turn ≢ Still → after.turn_steps ≡ 0
rests_of spec mind after turn answer is turn_is ends = ap (λ (m : MindState). m.turn_steps) is ∙ rests spec mind answer (λ e. ends (turn_is ∙ e))

-- whoever has ended its turn stands between two
pub turn_ends : (spec : RoomSpec) (mind : MindState) (answer : ℕ) → (taken spec mind answer).turn ≢ Still → is_resting (taken spec mind answer).mind.line ≡ true
turn_ends spec mind answer ends = by (is_resting (taken spec mind answer).mind.line) refl
  where
    by : (b : Bool) → is_resting (taken spec mind answer).mind.line ≡ b → b ≡ true
    by true is = refl
    by false is = absurd (omega (arith, rests spec mind answer ends, stays_in_turn spec mind answer is))

-- ---- in an open turn a mind always wants an operation

leave_operation : (saw_two : Bool) (index unit : ℕ) → IsOperation (leave_by saw_two index unit)
leave_operation true index unit = tt
leave_operation false index unit = tt

open_operation : (line : Line) (spec : RoomSpec) (mind : MindState) → is_resting line ≡ false → IsOperation (move_at line spec mind)
open_operation Rest spec mind is = absurd cc
open_operation Raise spec mind is = tt
open_operation Snap spec mind is = tt
open_operation Show spec mind is = tt
open_operation Enter spec mind is = tt
open_operation Look spec mind is = tt
open_operation (Leave saw_two) spec mind is = leave_operation saw_two (levels_index spec mind) (level_unit mind)
open_operation Ask spec mind is = tt
open_operation (GetInput chosen) spec mind is = tt
open_operation (GetView chosen) spec mind is = tt
open_operation Values spec mind is = tt
open_operation (Out decision) spec mind is = tt

pub open_moves : (spec : RoomSpec) (mind : MindState) → is_resting mind.line ≡ false → IsOperation (move_of spec mind)
open_moves spec mind is = open_operation mind.line spec mind is

-- ---- between two turns

pub rest_line : (line : Line) → is_resting line ≡ true → line ≡ Rest
rest_line Rest is = refl
rest_line Raise is = absurd cc
rest_line Snap is = absurd cc
rest_line Show is = absurd cc
rest_line Enter is = absurd cc
rest_line Look is = absurd cc
rest_line (Leave saw_two) is = absurd cc
rest_line Ask is = absurd cc
rest_line (GetInput chosen) is = absurd cc
rest_line (GetView chosen) is = absurd cc
rest_line Values is = absurd cc
rest_line (Out decision) is = absurd cc

pub resting_move : (spec : RoomSpec) (mind : MindState) → is_resting mind.line ≡ true → move_of spec mind ≡ first_move (next_process mind.goals mind.process) spec mind
resting_move spec mind is = ap (λ (line : Line). move_at line spec mind) (rest_line mind.line is)

sweep_within : (spec : RoomSpec) (mind : MindState) → IsMind spec mind → mind.process ≤ length mind.goals
sweep_within spec mind is = omega (arith, is.process, is.goals)

first_operation : (goal : Goal) (spec : RoomSpec) (simulator process : ℕ) → is_unfinished goal ≡ true → IsOperation (first_move_at goal spec simulator process)
first_operation (goals.Write round value) spec simulator process is = tt
first_operation (goals.Ask round) spec simulator process is = tt
first_operation (goals.Propose value) spec simulator process is = tt
first_operation goals.AskInput spec simulator process is = tt
first_operation goals.Done spec simulator process is = absurd cc
first_operation goals.Spent spec simulator process is = absurd cc

-- where a process is unfinished, the first move is that of its goal, or out of turns
pub first_move_is : (spec : RoomSpec) (mind : MindState) → IsMind spec mind → 0 < unfinished_in mind.goals → (process : ℕ) × IsLeft mind.goals process × (first_move (next_process mind.goals mind.process) spec mind ≡ cond (ltb mind.turns spec.turns) (first_move_at (goal_at mind.goals process) spec mind.number process) OutOfTurns)
first_move_is spec mind is some =
    let next = next_some mind.goals mind.process some in
    (next.0, next_is_left mind.goals mind.process next.0 (sweep_within spec mind is) next.1, ap (λ (n : Option ℕ). first_move n spec mind) next.1)

-- no process is unfinished
pub finishes : (spec : RoomSpec) (mind : MindState) → IsMind spec mind → is_resting mind.line ≡ true → unfinished_in mind.goals ≡ 0 → move_of spec mind ≡ Finished
finishes spec mind is rest none = resting_move spec mind rest ∙ ap (λ (n : Option ℕ). first_move n spec mind) (next_none mind.goals mind.process (sweep_within spec mind is) none)

-- one is, and no turn is left
pub runs_out : (spec : RoomSpec) (mind : MindState) → IsMind spec mind → is_resting mind.line ≡ true → 0 < unfinished_in mind.goals → spec.turns ≤ mind.turns → move_of spec mind ≡ OutOfTurns
runs_out spec mind is rest some none =
    let first = first_move_is spec mind is some in
    resting_move spec mind rest ∙ first.2 ∙ rw (le-ltb mind.turns spec.turns none) refl

-- one is, and a turn is left
pub begins : (spec : RoomSpec) (mind : MindState) → IsMind spec mind → is_resting mind.line ≡ true → 0 < unfinished_in mind.goals → mind.turns < spec.turns → IsOperation (move_of spec mind)
begins spec mind is rest some left =
    let first = first_move_is spec mind is some in
    let move = resting_move spec mind rest ∙ first.2 ∙ rw (lt-ltb mind.turns spec.turns left) refl in
    subst IsOperation (sym move) (first_operation (goal_at mind.goals first.0) spec mind.number first.0 first.1.unfinished)

no_finish : (has_turns : Bool) (spec : RoomSpec) (goal : Goal) (simulator process : ℕ) → is_unfinished goal ≡ true → cond has_turns (first_move_at goal spec simulator process) OutOfTurns ≡ Finished → ⊥
no_finish true spec goal simulator process is finished = subst IsOperation finished (first_operation goal spec simulator process is)
no_finish false spec goal simulator process is finished = absurd cc

finished_by : (b : Bool) (unfinished : ℕ) (spec : RoomSpec) (mind : MindState) → is_resting mind.line ≡ b → unfinished_in mind.goals ≡ unfinished → IsMind spec mind → move_of spec mind ≡ Finished → (is_resting mind.line ≡ true) × (unfinished_in mind.goals ≡ 0)
finished_by true zero spec mind rest none is finished = (rest, none)
finished_by true (suc left) spec mind rest some is finished =
    let first = first_move_is spec mind is (omega arith) in
    absurd (no_finish (ltb mind.turns spec.turns) spec (goal_at mind.goals first.0) mind.number first.0 first.1.unfinished (sym (resting_move spec mind rest ∙ first.2) ∙ finished))
finished_by false unfinished spec mind rest some is finished = absurd (subst IsOperation finished (open_moves spec mind rest))

-- a mind is finished only between two turns, with no process unfinished
pub finished_only : (spec : RoomSpec) (mind : MindState) → IsMind spec mind → move_of spec mind ≡ Finished → (is_resting mind.line ≡ true) × (unfinished_in mind.goals ≡ 0)
finished_only spec mind is finished = finished_by _ _ spec mind refl refl is finished

-- ---- whoever is ready for a step wants an operation

step_parts : (idle left : Bool) → cond idle answers.Idle (cond left answers.Step answers.OutOfTurns) ≡ answers.Step → (idle ≡ false) × (left ≡ true)
step_parts true left is = absurd cc
step_parts false true is = (refl, refl)
step_parts false false is = absurd cc

out_parts : (idle left : Bool) → cond idle answers.Idle (cond left answers.Step answers.OutOfTurns) ≡ answers.OutOfTurns → (idle ≡ false) × (left ≡ false)
out_parts true left is = absurd cc
out_parts false true is = absurd cc
out_parts false false is = (refl, refl)

moves_by : (b : Bool) (spec : RoomSpec) (mind : MindState) (quiet : ℕ) → is_resting mind.line ≡ b → IsMind spec mind → cond b (ready_between spec mind quiet) answers.Step ≡ answers.Step → IsOperation (move_of spec mind)
moves_by true spec mind quiet rest is ready =
    let parts = step_parts (leb (unfinished_in mind.goals) quiet) (ltb mind.turns spec.turns) ready in
    begins spec mind is rest (omega (arith, leb-false _ _ parts.0)) (ltb-true _ _ parts.1)
moves_by false spec mind quiet rest is ready = open_moves spec mind rest

pub moves : (spec : RoomSpec) (mind : MindState) (quiet : ℕ) → IsMind spec mind → ready_of spec mind quiet ≡ answers.Step → IsOperation (move_of spec mind)
moves spec mind quiet is ready = moves_by (is_resting mind.line) spec mind quiet refl is ready

-- and whoever is told that its turns are used up wants what says so
out_by : (b : Bool) (spec : RoomSpec) (mind : MindState) (quiet : ℕ) → is_resting mind.line ≡ b → IsMind spec mind → cond b (ready_between spec mind quiet) answers.Step ≡ answers.OutOfTurns → move_of spec mind ≡ OutOfTurns
out_by true spec mind quiet rest is ready =
    let parts = out_parts (leb (unfinished_in mind.goals) quiet) (ltb mind.turns spec.turns) ready in
    runs_out spec mind is rest (omega (arith, leb-false _ _ parts.0)) (ltb-false _ _ parts.1)
out_by false spec mind quiet rest is ready = absurd cc

pub out_of_turns : (spec : RoomSpec) (mind : MindState) (quiet : ℕ) → IsMind spec mind → ready_of spec mind quiet ≡ answers.OutOfTurns → move_of spec mind ≡ OutOfTurns
out_of_turns spec mind quiet is ready = out_by (is_resting mind.line) spec mind quiet refl is ready
