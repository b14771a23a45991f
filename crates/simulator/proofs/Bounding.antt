-- How many turns a simulator takes before it is idle: each useful one takes a process through one of its rounds, and of those
-- between two useful ones there are fewer than unfinished processes.
use Rattle.std.proofs.Common.{◌≡◌, ℕ, zero, suc, ◌+◌, ◌-◌, ◌*◌, ◌<◌, ◌≤◌, min, Bool, true, false, cond, eqb, leb, ltb, List, [], ◌∷◌, ◌++◌, length, set, Option, Some, None, refl, sym, ap, ◌∙◌, subst, arith}
use Rattle.std.proofs.Math.Nat.{suc-mul}
use Rattle.std.proofs.lemmas.Bool.{leb-false, ltb-true}
use Rattle.std.proofs.lemmas.Nat.{mul-le}
use Rattle.protocol_lang.specs.declared.meaning.Action.{Action}
use Rattle.protocol_lang.specs.declared.meaning.Action.TheVariants as actions
use Rattle.protocol_lang.specs.Meaning.{next_action}
use Rattle.protocol_lang.specs.Numbers.{greatest}
use Rattle.std.specs.Prelude.{◌&&◌, ◌||◌}
use Rattle.safe_agreement.specs.Levels.{has_level}
use Rattle.level_cells.specs.Fields.{levels_of}
use Rattle.room_spec.specs.Rooms.{RoomSpec, processes}
use Rattle.room_spec.specs.Sizes.{Sizes, sizes_in}
use Rattle.simulator.specs.declared.goal.Goal.{Goal}
use Rattle.simulator.specs.declared.goal.Goal.TheVariants as goals
use Rattle.simulator.specs.declared.line.Line.{Line}
use Rattle.simulator.specs.declared.line.Line.TheVariants.{Rest, Raise, Snap, Show, Enter, Look, Leave, Ask, GetInput, GetView, Values, Out}
use Rattle.simulator.specs.declared.sweep.Ready.TheVariants as ready
use Rattle.simulator.specs.declared.turn.Turn.TheVariants.{Useful, Quiet}
use Rattle.simulator.specs.Bounds.{agreement_rounds, answered, answered_all, IsReadyThroughout}
use Rattle.simulator.specs.Minds.{MindOf, MindState, is_unfinished, goal_at, current_goal, current_input, current_round, first_write, round_of, next_process, unfinished_in}
use Rattle.simulator.specs.Moves.{entry_in, chosen_in, is_again, loaded, taken_at, taken}
use Rattle.simulator.specs.Ranges.{IsGoal, IsLineIn, IsOpenAt, IsMind}
use Rattle.simulator.specs.Sweeps.{SweepState, is_resting, ready_of, quiet_after}
use Rattle.simulator.specs.Turns.{TakenOf, asks_in, gets_in, counted, begun, goes_on, ended, stayed, with_input, asked, after_write, acted, most_collects, on_word, padded, gathered_all, gathered, opened_at, opened, scanned, with_decision, words_in}
use Rattle.simulator.proofs.Keeping.{kept}
use Rattle.simulator.proofs.Processes.{next_is_left, none_next}
use Rattle.simulator.proofs.Ranging.{last_range}
use Rattle.simulator.proofs.Stepping.{moves}

-- ---- the rounds that are left

abbrev pub rounds_left : ℕ → Goal → ℕ
rounds_left rounds (goals.Write round value) = suc rounds - round
rounds_left rounds (goals.Ask round) = suc rounds - round
rounds_left rounds (goals.Propose value) = suc rounds
rounds_left rounds goals.AskInput = suc rounds
rounds_left rounds goals.Done = 0
rounds_left rounds goals.Spent = 0

abbrev pub all_left : ℕ → List Goal → ℕ
all_left rounds [] = 0
all_left rounds (goal ∷ list) = rounds_left rounds goal + all_left rounds list

left_open : (rounds : ℕ) (goal : Goal) → is_unfinished goal ≡ true → rounds_left rounds goal ≡ suc rounds - round_of goal
left_open rounds (goals.Write round value) is = refl
left_open rounds (goals.Ask round) is = refl
left_open rounds (goals.Propose value) is = omega arith
left_open rounds goals.AskInput is = omega arith
left_open rounds goals.Done is = absurd cc
left_open rounds goals.Spent is = absurd cc

rounds_most : (reduction : Bool) (rounds : ℕ) → rounds ≤ cond reduction (rounds + 1) rounds
rounds_most true rounds = omega arith
rounds_most false rounds = omega arith

first_most : (reduction : Bool) (rounds : ℕ) → reduction ≡ true → suc rounds ≤ cond reduction (rounds + 1) rounds
first_most reduction rounds is = rw is (omega arith)

left_most : (sizes : Sizes) (goal : Goal) → IsGoal sizes goal → rounds_left sizes.rounds goal ≤ agreement_rounds sizes
left_most sizes (goals.Write round value) is = omega (arith, is.0, rounds_most sizes.reduction sizes.rounds)
left_most sizes (goals.Ask round) is = omega (arith, is.0, rounds_most sizes.reduction sizes.rounds)
left_most sizes (goals.Propose value) is = first_most sizes.reduction sizes.rounds is
left_most sizes goals.AskInput is = first_most sizes.reduction sizes.rounds is
left_most sizes goals.Done is = omega arith
left_most sizes goals.Spent is = omega arith

all_most : (sizes : Sizes) (list : List Goal) → ((process : ℕ) → process < length list → IsGoal sizes (goal_at list process)) → all_left sizes.rounds list ≤ length list * agreement_rounds sizes
all_most sizes [] each = omega arith
all_most sizes (goal ∷ list) each =
    let most = agreement_rounds sizes in
    let here = left_most sizes goal (each 0 (omega arith)) in
    let more = all_most sizes list (λ process below. each (suc process) (omega arith)) in
    let split : suc (length list) * most ≡ length list * most + most = suc-mul (length list) most in
    omega (arith, here, more, split)

left_set : (rounds : ℕ) (list : List Goal) (place : ℕ) (goal : Goal) → place < length list → all_left rounds (set list place goal) + rounds_left rounds (goal_at list place) ≡ all_left rounds list + rounds_left rounds goal
left_set rounds [] place goal below = absurd (omega arith)
left_set rounds (first ∷ list) zero goal below = omega arith
left_set rounds (first ∷ list) (suc place) goal below = omega (arith, left_set rounds list place goal (omega arith))

fewer_unfinished : (list : List Goal) → unfinished_in list ≤ length list
fewer_unfinished [] = omega arith
fewer_unfinished (goals.Write round value ∷ list) = omega (arith, fewer_unfinished list)
fewer_unfinished (goals.Ask round ∷ list) = omega (arith, fewer_unfinished list)
fewer_unfinished (goals.Propose value ∷ list) = omega (arith, fewer_unfinished list)
fewer_unfinished (goals.AskInput ∷ list) = omega (arith, fewer_unfinished list)
fewer_unfinished (goals.Done ∷ list) = omega (arith, fewer_unfinished list)
fewer_unfinished (goals.Spent ∷ list) = omega (arith, fewer_unfinished list)

-- ---- what is left of the turns

abbrev pub open_turns : Line → ℕ
open_turns Rest = 0
open_turns line = 1

one_open : (line : Line) → open_turns line ≤ 1
one_open Rest = omega arith
one_open Raise = omega arith
one_open Snap = omega arith
one_open Show = omega arith
one_open Enter = omega arith
one_open Look = omega arith
one_open (Leave saw_two) = omega arith
one_open Ask = omega arith
one_open (GetInput chosen) = omega arith
one_open (GetView chosen) = omega arith
one_open Values = omega arith
one_open (Out decision) = omega arith

-- the turns that it has begun, and those that it may still begin
pub total : {S : Type 0} → ℕ → ℕ → MindOf S → ℕ → ℕ
total n rounds mind quiet = mind.turns + (all_left rounds mind.goals * n + (n - (quiet + open_turns mind.line)))

abbrev total_after : {S : Type 0} → ℕ → ℕ → TakenOf S → ℕ → ℕ
total_after n rounds after quiet = total n rounds after.mind (quiet_after after.turn quiet)

-- an open turn, or one that begins, on a process and a round of the room
record IsTurning {S : Type 0} (n rounds : ℕ) (mind : MindOf S) : Type 0 where
  few : n ≤ 16
  place : mind.process < length mind.goals
  left : is_unfinished (current_goal mind) ≡ true
  last : current_round mind ≤ rounds

abbrev Allowed : {S : Type 0} → ℕ → ℕ → MindOf S → ℕ → ℕ
Allowed n rounds mind quiet = mind.turns + (all_left rounds mind.goals * n + (n - (quiet + 1)))

on_line : {S : Type 0} (n rounds : ℕ) (line : Line) (mind : MindOf S) (quiet : ℕ) → open_turns line ≡ 1 → total_after n rounds (goes_on line mind) quiet ≤ Allowed n rounds mind quiet
unfolding total
on_line n rounds line mind quiet is = omega (arith, is)

useful : {S : Type 0} (n rounds : ℕ) (goal : Goal) (mind : MindOf S) (quiet : ℕ) → IsTurning n rounds mind → rounds_left rounds goal < rounds_left rounds (current_goal mind) → total_after n rounds (ended Useful goal mind) quiet ≤ Allowed n rounds mind quiet
unfolding total
useful n rounds goal mind quiet is less =
    let set = left_set rounds mind.goals mind.process goal is.place in
    let after = all_left rounds (ended Useful goal mind).mind.goals in
    let fewer : suc after ≤ all_left rounds mind.goals = omega (arith, set, less) in
    let product = mul-le (suc after) n (all_left rounds mind.goals) n fewer (omega arith) in
    omega (arith, product, suc-mul after n)

-- the same where the sweep stays
useful_here : {S : Type 0} (n rounds : ℕ) (goal : Goal) (mind : MindOf S) (quiet : ℕ) → IsTurning n rounds mind → rounds_left rounds goal < rounds_left rounds (current_goal mind) → total_after n rounds (stayed Useful goal mind) quiet ≤ Allowed n rounds mind quiet
unfolding total
useful_here n rounds goal mind quiet is less =
    let set = left_set rounds mind.goals mind.process goal is.place in
    let after = all_left rounds (stayed Useful goal mind).mind.goals in
    let fewer : suc after ≤ all_left rounds mind.goals = omega (arith, set, less) in
    let product = mul-le (suc after) n (all_left rounds mind.goals) n fewer (omega arith) in
    omega (arith, product, suc-mul after n)

left_asked : (rounds round : ℕ) → rounds_left rounds (asks_in round) ≡ suc rounds - round
left_asked rounds zero = omega arith
left_asked rounds (suc round) = refl

quiet_turn : {S : Type 0} (n rounds : ℕ) (mind : MindOf S) (quiet : ℕ) → IsTurning n rounds mind → total_after n rounds (ended Quiet (asks_in (current_round mind)) mind) quiet ≤ Allowed n rounds mind quiet
unfolding total
quiet_turn n rounds mind quiet is =
    let goal = asks_in (current_round mind) in
    let set = left_set rounds mind.goals mind.process goal is.place in
    let was = left_open rounds (current_goal mind) is.left in
    let after = all_left rounds (ended Quiet goal mind).mind.goals in
    let same : after ≡ all_left rounds mind.goals = omega (arith, set, was, left_asked rounds (current_round mind)) in
    omega (arith, ap (λ (x : ℕ). x * n) same, is.few)

gets_open : (round chosen : ℕ) → open_turns (gets_in round chosen) ≡ 1
gets_open zero chosen = refl
gets_open (suc round) chosen = refl

on_asked : {S : Type 0} (n rounds : ℕ) (chosen : Option ℕ) (mind : MindOf S) (quiet : ℕ) → IsTurning n rounds mind → total_after n rounds (asked chosen mind) quiet ≤ Allowed n rounds mind quiet
on_asked n rounds None mind quiet is = quiet_turn n rounds mind quiet is
on_asked n rounds (Some chosen) mind quiet is = on_line n rounds (gets_in (current_round mind) chosen) mind quiet (gets_open (current_round mind) chosen)

goes_further : (b : Bool) (rounds round value : ℕ) → ltb round rounds ≡ b → round ≤ rounds → rounds_left rounds (cond b (goals.Write (round + 1) value) goals.Spent) < suc rounds - round
goes_further true rounds round value is last = let less = ltb-true round rounds is in omega arith
goes_further false rounds round value is last = omega arith

on_acted : {S : Type 0} (spec : RoomSpec) (action : Action) (mind : MindOf S) (quiet : ℕ) → IsTurning (processes spec) spec.rounds mind → total_after (processes spec) spec.rounds (acted spec action mind) quiet ≤ Allowed (processes spec) spec.rounds mind quiet
on_acted spec (actions.Write value) mind quiet is =
    let further = goes_further _ spec.rounds (current_round mind) value refl is.last in
    let was = left_open spec.rounds (current_goal mind) is.left in
    useful (processes spec) spec.rounds (after_write spec.rounds (current_round mind) value) mind quiet is (omega (arith, further, was))
on_acted spec (actions.Decide decision) mind quiet is = on_line (processes spec) spec.rounds (Out decision) mind quiet refl

on_test : {S : Type 0} (n rounds quiet most : ℕ) (b : Bool) (one other : TakenOf S) → total_after n rounds one quiet ≤ most → total_after n rounds other quiet ≤ most → total_after n rounds (cond b one other) quiet ≤ most
on_test n rounds quiet most true one other is that = is
on_test n rounds quiet most false one other is that = that

on_gathered_all : {S : Type 0} (spec : RoomSpec) (mind : MindOf S) (quiet : ℕ) → IsTurning (processes spec) spec.rounds mind → total_after (processes spec) spec.rounds (gathered_all spec mind) quiet ≤ Allowed (processes spec) spec.rounds mind quiet
on_gathered_all spec mind quiet is =
    let action = next_action spec.protocol (current_input spec mind) mind.process (current_round mind) mind.entries in
    on_test (processes spec) spec.rounds quiet (Allowed (processes spec) spec.rounds mind quiet) (ltb (length mind.entries) (processes spec)) (goes_on Values mind) (acted spec action mind)
    (on_line (processes spec) spec.rounds Values mind quiet refl) (on_acted spec action mind quiet is)

on_gathered : {S : Type 0} (row : ℕ → ℕ) (spec : RoomSpec) (entries : List (Option ℕ)) (mind : MindOf S) (quiet : ℕ) → IsTurning (processes spec) spec.rounds mind → total_after (processes spec) spec.rounds (gathered row spec entries mind) quiet ≤ Allowed (processes spec) spec.rounds mind quiet
on_gathered row spec entries mind quiet is =
    on_gathered_all spec (record mind { entries = padded row (processes spec) entries }) quiet (record { few = is.few; place = is.place; left = is.left; last = is.last })

on_word_line : {S : Type 0} (spec : RoomSpec) (line : Line) (mind : MindOf S) (last : TakenOf S) (quiet : ℕ) → open_turns line ≡ 1 → total_after (processes spec) spec.rounds last quiet ≤ Allowed (processes spec) spec.rounds mind quiet
    → total_after (processes spec) spec.rounds (on_word spec line mind last) quiet ≤ Allowed (processes spec) spec.rounds mind quiet
on_word_line spec line mind last quiet is most =
    on_test (processes spec) spec.rounds quiet (Allowed (processes spec) spec.rounds mind quiet) (ltb (mind.word + 1) (words_in spec)) _ last (on_line (processes spec) spec.rounds line (record mind { word = mind.word + 1 }) quiet is) most

on_scanned : {S : Type 0} (spec : RoomSpec) (same : Bool) (mind : MindOf S) (quiet : ℕ) → total_after (processes spec) spec.rounds (scanned spec same mind) quiet ≤ Allowed (processes spec) spec.rounds mind quiet
on_scanned spec same mind quiet =
    let most = Allowed (processes spec) spec.rounds mind quiet in
    let next = record mind { collects = mind.collects + 1 } in
    on_test (processes spec) spec.rounds quiet most (eqb (words_in spec) 1) _ _ (on_line (processes spec) spec.rounds Show mind quiet refl)
    (on_test (processes spec) spec.rounds quiet most ((same && ltb 1 (mind.collects + 1)) || eqb (mind.collects + 1) (most_collects spec)) _ _ (on_line (processes spec) spec.rounds Show next quiet refl)
    (on_line (processes spec) spec.rounds Snap (record next { before = mind.snapshot }) quiet refl))

on_opened_at : {S : Type 0} (n rounds : ℕ) (goal : Goal) (chosen : Option ℕ) (mind : MindOf S) (quiet : ℕ) → current_goal mind ≡ goal → IsTurning n rounds mind → total_after n rounds (opened_at goal chosen mind) quiet ≤ Allowed n rounds mind quiet
on_opened_at n rounds (goals.Write round value) chosen mind quiet has is = on_line n rounds Raise mind quiet refl
on_opened_at n rounds (goals.Ask round) chosen mind quiet has is = on_asked n rounds chosen mind quiet is
on_opened_at n rounds (goals.Propose value) chosen mind quiet has is = on_line n rounds Enter mind quiet refl
on_opened_at n rounds goals.AskInput chosen mind quiet has is = on_asked n rounds chosen mind quiet is
on_opened_at n rounds goals.Done chosen mind quiet has is = absurd (let other = sym is.left ∙ ap is_unfinished has in cc)
on_opened_at n rounds goals.Spent chosen mind quiet has is = absurd (let other = sym is.left ∙ ap is_unfinished has in cc)

-- ---- each step

enough_by : (rests enough has_turns : Bool) → rests ≡ true → cond rests (cond enough ready.Idle (cond has_turns ready.Step ready.OutOfTurns)) ready.Step ≡ ready.Step → enough ≡ false
enough_by true true has_turns rest is = absurd cc
enough_by true false has_turns rest is = refl
enough_by false enough has_turns rest is = absurd cc

on_opened : (spec : RoomSpec) (next : Option ℕ) (mind : MindState) (answer quiet : ℕ) → IsMind spec mind → next_process mind.goals mind.process ≡ next → quiet < unfinished_in mind.goals
    → total_after (processes spec) spec.rounds (opened next (chosen_in spec answer) (counted mind)) quiet ≤ mind.turns + (all_left spec.rounds mind.goals * processes spec + (processes spec - (quiet + 0)))
on_opened spec None mind answer quiet is found busy = absurd (omega (arith, none_next mind.goals mind.process found, busy))
on_opened spec (Some process) mind answer quiet is found busy =
    let n = is.limits.shape.n_range in
    let next = next_is_left mind.goals mind.process process (omega (arith, is.process, is.goals)) found in
    let last = last_range (sizes_in spec) (goal_at mind.goals process) (is.rounds process (omega (arith, next.below, is.goals))) next.unfinished in
    let opens = on_opened_at (processes spec) spec.rounds (goal_at mind.goals process) (chosen_in spec answer) (begun process (counted mind)) quiet refl
    (record { few = n.1; place = next.below; left = next.unfinished; last = last }) in
    omega (arith, opens, fewer_unfinished mind.goals, is.goals, busy)

turning : (spec : RoomSpec) (mind : MindState) → IsMind spec mind → is_unfinished (current_goal mind) ≡ true → IsTurning (processes spec) spec.rounds (counted mind)
turning spec mind is left =
    let n = is.limits.shape.n_range in
    let last = last_range (sizes_in spec) (current_goal mind) (is.rounds mind.process is.process) left in
    record { few = n.1; place = omega (arith, is.process, is.goals); left = left; last = last }

at_line : (line : Line) (spec : RoomSpec) (mind : MindState) (answer quiet : ℕ) → IsMind spec mind → IsOpenAt line spec mind → IsLineIn (current_round mind) line → (is_resting line ≡ true → quiet < unfinished_in mind.goals)
    → total_after (processes spec) spec.rounds (taken_at line spec (counted mind) answer) quiet ≤ mind.turns + (all_left spec.rounds mind.goals * processes spec + (processes spec - (quiet + open_turns line)))
at_line Rest spec mind answer quiet is at round busy = on_opened spec (next_process mind.goals mind.process) mind answer quiet is refl (busy refl)
at_line Raise spec mind answer quiet is at round busy = on_line (processes spec) spec.rounds Snap (counted mind) quiet refl
at_line Snap spec mind answer quiet is at round busy =
    let got = loaded answer (counted mind) in
    on_word_line spec Snap got _ quiet refl (on_scanned spec (is_again got) (record got { word = 0 }) quiet)
at_line Show spec mind answer quiet is at round busy = on_word_line spec Show (counted mind) _ quiet refl (on_line (processes spec) spec.rounds Enter (record (counted mind) { word = 0 }) quiet refl)
at_line Enter spec mind answer quiet is at round busy = on_line (processes spec) spec.rounds Look (counted mind) quiet refl
at_line Look spec mind answer quiet is at round busy = on_line (processes spec) spec.rounds (Leave (has_level 2 (levels_of answer spec.simulators))) (counted mind) quiet refl
at_line (Leave saw_two) spec mind answer quiet is at round busy = on_line (processes spec) spec.rounds Ask (counted mind) quiet refl
at_line Ask spec mind answer quiet is at round busy = on_asked (processes spec) spec.rounds (chosen_in spec answer) (counted mind) quiet (turning spec mind is at)
at_line (GetInput chosen) spec mind answer quiet is at round busy =
    let turn = turning spec mind is at.0 in
    let was = left_open spec.rounds (current_goal mind) turn.left in
    useful_here (processes spec) spec.rounds (first_write spec (min answer greatest) mind.process) (with_input (min answer greatest) (counted mind)) quiet (record { few = turn.few; place = turn.place; left = turn.left; last = turn.last }) (omega (arith, was, round))
at_line (GetView chosen) spec mind answer quiet is at round busy =
    let turn = turning spec mind is at.0 in
    let got = loaded answer (counted mind) in
    on_word_line spec (GetView chosen) got _ quiet refl
    (on_gathered (entry_in spec got.snapshot) spec [] (record got { word = 0 }) quiet (record { few = turn.few; place = turn.place; left = turn.left; last = turn.last }))
at_line Values spec mind answer quiet is at round busy = on_gathered (entry_in spec mind.snapshot) spec (mind.entries ++ Some (min answer greatest) ∷ []) (counted mind) quiet (turning spec mind is at.0)
at_line (Out decision) spec mind answer quiet is at round busy =
    let turn = turning spec mind is at in
    let was = left_open spec.rounds (current_goal mind) turn.left in
    useful (processes spec) spec.rounds goals.Done (with_decision decision (counted mind)) quiet (record { few = turn.few; place = turn.place; left = turn.left; last = turn.last }) (omega (arith, was, turn.last))

pub busy_by : (spec : RoomSpec) (mind : MindState) (quiet : ℕ) → ready_of spec mind quiet ≡ ready.Step → is_resting mind.line ≡ true → quiet < unfinished_in mind.goals
busy_by spec mind quiet is rests = leb-false _ _ (enough_by (is_resting mind.line) (leb (unfinished_in mind.goals) quiet) (ltb mind.turns spec.turns) rests is)

-- over each step for which it is ready the two numbers together don't rise
pub total_falls : (spec : RoomSpec) (mind : MindState) (quiet answer : ℕ) → IsMind spec mind → ready_of spec mind quiet ≡ ready.Step
    → total (processes spec) spec.rounds (taken spec mind answer).mind (quiet_after (taken spec mind answer).turn quiet) ≤ total (processes spec) spec.rounds mind quiet
unfolding total
total_falls spec mind quiet answer is ready = at_line mind.line spec mind answer quiet is is.at is.round (busy_by spec mind quiet ready)

-- and with the turn that is open there are so many at the most
pub open_most : (spec : RoomSpec) (mind : MindState) (quiet : ℕ) → IsMind spec mind → total (processes spec) spec.rounds mind quiet + open_turns mind.line ≤ mind.turns + (processes spec * agreement_rounds (sizes_in spec) + 1) * processes spec
unfolding total
open_most spec mind quiet is =
    let n = processes spec in
    let some = is.limits.shape.n_range.0 in
    let each : (process : ℕ) → process < length mind.goals → IsGoal (sizes_in spec) (goal_at mind.goals process) = λ process below. is.rounds process (omega (arith, below, is.goals)) in
    let most : all_left spec.rounds mind.goals ≤ n * agreement_rounds (sizes_in spec) = subst (λ (k : ℕ). all_left spec.rounds mind.goals ≤ k * agreement_rounds (sizes_in spec)) is.goals (all_most (sizes_in spec) mind.goals each) in
    let product = mul-le (all_left spec.rounds mind.goals) n (n * agreement_rounds (sizes_in spec)) n most (omega arith) in
    let more : (n * agreement_rounds (sizes_in spec) + 1) * n ≡ n * agreement_rounds (sizes_in spec) * n + n = ap (λ (k : ℕ). k * n) (omega arith) ∙ suc-mul (n * agreement_rounds (sizes_in spec)) n in
    omega (arith, product, more, one_open mind.line, some)

pub total_most : (spec : RoomSpec) (mind : MindState) (quiet : ℕ) → IsMind spec mind → total (processes spec) spec.rounds mind quiet ≤ mind.turns + (processes spec * agreement_rounds (sizes_in spec) + 1) * processes spec
total_most spec mind quiet is = omega (arith, open_most spec mind quiet is)

pub turns_before : (n rounds : ℕ) (mind : MindState) (quiet : ℕ) → mind.turns ≤ total n rounds mind quiet
unfolding total
turns_before n rounds mind quiet = omega arith

pub falls_all : (spec : RoomSpec) (sweep : SweepState) (answers : List ℕ) → IsMind spec sweep.mind → IsReadyThroughout spec sweep answers
    → total (processes spec) spec.rounds (answered_all spec sweep answers).mind (answered_all spec sweep answers).quiet ≤ total (processes spec) spec.rounds sweep.mind sweep.quiet
falls_all spec sweep [] is ready = omega arith
falls_all spec sweep (answer ∷ answers) is ready =
    let here = total_falls spec sweep.mind sweep.quiet answer is ready.0 in
    let next = kept spec sweep.mind answer is (moves spec sweep.mind sweep.quiet is ready.0) in
    omega (arith, here, falls_all spec (answered spec sweep answer) answers next ready.1)

pub turns_bounded : (spec : RoomSpec) (sweep : SweepState) (answers : List ℕ) → IsMind spec sweep.mind → IsReadyThroughout spec sweep answers
    → (answered_all spec sweep answers).mind.turns ≤ sweep.mind.turns + (processes spec * agreement_rounds (sizes_in spec) + 1) * processes spec
turns_bounded spec sweep answers is ready =
    let last = answered_all spec sweep answers in
    omega (arith, turns_before (processes spec) spec.rounds last.mind last.quiet, falls_all spec sweep answers is ready, total_most spec sweep.mind sweep.quiet is)
