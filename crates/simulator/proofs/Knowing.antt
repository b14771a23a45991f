-- Minds that know the same go on alike.
use Rattle.std.proofs.Common.{◌≡◌, ℕ, ◌+◌, ◌*◌, ◌<◌, ◌≤◌, Bool, true, false, cond, eqb, ltb, List, [], ◌∷◌, ◌++◌, length, Option, Some, None, refl, sym, ap, ◌∙◌, arith, min}
use Rattle.std.specs.Prelude.{◌&&◌, ◌||◌}
use Rattle.std.proofs.lemmas.Bool.{lt-ltb}
use Rattle.protocol_lang.specs.declared.meaning.Action.{Action}
use Rattle.protocol_lang.specs.declared.meaning.Action.TheVariants as actions
use Rattle.protocol_lang.specs.Meaning.{next_action}
use Rattle.protocol_lang.specs.Numbers.{greatest}
use Rattle.room_spec.specs.Rooms.{RoomSpec, processes}
use Rattle.simulator.specs.declared.goal.Goal.{Goal}
use Rattle.simulator.specs.declared.goal.Goal.TheVariants as goals
use Rattle.simulator.specs.declared.knowledge.Knowledge.{Knowledge}
use Rattle.simulator.specs.declared.line.Line.{Line}
use Rattle.simulator.specs.declared.line.Line.TheVariants.{Rest, Raise, Snap, Show, Enter, Look, Leave, Ask, GetInput, GetView, Values, Out}
use Rattle.simulator.specs.declared.operation.Move.{Move}
use Rattle.simulator.specs.declared.operation.Move.TheVariants.{OutOfTurns}
use Rattle.simulator.specs.Knowing.{knowledge_of, mind_of}
use Rattle.simulator.specs.Minds.{MindState, goal_at, current_round, next_process, current_input}
use Rattle.simulator.specs.Moves.{IsOperation, chosen_in, entry_in, first_move, first_move_at, is_again, loaded, move_at, move_of, taken, taken_at}
use Rattle.simulator.specs.Ranges.{IsMind, IsOpenAt, charged_steps, greatest_limit}
use Rattle.simulator.specs.Sweeps.{is_resting}
use Rattle.simulator.specs.Turns.{TakenOf, acted, asked, begun, collected, counted, gathered, goes_on, most_collects, on_word, opened, opened_at, padded, scanned, words_in}

-- the mind with other counts
abbrev pub with_counts : ℕ → ℕ → ℕ → MindState → MindState
with_counts turns steps turn_steps mind = record mind { turns = turns; steps = steps; turn_steps = turn_steps }

-- ---- it is a mind

charged : (line : Line) → charged_steps line 0 ≤ greatest_limit * cond (is_resting line) 0 1 + 0
charged Rest = omega arith
charged Raise = omega arith
charged Snap = omega arith
charged Show = omega arith
charged Enter = omega arith
charged Look = omega arith
charged (Leave saw_two) = omega arith
charged Ask = omega arith
charged (GetInput chosen) = omega arith
charged (GetView chosen) = omega arith
charged Values = omega arith
charged (Out decision) = omega arith

few_turns : (b : Bool) (turns : ℕ) → 1 ≤ turns → cond b 0 1 ≤ turns
few_turns true turns some = omega arith
few_turns false turns some = some

open_at : (line : Line) (spec : RoomSpec) (mind : MindState) (turns steps turn_steps : ℕ) → IsOpenAt line spec mind → IsOpenAt line spec (with_counts turns steps turn_steps mind)
open_at Rest spec mind turns steps turn_steps h = h
open_at Raise spec mind turns steps turn_steps h = h
open_at Snap spec mind turns steps turn_steps h = h
open_at Show spec mind turns steps turn_steps h = h
open_at Enter spec mind turns steps turn_steps h = h
open_at Look spec mind turns steps turn_steps h = h
open_at (Leave saw_two) spec mind turns steps turn_steps h = h
open_at Ask spec mind turns steps turn_steps h = h
open_at (GetInput chosen) spec mind turns steps turn_steps h = h
open_at (GetView chosen) spec mind turns steps turn_steps h = h
open_at Values spec mind turns steps turn_steps h = h
open_at (Out decision) spec mind turns steps turn_steps h = h

pub knows_mind : (spec : RoomSpec) (mind : MindState) → IsMind spec mind → IsMind spec (mind_of (knowledge_of mind))
knows_mind spec mind is = record {
  limits = is.limits;
  number = is.number;
  goals = is.goals;
  rounds = is.rounds;
  process = is.process;
  turns = few_turns (is_resting mind.line) spec.turns is.limits.turns.0;
  entries = is.entries;
  snapshot = is.snapshot;
  before = is.before;
  word = is.word;
  collects = is.collects;
  few = omega arith;
  counted = charged mind.line;
  at = open_at mind.line spec mind (cond (is_resting mind.line) 0 1) 0 0 is.at;
  round = is.round;
  inputs = is.inputs;
  order = is.order;
  decision = is.decision;
}

-- ---- it wants the same

is_left : (b : Bool) (move : Move) → IsOperation (cond b move OutOfTurns) → b ≡ true
is_left true move h = refl
is_left false move h = absurd h

first_same : (found : Option ℕ) (spec : RoomSpec) (mind : MindState) (turns steps turn_steps : ℕ) → turns < spec.turns → IsOperation (first_move found spec mind) → first_move found spec (with_counts turns steps turn_steps mind) ≡ first_move found spec mind
first_same None spec mind turns steps turn_steps left h = absurd h
first_same (Some process) spec mind turns steps turn_steps left h =
    let move = first_move_at (goal_at mind.goals process) spec mind.number process in
    ap (λ (b : Bool). cond b move OutOfTurns) (lt-ltb turns spec.turns left ∙ sym (is_left (ltb mind.turns spec.turns) move h))

move_same : (line : Line) (spec : RoomSpec) (mind : MindState) → 0 < spec.turns → IsOperation (move_at line spec mind) → move_at line spec (with_counts (cond (is_resting line) 0 1) 0 0 mind) ≡ move_at line spec mind
move_same Rest spec mind some h = first_same (next_process mind.goals mind.process) spec mind 0 0 0 some h
move_same Raise spec mind some h = refl
move_same Snap spec mind some h = refl
move_same Show spec mind some h = refl
move_same Enter spec mind some h = refl
move_same Look spec mind some h = refl
move_same (Leave saw_two) spec mind some h = refl
move_same Ask spec mind some h = refl
move_same (GetInput chosen) spec mind some h = refl
move_same (GetView chosen) spec mind some h = refl
move_same Values spec mind some h = refl
move_same (Out decision) spec mind some h = refl

pub wants_same : (spec : RoomSpec) (mind : MindState) → IsMind spec mind → IsOperation (move_of spec mind) → move_of spec (mind_of (knowledge_of mind)) ≡ move_of spec mind
wants_same spec mind is h = move_same mind.line spec mind (omega (arith, is.limits.turns.0)) h

-- ---- it takes an answer in alike

abbrev known : TakenOf (List ℕ) → Knowledge
known taken = knowledge_of taken.mind

on_test : (b : Bool) (one other one_too other_too : TakenOf (List ℕ)) → known one ≡ known one_too → known other ≡ known other_too → known (cond b one other) ≡ known (cond b one_too other_too)
on_test true one other one_too other_too is that = is
on_test false one other one_too other_too is that = that

on_asked : (chosen : Option ℕ) (mind : MindState) (t s u : ℕ) → known (asked chosen (with_counts t s u mind)) ≡ known (asked chosen mind)
on_asked None mind t s u = refl
on_asked (Some chosen) mind t s u = refl

on_acted : (spec : RoomSpec) (action : Action) (mind : MindState) (t s u : ℕ) → known (acted spec action (with_counts t s u mind)) ≡ known (acted spec action mind)
on_acted spec (actions.Write value) mind t s u = refl
on_acted spec (actions.Decide decision) mind t s u = refl

on_gathered : (row : ℕ → ℕ) (spec : RoomSpec) (entries : List (Option ℕ)) (mind : MindState) (t s u : ℕ) → known (gathered row spec entries (with_counts t s u mind)) ≡ known (gathered row spec entries mind)
on_gathered row spec entries mind t s u =
    let all = padded row (processes spec) entries in
    let now : MindState = record mind { entries = all } in
    let action = next_action spec.protocol (current_input spec mind) mind.process (current_round mind) all in
    on_test (ltb (length all) (processes spec)) (goes_on Values (with_counts t s u now)) (acted spec action (with_counts t s u now)) (goes_on Values now) (acted spec action now) refl (on_acted spec action now t s u)

on_word_line : (spec : RoomSpec) (line : Line) (mind : MindState) (t s u : ℕ) (last last_too : TakenOf (List ℕ)) → known last_too ≡ known last → known (on_word spec line (with_counts t s u mind) last_too) ≡ known (on_word spec line mind last)
on_word_line spec line mind t s u last last_too same =
    let next : MindState = record mind { word = mind.word + 1 } in
    on_test (ltb (mind.word + 1) (words_in spec)) (goes_on line (with_counts t s u next)) last_too (goes_on line next) last refl same

on_scanned : (spec : RoomSpec) (again : Bool) (mind : MindState) (t s u : ℕ) → known (scanned spec again (with_counts t s u mind)) ≡ known (scanned spec again mind)
on_scanned spec again mind t s u =
    let now : MindState = record mind { collects = mind.collects + 1 } in
    let more : MindState = record now { before = now.snapshot } in
    on_test (eqb (words_in spec) 1) (goes_on Show (with_counts t s u mind)) (collected spec again (with_counts t s u now)) (goes_on Show mind) (collected spec again now) refl
    (on_test ((again && ltb 1 now.collects) || eqb now.collects (most_collects spec)) (goes_on Show (with_counts t s u now)) (goes_on Snap (with_counts t s u more)) (goes_on Show now) (goes_on Snap more) refl refl)

on_opened_at : (goal : Goal) (chosen : Option ℕ) (mind : MindState) (t s u : ℕ) → known (opened_at goal chosen (with_counts t s u mind)) ≡ known (opened_at goal chosen mind)
on_opened_at (goals.Write round value) chosen mind t s u = refl
on_opened_at (goals.Ask round) chosen mind t s u = on_asked chosen mind t s u
on_opened_at (goals.Propose value) chosen mind t s u = refl
on_opened_at goals.AskInput chosen mind t s u = on_asked chosen mind t s u
on_opened_at goals.Done chosen mind t s u = refl
on_opened_at goals.Spent chosen mind t s u = refl

on_opened : (found chosen : Option ℕ) (mind : MindState) (t s u : ℕ) → known (opened found chosen (with_counts t s u mind)) ≡ known (opened found chosen mind)
on_opened None chosen mind t s u = refl
on_opened (Some process) chosen mind t s u = on_opened_at (goal_at mind.goals process) chosen (begun process mind) (t + 1) s u

takes_same : (line : Line) (spec : RoomSpec) (mind : MindState) (answer t s u : ℕ) → known (taken_at line spec (with_counts t s u mind) answer) ≡ known (taken_at line spec mind answer)
takes_same Rest spec mind answer t s u = on_opened (next_process mind.goals mind.process) (chosen_in spec answer) mind t s u
takes_same Raise spec mind answer t s u = refl
takes_same Snap spec mind answer t s u =
    let now = loaded answer mind in
    let done : MindState = record now { word = 0 } in
    on_word_line spec Snap now t s u (scanned spec (is_again now) done) (scanned spec (is_again now) (with_counts t s u done)) (on_scanned spec (is_again now) done t s u)
takes_same Show spec mind answer t s u =
    let done : MindState = record mind { word = 0 } in
    on_word_line spec Show mind t s u (goes_on Enter done) (goes_on Enter (with_counts t s u done)) refl
takes_same Enter spec mind answer t s u = refl
takes_same Look spec mind answer t s u = refl
takes_same (Leave saw_two) spec mind answer t s u = refl
takes_same Ask spec mind answer t s u = on_asked (chosen_in spec answer) mind t s u
takes_same (GetInput chosen) spec mind answer t s u = refl
takes_same (GetView chosen) spec mind answer t s u =
    let now = loaded answer mind in
    let done : MindState = record now { word = 0 } in
    on_word_line spec (GetView chosen) now t s u (gathered (entry_in spec now.snapshot) spec [] done) (gathered (entry_in spec now.snapshot) spec [] (with_counts t s u done)) (on_gathered (entry_in spec now.snapshot) spec [] done t s u)
takes_same Values spec mind answer t s u = on_gathered (entry_in spec mind.snapshot) spec (mind.entries ++ Some (min answer greatest) ∷ []) mind t s u
takes_same (Out decision) spec mind answer t s u = refl

pub goes_alike : (spec : RoomSpec) (mind : MindState) (answer : ℕ) → knowledge_of (taken spec (mind_of (knowledge_of mind)) answer).mind ≡ knowledge_of (taken spec mind answer).mind
goes_alike spec mind answer = takes_same mind.line spec (counted mind) answer (cond (is_resting mind.line) 0 1) 1 1
