-- A line as what it stores and what it makes of the mind.
use Rattle.std.proofs.Common.{◌≡◌, ℕ, ◌+◌, ◌<◌, ◌≤◌, zero, suc, Bool, true, false, cond, ltb, List, [], ◌∷◌, length, Option, Some, None, refl, ap, ◌∙◌, subst, arith}
use Rattle.room_spec.specs.Rooms.{RoomSpec, processes}
use Rattle.room_spec.specs.Sizes.{Sizes, sizes_in}
use Rattle.safe_agreement.specs.Levels.{has_level, left_level}
use Rattle.sim_memory.specs.Steps.{AreWithin}
use Rattle.view_table.specs.Places.{IsProcess, IsRound, IsAgreementRound}
use Rattle.view_table.proofs.CallerLemmas.{agreement_round, zero_agreed}
use Rattle.simulator.specs.declared.goal.Goal.{Goal}
use Rattle.simulator.specs.declared.goal.Goal.TheVariants as goals
use Rattle.simulator.specs.declared.line.Line.{Line}
use Rattle.simulator.specs.declared.line.Line.TheVariants.{Rest, Raise, Snap, Show, Enter, Look, Leave, Ask, GetInput, GetView, Values, Out}
use Rattle.simulator.specs.declared.operation.Move.{Move}
use Rattle.simulator.specs.declared.operation.Move.TheVariants.{OutOfTurns}
use Rattle.simulator.specs.Minds.{MindOf, goal_at, current_goal, current_round, is_unfinished, round_of, next_process}
use Rattle.simulator.specs.Turns.{TakenOf, counted, goes_on, snapped, showed, asked, got_input, got_view, got_value, decided, opened}
use Rattle.simulator.specs.Moves.{IsOperation, first_move_at, first_move, move_at}
use Rattle.simulator.specs.Ranges.{IsCollectCount, IsGoal, IsLineIn, IsOpenAt, IsMind, words_at}
use Rattle.room_core.specs.Fields.{StepMap, Fields, changed_pair, changed_triple, levels_at, chosen_at, entry_of_steps, shown_value, is_same_collect, with_loaded, with_shown, with_taken, first_line_at, first_line, line_on}
use Rattle.room_core.specs.Reading.{worded}
use Rattle.room_core.specs.Tracks.{AreInRange, Tells, stage_of}
use Rattle.room_core.proofs.fields.Tracks.{ToldBeside}

-- ---- the two parts

abbrev pub stored_first_at : Goal → Fields → ℕ → ℕ → Fields
stored_first_at (goals.Write k value) fields i j = record fields { value = changed_triple fields.value i j k value }
stored_first_at (goals.Ask k) fields i j = fields
stored_first_at (goals.Propose value) fields i j = record fields { value = changed_triple fields.value i j 0 value }
stored_first_at goals.AskInput fields i j = fields
stored_first_at goals.Done fields i j = fields
stored_first_at goals.Spent fields i j = fields

abbrev pub stored_first : Option ℕ → Fields → ℕ → MindOf StepMap → Fields
stored_first None fields i mind = fields
stored_first (Some j) fields i mind = stored_first_at (goal_at mind.goals j) fields i j

abbrev pub stored_on : Line → RoomSpec → Fields → ℕ → ℕ → ℕ → MindOf StepMap → Fields
stored_on Rest spec fields i j k mind = stored_first (next_process mind.goals mind.process) fields i mind
stored_on Raise spec fields i j k mind = record fields { step = changed_pair fields.step i j (fields.step i j + 1) }
stored_on Snap spec fields i j k mind = fields
stored_on Show spec fields i j k mind = record fields { view = changed_triple fields.view i j k (with_shown spec (fields.view i j k) mind) }
stored_on Enter spec fields i j k mind = record fields { level = changed_triple fields.level i j k (fields.level i j k + 1) }
stored_on Look spec fields i j k mind = fields
stored_on (Leave saw_two) spec fields i j k mind = record fields { level = changed_triple fields.level i j k (left_level saw_two) }
stored_on Ask spec fields i j k mind = fields
stored_on (GetInput chosen) spec fields i j k mind = fields
stored_on (GetView chosen) spec fields i j k mind = fields
stored_on Values spec fields i j k mind = fields
stored_on (Out decision) spec fields i j k mind = record fields { out = changed_pair fields.out i j (decision + 1) }

abbrev pub taken_first_at : Goal → RoomSpec → Fields → ℕ → MindOf StepMap → TakenOf StepMap
taken_first_at (goals.Write k value) spec fields j mind = opened (Some j) None mind
taken_first_at (goals.Ask k) spec fields j mind = opened (Some j) (chosen_at spec fields j k) mind
taken_first_at (goals.Propose value) spec fields j mind = opened (Some j) None mind
taken_first_at goals.AskInput spec fields j mind = opened (Some j) (chosen_at spec fields j 0) mind
taken_first_at goals.Done spec fields j mind = goes_on Rest mind
taken_first_at goals.Spent spec fields j mind = goes_on Rest mind

abbrev pub taken_first : Option ℕ → RoomSpec → Fields → MindOf StepMap → TakenOf StepMap
taken_first None spec fields mind = goes_on Rest mind
taken_first (Some j) spec fields mind = taken_first_at (goal_at mind.goals j) spec fields j mind

abbrev pub taken_on : Line → RoomSpec → Fields → ℕ → ℕ → MindOf StepMap → TakenOf StepMap
taken_on Rest spec fields j k mind = taken_first (next_process mind.goals mind.process) spec fields mind
taken_on Raise spec fields j k mind = goes_on Snap mind
taken_on Snap spec fields j k mind = snapped spec (is_same_collect spec (with_loaded spec fields.step mind)) (with_loaded spec fields.step mind)
taken_on Show spec fields j k mind = showed spec mind
taken_on Enter spec fields j k mind = goes_on Look mind
taken_on Look spec fields j k mind = goes_on (Leave (has_level 2 (levels_at spec fields j k))) mind
taken_on (Leave saw_two) spec fields j k mind = goes_on Ask mind
taken_on Ask spec fields j k mind = asked (chosen_at spec fields j k) mind
taken_on (GetInput chosen) spec fields j k mind = got_input spec (fields.value chosen j 0) mind
taken_on (GetView chosen) spec fields j k mind = got_view (entry_of_steps spec (with_loaded spec (fields.view chosen j k) mind).snapshot) spec chosen (with_loaded spec (fields.view chosen j k) mind)
taken_on Values spec fields j k mind = got_value (entry_of_steps spec mind.snapshot) spec (shown_value spec fields mind.snapshot (length mind.entries)) mind
taken_on (Out decision) spec fields j k mind = decided decision mind

-- ---- they make up the line

pub operation_of : (b : Bool) (move : Move) → IsOperation (cond b move OutOfTurns) → IsOperation move
operation_of true move moves = moves
operation_of false move moves = absurd moves

first_parts_at : (goal : Goal) (spec : RoomSpec) (fields : Fields) (i j : ℕ) (mind : MindOf StepMap) (number : ℕ) → IsOperation (first_move_at goal spec number j) → first_line_at goal spec fields i j mind ≡ with_taken (stored_first_at goal fields i j) i (taken_first_at goal spec fields j mind)
first_parts_at (goals.Write k value) spec fields i j mind number moves = refl
first_parts_at (goals.Ask k) spec fields i j mind number moves = refl
first_parts_at (goals.Propose value) spec fields i j mind number moves = refl
first_parts_at goals.AskInput spec fields i j mind number moves = refl
first_parts_at goals.Done spec fields i j mind number moves = absurd moves
first_parts_at goals.Spent spec fields i j mind number moves = absurd moves

first_parts : (next : Option ℕ) (spec : RoomSpec) (fields : Fields) (i : ℕ) (mind : MindOf StepMap) → IsOperation (first_move next spec (worded (sizes_in spec) mind)) → first_line next spec fields i (counted mind) ≡ with_taken (stored_first next fields i (counted mind)) i (taken_first next spec fields (counted mind))
first_parts None spec fields i mind moves = absurd moves
first_parts (Some j) spec fields i mind moves = first_parts_at (goal_at mind.goals j) spec fields i j (counted mind) mind.number (operation_of (ltb mind.turns spec.turns) (first_move_at (goal_at mind.goals j) spec mind.number j) moves)

pub line_parts : (line : Line) (spec : RoomSpec) (fields : Fields) (i j k : ℕ) (mind : MindOf StepMap) → IsOperation (move_at line spec (worded (sizes_in spec) mind)) → line_on line spec fields i j k (counted mind) ≡ with_taken (stored_on line spec fields i j k (counted mind)) i (taken_on line spec fields j k (counted mind))
line_parts Rest spec fields i j k mind moves = first_parts (next_process mind.goals mind.process) spec fields i mind moves
line_parts Raise spec fields i j k mind moves = refl
line_parts Snap spec fields i j k mind moves = refl
line_parts Show spec fields i j k mind moves = refl
line_parts Enter spec fields i j k mind moves = refl
line_parts Look spec fields i j k mind moves = refl
line_parts (Leave saw_two) spec fields i j k mind moves = refl
line_parts Ask spec fields i j k mind moves = refl
line_parts (GetInput chosen) spec fields i j k mind moves = refl
line_parts (GetView chosen) spec fields i j k mind moves = refl
line_parts Values spec fields i j k mind moves = refl
line_parts (Out decision) spec fields i j k mind moves = refl

-- ---- a simulator that stands at a line

-- with what its mind tells of its fields
pub record StandsAt (line : Line) (spec : RoomSpec) (fields : Fields) (i : ℕ) (mind : MindOf StepMap) : Type 0 where
  pub below : i < spec.simulators
  pub number : mind.number ≡ i
  pub is_mind : IsMind spec (worded (sizes_in spec) mind)
  pub word : mind.word < words_at spec line
  pub collects : IsCollectCount spec line mind.collects
  pub open_at : IsOpenAt line spec (worded (sizes_in spec) mind)
  pub round : IsLineIn (current_round mind) line
  pub moves : IsOperation (move_at line spec (worded (sizes_in spec) mind))
  pub others : ToldBeside spec.rounds mind.process mind.goals (fields.step i) (fields.level i)
  pub own : Tells spec.rounds (current_goal mind) (stage_of line) (fields.step i mind.process) (fields.level i mind.process)
  pub range : AreInRange spec fields
  pub before : AreWithin (sizes_in spec) mind.before
  pub snapshot : AreWithin (sizes_in spec) mind.snapshot

-- ---- places of a turn

round_in : (sizes : Sizes) (goal : Goal) → is_unfinished goal ≡ true → IsGoal sizes goal → IsAgreementRound sizes (round_of goal)
round_in sizes (goals.Write k value) left range = agreement_round sizes k range
round_in sizes (goals.Ask k) left range = agreement_round sizes k range
round_in sizes (goals.Propose value) left range = zero_agreed sizes range
round_in sizes goals.AskInput left range = zero_agreed sizes range
round_in sizes goals.Done left range = absurd cc
round_in sizes goals.Spent left range = absurd cc

pub process_in : (list : List Goal) (process : ℕ) → is_unfinished (goal_at list process) ≡ true → process < length list
process_in [] process left = absurd cc
process_in (goal ∷ list) zero left = omega arith
process_in (goal ∷ list) (suc process) left = let less = process_in list process left in omega arith

-- an open turn works on a round of the room
pub open_round : (spec : RoomSpec) (mind : MindOf StepMap) → IsMind spec (worded (sizes_in spec) mind) → is_unfinished (current_goal mind) ≡ true → IsAgreementRound (sizes_in spec) (current_round mind)
open_round spec mind is left = round_in (sizes_in spec) (current_goal mind) left (is.rounds mind.process is.process)

-- in a turn on a snapshot, it is one of its rounds
pub snapshot_round : (spec : RoomSpec) (mind : MindOf StepMap) → IsMind spec (worded (sizes_in spec) mind) → is_unfinished (current_goal mind) ≡ true → 1 ≤ current_round mind → IsRound (sizes_in spec) (current_round mind)
snapshot_round spec mind is left first = (first, (open_round spec mind is left).1)

-- and a turn begins on a process and a round of the room
pub first_place : (spec : RoomSpec) (mind : MindOf StepMap) (j : ℕ) (goal : Goal) → IsMind spec (worded (sizes_in spec) mind) → goal_at mind.goals j ≡ goal → is_unfinished goal ≡ true → IsProcess (sizes_in spec) j × IsAgreementRound (sizes_in spec) (round_of goal)
first_place spec mind j goal is same left =
    let here : is_unfinished (goal_at mind.goals j) ≡ true = ap is_unfinished same ∙ left in
    let process : j < processes spec = let below = process_in mind.goals j here in let long = is.goals in omega arith in
    (process, round_in (sizes_in spec) goal left (subst (IsGoal (sizes_in spec)) same (is.rounds j process)))

-- its goal is one of the room's
pub first_goal_in : (spec : RoomSpec) (mind : MindOf StepMap) (j : ℕ) (goal : Goal) → IsMind spec (worded (sizes_in spec) mind) → goal_at mind.goals j ≡ goal → is_unfinished goal ≡ true → IsGoal (sizes_in spec) goal
first_goal_in spec mind j goal is same left = subst (IsGoal (sizes_in spec)) same (is.rounds j (first_place spec mind j goal is same left).0)
