-- One atomic step of a room, as seen from the room before it and the room after it.
use Rattle.std.specs.Prelude.{◌≡◌, ℕ, ◌+◌, Option, Some, None, slice_index, if◌then◌else◌}
use Rattle.room_spec.specs.Sizes.{sizes_in}
use Rattle.view_table.specs.Places.{IsPlaceAt}
use Rattle.simulator.specs.Minds.{MindState, goal_at, round_of}
use Rattle.simulator.specs.Moves.{IsOperation, move_of}
use Rattle.simulator.specs.Sweeps.{is_resting, works_on}
use Rattle.simulator.specs.declared.goal.Goal.{Goal}
use Rattle.simulator.specs.declared.goal.Goal.TheVariants as goals
use Rattle.simulator.specs.declared.operation.Move.{Move}
use Rattle.simulator.specs.declared.operation.Move.TheVariants.{Load, Store, Add, Sub, Finished, OutOfTurns}
use Rattle.simulator.specs.declared.turn.Turn.{Turn}
use Rattle.simulator.specs.declared.turn.Turn.TheVariants.{Still, Useful, Quiet}
use Rattle.room_core.specs.Calls.{RoomState, decision_at, room_after_step, sweep_at}
use Rattle.room_steps.specs.declared.step.AtomicStep.{AtomicStep}

-- what a simulator of a room has in mind
abbrev pub mind_in : RoomState → ℕ → MindState
mind_in room i = (sweep_at room i).mind

-- the index of the word that an operation is on
abbrev pub index_of_move : Move → ℕ
index_of_move (Load index) = index
index_of_move (Store index number) = index
index_of_move (Add index number) = index
index_of_move (Sub index number) = index
index_of_move Finished = 0
index_of_move OutOfTurns = 0

-- the number of the turn that a mind's next step belongs to, counted from 1
abbrev pub turn_number : MindState → ℕ
turn_number mind = if is_resting mind.line then mind.turns + 1 else mind.turns

-- what is left to do for the process if no turn is open any more
abbrev pub end_in : MindState → ℕ → Option Goal
end_in mind process = if is_resting mind.line then Some (goal_at mind.goals process) else None

-- what a simulator has decided after a step, if it had decided nothing before
abbrev pub new_decision : Option ℕ → Option ℕ → Option ℕ
new_decision None after = after
new_decision (Some decision) after = None

-- How a step ended its turn, by what it left to do for the process: the turn goes on; or it was quiet, and the process still asks for its
-- snapshot, or in a reduction for its input; or it was useful.
abbrev pub turn_of : Option Goal → Turn
turn_of None = Still
turn_of (Some (goals.Ask round)) = Quiet
turn_of (Some goals.AskInput) = Quiet
turn_of (Some (goals.Propose value)) = Useful
turn_of (Some (goals.Write round value)) = Useful
turn_of (Some goals.Done) = Useful
turn_of (Some goals.Spent) = Useful

-- The step that simulator i takes next in a room: the operation that its mind wants, on which word, and what that word was.
pub record IsNextStep (room : RoomState) (i : ℕ) (step : AtomicStep) : Type 0 where
  pub simulator : step.simulator ≡ i
  pub turn : step.turn ≡ turn_number (mind_in room i)
  pub process : works_on (mind_in room i) ≡ Some step.process
  pub round : step.round ≡ round_of (goal_at (mind_in room i).goals step.process)
  pub line : step.line ≡ (mind_in room i).line
  pub operation : step.operation ≡ move_of room.spec (mind_in room i)
  pub is_operation : IsOperation step.operation
  pub place : IsPlaceAt (sizes_in room.spec) step.place (index_of_move step.operation)
  pub word : step.word ≡ slice_index room.words (index_of_move step.operation)

-- And what it left: what the word is in the room after it; where the step ended its turn, what is left to do for the process; and what
-- the simulator decided by it, if it had decided nothing before.
pub record IsStepOf (room : RoomState) (i : ℕ) (step : AtomicStep) : Type 0 where
  pub next : IsNextStep room i step
  pub after : step.after ≡ slice_index (room_after_step room i).words (index_of_move step.operation)
  pub ended : step.end ≡ end_in (mind_in (room_after_step room i) i) step.process
  pub decision : step.decision ≡ new_decision (decision_at room i) (decision_at (room_after_step room i) i)
