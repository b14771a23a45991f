-- What a contract sees of a room on shared words, its keeper and its simulators.
use Rattle.std.specs.Prelude.{◌≡◌, ◌⊎◌, ℕ, suc, ◌-◌, ◌<◌, ◌≤◌, Bool, true, false, not, ◌&&◌, List, [], ◌∷◌, length, map, replicate, take, IsSome, is_some, Option, Some, None, slice_index_or, slice_set}
use Rattle.std.specs.List.{range_with_len}
use Rattle.std.specs.Option.{option_map}
use Rattle.atomic_table.specs.Seated.{TableId}
use Rattle.room_spec.specs.Rooms.{RoomSpec}
use Rattle.simulator.specs.Bounds.{IsReadyThroughout}
use Rattle.simulator.specs.Minds.{MindState}
use Rattle.simulator.specs.Moves.{move_of, taken}
use Rattle.simulator.specs.Quiet.{IsQuietCount}
use Rattle.simulator.specs.Ranges.{IsMind}
use Rattle.simulator.specs.Sweeps.{SweepState, is_resting, opening_sweep}
use Rattle.room_core.specs.Calls.{sweep_after, woken}
use Rattle.room_core.specs.declared.reply.StepReply.{StepReply}
use Rattle.room_core.specs.declared.reply.StepReply.TheVariants.{Stepped, Idle, OutOfTurns, Crashed, NoSimulator}
use Rattle.ruled_room.specs.declared.room.Gone.{Gone}
use Rattle.ruled_room.specs.declared.room.Gone.TheVariants.{StillOut, OutOfMemory}
use Rattle.ruled_room.specs.declared.rule.Operation.{Operation}
use Rattle.ruled_room.specs.declared.stop.Stop.{Stop}
use Rattle.ruled_room.specs.declared.stop.Stop.TheVariants as stops
use Rattle.ruled_room.specs.Views.{and_then}

-- Which room it is: its table, and what it was given. Keepers and simulators name their room so. No code can test it, since a
-- seat has no bytes.
pub record RoomName : Type 0 where
  pub table : TableId
  pub spec : RoomSpec

-- ---- simulators

-- a sweep of the room's simulator i, whose quiet count is one of its mind
pub record IsSweepOf (spec : RoomSpec) (i : ℕ) (sweep : SweepState) : Type 0 where
  pub is_mind : IsMind spec sweep.mind
  pub number : sweep.mind.number ≡ i
  pub quiet : IsQuietCount sweep.mind sweep.quiet

-- operations: what it has done on the room's words since the room began, each with its answer, as the table has noted it
pub record SimulatorData : Type 0 where
  pub room : RoomName
  pub number : ℕ
  pub sweep : SweepState
  pub operations : List Operation

-- the simulator after its mind's next operation has had this answer
abbrev pub stepped_with : SimulatorData → ℕ → SimulatorData
stepped_with old answer = record {
  room = old.room;
  number = old.number;
  sweep = sweep_after (taken old.room.spec old.sweep.mind answer) old.sweep.quiet;
  operations = and_then old.operations (move_of old.room.spec old.sweep.mind) answer;
}

abbrev pub with_woken : SimulatorData → SimulatorData
with_woken old = record { room = old.room; number = old.number; sweep = woken old.sweep; operations = old.operations }

-- A step that is taken is one operation, its mind's next, whose answer the mind takes in. At Idle the quiet turns are
-- counted anew, and else nothing changes.
abbrev pub TakesStep : SimulatorData → StepReply → SimulatorData → Type 0
TakesStep old Stepped new = (answer : ℕ) × (new ≡ stepped_with old answer)
TakesStep old Idle new = new ≡ with_woken old
TakesStep old OutOfTurns new = new ≡ old
TakesStep old Crashed new = ⊥
TakesStep old NoSimulator new = ⊥

-- the simulator after one step for each of these answers of the room's words
abbrev pub after_steps : SimulatorData → List ℕ → SimulatorData
after_steps start [] = start
after_steps start (answer ∷ answers) = after_steps (stepped_with start answer) answers

-- its turn is open after each of the first `count` steps
abbrev pub StaysInTurn : SimulatorData → List ℕ → ℕ → Type 0
StaysInTurn start answers count = (k : ℕ) → k < count → is_resting (after_steps start (take (suc k) answers)).sweep.mind.line ≡ false

-- Steps of one turn, at most `most`, and one at least where any may be taken. It was ready for each. The last alone may have ended
-- the turn, and has if they are fewer.
pub record StepsInTurn (most : ℕ) (old new : SimulatorData) : Type 0 where
  pub answers : List ℕ
  pub is : new ≡ after_steps old answers
  pub ready : IsReadyThroughout old.room.spec old.sweep answers
  pub stays : StaysInTurn old answers (length answers - 1)
  pub within : length answers ≤ most
  pub some : 0 < most → 0 < length answers
  pub ended : (length answers ≡ most) ⊎ (is_resting new.sweep.mind.line ≡ true)

-- as TakesStep, with up to `most` steps of one turn
abbrev pub TakesSteps : ℕ → SimulatorData → StepReply → SimulatorData → Type 0
TakesSteps most old Stepped new = StepsInTurn most old new
TakesSteps most old Idle new = new ≡ with_woken old
TakesSteps most old OutOfTurns new = new ≡ old
TakesSteps most old Crashed new = ⊥
TakesSteps most old NoSimulator new = ⊥

-- ---- keepers

-- sweeps: those of the simulators that are at home
-- operations: what each of them has done since the room began; nothing for those that are out, who note it themselves
pub record KeeperData : Type 0 where
  pub room : RoomName
  pub sweeps : List (Option SweepState)
  pub operations : List (List Operation)
  pub crashed : List Bool

abbrev pub sweep_home : KeeperData → ℕ → Option SweepState
sweep_home keeper i = slice_index_or keeper.sweeps i None

abbrev pub operations_home : KeeperData → ℕ → List Operation
operations_home keeper i = slice_index_or keeper.operations i []

-- simulator i is at home and hasn't crashed
abbrev pub holds_in : KeeperData → ℕ → Bool
holds_in keeper i = is_some (sweep_home keeper i) && not (slice_index_or keeper.crashed i false)

-- the keeper of a room in which no simulator has taken a step: all are at home, and none has crashed
abbrev pub first_sweeps : RoomSpec → List (Option SweepState)
first_sweeps spec = map (λ i. Some (opening_sweep spec i)) (range_with_len 0 spec.simulators)

abbrev pub opening_keeper : RoomName → KeeperData
opening_keeper room = record {
  room = room;
  sweeps = first_sweeps room.spec;
  operations = replicate room.spec.simulators [];
  crashed = replicate room.spec.simulators false;
}

-- the minds of those at home
abbrev pub minds_of : List (Option SweepState) → List (Option MindState)
minds_of sweeps = map (option_map (λ sweep. sweep.mind)) sweeps

-- one that is at home is at its number
abbrev pub AreSweeps : RoomSpec → List (Option SweepState) → Type 0
AreSweeps spec sweeps = (i : ℕ) (sweep : SweepState) → slice_index_or sweeps i None ≡ Some sweep → IsSweepOf spec i sweep

-- who has crashed once simulator i stopped so
abbrev pub marked : Stop → ℕ → List Bool → List Bool
marked stops.Idle i crashed = crashed
marked stops.OutOfTurns i crashed = crashed
marked stops.Crashed i crashed = slice_set crashed i true

-- the keeper with this simulator at home again, who stopped so
abbrev pub with_home : KeeperData → SimulatorData → Stop → KeeperData
with_home keeper simulator stop = record {
  room = keeper.room;
  sweeps = slice_set keeper.sweeps simulator.number (Some simulator.sweep);
  operations = slice_set keeper.operations simulator.number simulator.operations;
  crashed = marked stop simulator.number keeper.crashed;
}

-- ---- the end of a room

-- each simulator is at home
abbrev pub IsComplete : List (Option SweepState) → Type 0
IsComplete sweeps = (i : ℕ) → i < length sweeps → IsSome (slice_index_or sweeps i None)

-- simulator i is the first that isn't
abbrev pub IsFirstOut : List (Option SweepState) → ℕ → Type 0
IsFirstOut sweeps i = (i < length sweeps) × (slice_index_or sweeps i None ≡ None) × ((k : ℕ) → k < i → IsSome (slice_index_or sweeps k None))

abbrev pub GoneFor : List (Option SweepState) → Gone → Type 0
GoneFor sweeps (StillOut i) = IsFirstOut sweeps i
GoneFor sweeps OutOfMemory = IsComplete sweeps
