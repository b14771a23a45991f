-- A simulator that takes step after step until it stops: why it stops, and the steps before. A fuse is the number of atomic
-- steps after which it crashes, or none.
use Rattle.std.specs.Prelude.{◌≡◌, ◌⊎◌, ℕ, ◌+◌, ◌<◌, ◌≤◌, ◌-◌, Bool, true, false, List, length, take, Option, Some, None, ◌==◌, if◌then◌else◌, ⊤}
use Rattle.room_spec.specs.Rooms.{RoomSpec}
use Rattle.simulator.specs.Minds.{goal_at}
use Rattle.simulator.specs.Quiet.{HasNoWrite}
use Rattle.simulator.specs.Sweeps.{SweepState, is_resting, ready_of}
use Rattle.simulator.specs.declared.sweep.Ready.{Ready}
use Rattle.simulator.specs.declared.sweep.Ready.TheVariants as ready
use Rattle.ruled_room.specs.Parts.{SimulatorData, StaysInTurn, after_steps, with_woken}
use Rattle.ruled_room.specs.declared.stop.Stop.{Stop}
use Rattle.ruled_room.specs.declared.stop.Stop.TheVariants.{Idle, OutOfTurns, Crashed}

-- ---- why it stops

-- the fuse has burnt down: this many steps are taken
abbrev pub is_burnt : Option ℕ → ℕ → Bool
is_burnt None steps = false
is_burnt (Some after) steps = after == steps

-- no more steps are taken than the fuse allows
abbrev pub IsWithinFuse : Option ℕ → ℕ → Type 0
IsWithinFuse None steps = ⊤
IsWithinFuse (Some after) steps = steps ≤ after

-- This many steps more are left before it burns down: the greatest number of 64 bits where it doesn't.
pub record HasLeft (fuse : Option ℕ) (steps left : ℕ) : Type 0 where
  pub whole : (more : ℕ) → more < left → is_burnt fuse (steps + more) ≡ false
  pub burnt : (is_burnt fuse (steps + left) ≡ true) ⊎ (left ≡ 18446744073709551615)

abbrev pub stop_when : Ready → Option Stop
stop_when ready.Step = None
stop_when ready.Idle = Some Idle
stop_when ready.OutOfTurns = Some OutOfTurns

-- The fuse comes first, also if it would be idle or out of turns. Nothing if it takes a step.
abbrev pub stop_of : Option ℕ → RoomSpec → SweepState → Option Stop
stop_of fuse spec sweep = if is_burnt fuse sweep.mind.steps then Some Crashed else stop_when (ready_of spec sweep.mind sweep.quiet)

abbrev pub stop_at : Option ℕ → SimulatorData → Option Stop
stop_at fuse at = stop_of fuse at.room.spec at.sweep

-- At Idle the quiet turns are counted anew.
abbrev pub stopped : Stop → SimulatorData → SimulatorData
stopped Idle at = with_woken at
stopped OutOfTurns at = at
stopped Crashed at = at

-- What is known of a simulator that has stopped. It has crashed exactly if its fuse has burnt down, and else it is
-- between two turns, with no write left to make or all turns used up.
abbrev pub HasStopped : Option ℕ → RoomSpec → Stop → SweepState → Type 0
HasStopped fuse spec Crashed sweep = is_burnt fuse sweep.mind.steps ≡ true
HasStopped fuse spec Idle sweep = (is_burnt fuse sweep.mind.steps ≡ false) × (is_resting sweep.mind.line ≡ true) × ((process : ℕ) → HasNoWrite (goal_at sweep.mind.goals process))
HasStopped fuse spec OutOfTurns sweep = (is_burnt fuse sweep.mind.steps ≡ false) × (is_resting sweep.mind.line ≡ true) × (sweep.mind.turns ≡ spec.turns)

-- ---- its steps

-- before none of these steps would it stop
abbrev pub GoesOn : Option ℕ → SimulatorData → List ℕ → Type 0
GoesOn fuse start answers = (k : ℕ) → k < length answers → stop_at fuse (after_steps start (take k answers)) ≡ None

-- ---- up to a stop

-- It takes all its steps, whatever the words answer, and stops as soon as it has to.
pub record Drives (fuse : Option ℕ) (old : SimulatorData) (stop : Stop) (new : SimulatorData) : Type 0 where
  pub answers : List ℕ
  pub goes_on : GoesOn fuse old answers
  pub stops : stop_at fuse (after_steps old answers) ≡ Some stop
  pub is : new ≡ stopped stop (after_steps old answers)

-- ---- up to the end of a turn

-- The last step, and no other, has ended a turn; or it stops, and no step has.
abbrev pub EndsTurn : Option ℕ → SimulatorData → List ℕ → Option Stop → SimulatorData → Type 0
EndsTurn fuse old answers None new =
    (0 < length answers) × StaysInTurn old answers (length answers - 1) × (is_resting (after_steps old answers).sweep.mind.line ≡ true)
    × (new ≡ after_steps old answers)
EndsTurn fuse old answers (Some stop) new =
    StaysInTurn old answers (length answers) × (stop_at fuse (after_steps old answers) ≡ Some stop) × (new ≡ stopped stop (after_steps old answers))

pub record TakesTurn (fuse : Option ℕ) (old : SimulatorData) (result : Option Stop) (new : SimulatorData) : Type 0 where
  pub answers : List ℕ
  pub goes_on : GoesOn fuse old answers
  pub ends : EndsTurn fuse old answers result new
