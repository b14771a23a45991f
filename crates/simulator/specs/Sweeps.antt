-- A simulator's mind, and how often in a row its turns were quiet.
use Rattle.std.specs.Prelude.{ℕ, ◌+◌, Bool, true, false, Option, Some, min, nat_lt, nat_le, if◌then◌else◌}
use Rattle.room_spec.specs.Rooms.{RoomSpec}
use Rattle.simulator.specs.declared.line.Line.{Line}
use Rattle.simulator.specs.declared.line.Line.TheVariants.{Rest}
use Rattle.simulator.specs.declared.turn.Turn.{Turn}
use Rattle.simulator.specs.declared.turn.Turn.TheVariants.{Still, Useful, Quiet}
use Rattle.simulator.specs.declared.sweep.Ready.{Ready}
use Rattle.simulator.specs.declared.sweep.Ready.TheVariants.{Step, Idle, OutOfTurns}
use Rattle.simulator.specs.Minds.{MindOf, MindState, next_process, unfinished_in, opening_mind}

pub record SweepState : Type 0 where
  pub mind : MindState
  pub quiet : ℕ

abbrev pub opening_sweep : RoomSpec → ℕ → SweepState
opening_sweep spec i = record { mind = opening_mind spec i; quiet = 0 }

-- the same with another mind
abbrev pub with_mind : SweepState → MindState → SweepState
with_mind sweep mind = record { mind = mind; quiet = sweep.quiet }

-- it is between two turns
abbrev pub is_resting : Line → Bool
is_resting Rest = true
is_resting line = false

-- the process on which its next step works: that of its open turn, or of the turn that would begin
abbrev pub works_on : {S : Type 0} → MindOf S → Option ℕ
works_on mind = if is_resting mind.line then next_process mind.goals mind.process else Some mind.process

-- between two turns: idle where the quiet turns have reached the unfinished processes, and else out of turns if all turns are used up
abbrev pub ready_between : {S : Type 0} → RoomSpec → MindOf S → ℕ → Ready
ready_between spec mind quiet =
    if nat_le (unfinished_in mind.goals) quiet then Idle else if nat_lt mind.turns spec.turns then Step else OutOfTurns

-- what a simulator does that is asked for a step
abbrev pub ready_of : {S : Type 0} → RoomSpec → MindOf S → ℕ → Ready
ready_of spec mind quiet = if is_resting mind.line then ready_between spec mind quiet else Step

-- the quiet count after a step; it stops at 255
abbrev pub quiet_after : Turn → ℕ → ℕ
quiet_after Still quiet = quiet
quiet_after Useful quiet = 0
quiet_after Quiet quiet = min (quiet + 1) 255
