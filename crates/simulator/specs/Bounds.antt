-- A simulator that takes step after step, and what it is answered.
use Rattle.std.specs.Prelude.{◌≡◌, ℕ, ◌+◌, List, [], ◌∷◌, ⊤, if◌then◌else◌}
use Rattle.room_spec.specs.Rooms.{RoomSpec}
use Rattle.room_spec.specs.Sizes.{Sizes}
use Rattle.simulator.specs.declared.sweep.Ready.TheVariants.{Step}
use Rattle.simulator.specs.Moves.{taken}
use Rattle.simulator.specs.Sweeps.{SweepState, ready_of, quiet_after}

-- after one answer, and after one answer for each step
abbrev pub answered : RoomSpec → SweepState → ℕ → SweepState
answered spec sweep answer =
    record { mind = (taken spec sweep.mind answer).mind; quiet = quiet_after (taken spec sweep.mind answer).turn sweep.quiet }

abbrev pub answered_all : RoomSpec → SweepState → List ℕ → SweepState
answered_all spec sweep [] = sweep
answered_all spec sweep (answer ∷ answers) = answered_all spec (answered spec sweep answer) answers

-- it was ready for each of these steps
abbrev pub IsReadyThroughout : RoomSpec → SweepState → List ℕ → Type 0
IsReadyThroughout spec sweep [] = ⊤
IsReadyThroughout spec sweep (answer ∷ answers) =
    (ready_of spec sweep.mind sweep.quiet ≡ Step) × IsReadyThroughout spec (answered spec sweep answer) answers

-- in how many rounds simulators agree on something of a process: on its snapshots, and in a reduction on its input before
abbrev pub agreement_rounds : Sizes → ℕ
agreement_rounds sizes = if sizes.reduction then sizes.rounds + 1 else sizes.rounds
