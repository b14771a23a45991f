-- Whether some simulator of a room can go on, as far as its steps and crashes show it.
use Rattle.std.specs.Prelude.{ℕ, ◌==◌, ◌&&◌, ◌||◌, not, Bool, true, false, fold}
use Rattle.std.specs.List.{list_any, range_with_len}
use Rattle.simulator.specs.declared.turn.Turn.{Turn}
use Rattle.simulator.specs.declared.turn.Turn.TheVariants.{Still, Useful, Quiet}
use Rattle.room_spec.specs.Rooms.{RoomSpec}
use Rattle.run_columns.specs.declared.mark.Mark.{Mark}
use Rattle.run_columns.specs.declared.mark.Mark.TheVariants.{Step, Crash}
use Rattle.simulator_lanes.specs.Panels.{Panel}

abbrev pub ends : Turn → Bool
ends Still = false
ends Useful = true
ends Quiet = true

-- a simulator stops for good when it crashes, and at the end of its last turn
abbrev pub stops : RoomSpec → ℕ → Mark → Bool
stops spec simulator (Step step) = (step.simulator == simulator) && ((step.turn == spec.turns) && ends step.end)
stops spec simulator (Crash other) = other == simulator

abbrev pub has_stopped : Panel → ℕ → Bool
has_stopped panel simulator = list_any (stops panel.head.spec simulator) panel.marks

-- some simulator has not stopped
abbrev pub is_one_left : Panel → Bool
is_one_left panel = fold (λ left simulator. left || not (has_stopped panel simulator)) false (range_with_len 0 panel.head.spec.simulators)
