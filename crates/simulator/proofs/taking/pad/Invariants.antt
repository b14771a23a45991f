use Rattle.std.proofs.Common.{◌≡◌, ℕ, ◌≤◌, ◌-◌, List, length}
use Rattle.room_spec.specs.Rooms.{RoomSpec, processes}
use Rattle.room_spec.specs.Shapes.{sizes_of}
use Rattle.room_spec.specs.Sizes.{sizes_in}
use Rattle.simulator.specs.Moves.{entry_in}
use Rattle.simulator.specs.Notes.{AreLastWrites}
use Rattle.simulator.specs.Turns.{padded}
use Rattle.simulator.proofs.taking.pad.Given as goal

abbrev pub invariant-loop-entries : goal.invariant-loop-entries
invariant-loop-entries l =
    (length l.entries.items ≤ l.shape.n)
    × ((spec : RoomSpec) (words : List ℕ) → sizes_of l.shape ≡ sizes_in spec → AreLastWrites spec words l.last.holders l.last.rounds → padded (entry_in spec words) (processes spec) l.entries.items ≡ padded (entry_in spec words) (processes spec) l.initial.entries.items)

abbrev pub decreases-loop-entries : goal.decreases-loop-entries
decreases-loop-entries l = l.shape.n - length l.entries.items
