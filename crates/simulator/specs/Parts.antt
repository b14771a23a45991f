-- The part of a mind in the agreement that its open turn works on.
use Rattle.std.specs.Prelude.{◌≡◌}
use Rattle.room_spec.specs.Rooms.{RoomSpec}
use Rattle.room_spec.specs.Shapes.{sizes_of}
use Rattle.room_spec.specs.Sizes.{sizes_in}
use Rattle.simulator.specs.declared.part.Part.{Part}
use Rattle.simulator.specs.Minds.{MindState, current_round}

-- its numbers are those of the mind
abbrev pub IsPartOf : RoomSpec → MindState → Part → Type 0
IsPartOf spec mind part =
    (sizes_of part.shape ≡ sizes_in spec) × (part.simulator ≡ mind.number) × (part.process ≡ mind.process) × (part.round ≡ current_round mind)
