-- The numbers of a shape, and what a head says.
use Rattle.room_spec.specs.Sizes.{Sizes}
use Rattle.room_spec.specs.Blocks as blocks
use Rattle.room_spec.specs.declared.spec.Shape.{Shape}
use Rattle.room_spec.specs.declared.block_lines.Head.{Head}

abbrev pub sizes_of : Shape → Sizes
sizes_of shape = record { n = shape.n; m = shape.m; bits = shape.bits; rounds = shape.rounds; reduction = shape.reduction }

abbrev pub head_of : Head → blocks.Head
head_of head = record { version = head.version; name = head.name; inputs = head.inputs.items; own = head.own.items; simulators = head.simulators }
