use Rattle.std.proofs.Common.{◌≡◌, ◌++◌, take}
use Rattle.std.specs.List.{flat_map}
use Rattle.picture_shapes.specs.Shapes.{shape_text}
use Rattle.picture_shapes.proofs.svg.write_shapes.Given as goal

abbrev pub invariant-loop-shape : goal.invariant-loop-shape
invariant-loop-shape l = l.output ≡ l.initial.output ++ flat_map shape_text (take l.shape-index l.shapes)
