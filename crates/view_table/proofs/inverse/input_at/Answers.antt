use Rattle.std.proofs.Common.{◌+◌, arith}
use Rattle.room_spec.specs.Shapes.{sizes_of}
use Rattle.view_table.proofs.PlaceLemmas.{in_inputs, input_from, some_inputs}
use Rattle.view_table.specs.Places.{pairs}
use Rattle.view_table.proofs.inverse.input_at.Goals as goal

pub returns-then-at-shape : goal.returns-then-at-shape
returns-then-at-shape c =
    let sizes = sizes_of c.args.shape.now in
    let is = some_inputs sizes.reduction (sizes.n + pairs sizes) (omega (arith, c.requires)) in
    in_inputs sizes c.args.at is (omega (arith, c.if-at-shape.true))

pub returns : goal.returns
returns c = input_from (sizes_of c.args.shape.now) c.args.at c.requires (omega (arith, c.if-at-shape.false))
