use Rattle.std.proofs.Common.{◌≡◌}
use Rattle.std.proofs.lemmas.Result.{err_from_is_err_and}
use Rattle.room_spec.specs.Shapes.{head_of}
use Rattle.room_spec.proofs.HeadParts.{reduction_whole, reduction_refused}
use Rattle.room_spec.proofs.block_lines.read_reduction_lines.Goals as goal

pub returns-in_err-head : goal.returns-in_err-head
returns-in_err-head c =
    let exit = err_from_is_err_and c.from_residual.result c.from_residual.ensures.1 in
    let same : exit.0 ≡ c.in_err-head.field-0.0 = cc in
    rw (exit.1, same) (reduction_refused c.args.body.now c.in_err-head.field-0.0 c.in_err-head.ensures.value)

pub returns : goal.returns
returns c = reduction_whole c.args.body.now c.in_ok-head.rest.now (head_of c.in_ok-head.head) _ c.in_ok-head.ensures.value c.read_after_head.ensures
