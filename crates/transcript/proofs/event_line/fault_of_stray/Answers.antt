use Rattle.std.proofs.Common.{sym}
use Rattle.transcript.proofs.Cutting.{fault_of_process, word_of_stray}
use Rattle.transcript.proofs.event_line.fault_of_stray.Goals as goal

pub returns-in-Ok : goal.returns-in-Ok
returns-in-Ok c =
    let pieces = rw c.in_default-Some.is-1 at c.cut_near.ensures.pieces in
    word_of_stray c.args.process.now c.args.deed.now c.cut_near.result.0.now c.in_default-Some.field-0-1.now c.in-Ok.field-0 c.requires pieces c.in-Ok.ensures.value

pub returns-in-Err : goal.returns-in-Err
returns-in-Err c =
    let pieces = rw c.in_default-Some.is-1 at c.cut_near.ensures.pieces in
    rw pieces (fault_of_process c.args.process.now c.cut_near.result.0.now c.in_default-Some.field-0-1.now c.in-Err.fault (sym c.in-Err.ensures.value))
