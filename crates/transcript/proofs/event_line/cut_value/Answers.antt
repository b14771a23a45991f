use Rattle.std.proofs.Common.{sym}
use Rattle.transcript.proofs.Rows.{value_two}
use Rattle.transcript.proofs.event_line.cut_value.Goals as goal

pub returns-in_default-Some : goal.returns-in_default-Some
returns-in_default-Some c =
    let pieces = rw c.in_default-Some.is-1 at c.cut_near.ensures.pieces in rw pieces (sym (value_two _ c.cut_near.result.0.now c.in_default-Some.field-0-1.now))
