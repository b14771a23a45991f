use Rattle.std.proofs.Common.{arith}
use Rattle.std.proofs.lemmas.Result.{err_from_is_err_and}
use Rattle.std.specs.Option.{option_copied}
use Rattle.room_spec.specs.Texts.{pieces_of, is_space}
use Rattle.transcript.proofs.Rows.{goes_on, ends}
use Rattle.transcript.proofs.event_line.read_entries.Goals as goal

pub loop-rest-preserved : goal.loop-rest-preserved
loop-rest-preserved c =
    let before = rw (c.in-Some.is, c.cut_near.ensures.pieces) at c.loop-rest.invariant in
    record {
      room = omega (arith, before.room, c.push.ensures.len);
      so_far = rw c.push.ensures.items (goes_on c.loop-rest.row.items c.cut_near.result.0.now (pieces_of is_space (option_copied c.cut_near.result.1)) c.in_ok-read_entry.field-0 _ c.in_ok-read_entry.ensures before.so_far);
    }

pub returns-in_err-read_entry : goal.returns-in_err-read_entry
returns-in_err-read_entry c =
    let before = rw (c.in-Some.is, c.cut_near.ensures.pieces) at c.loop-rest.invariant in
    let p = err_from_is_err_and c.from_residual.result c.from_residual.ensures.1 in
    rw (p.1, p.2) (ends c.loop-rest.row.items c.cut_near.result.0.now (pieces_of is_space (option_copied c.cut_near.result.1)) _ _ c.in_err-read_entry.ensures before.so_far)
