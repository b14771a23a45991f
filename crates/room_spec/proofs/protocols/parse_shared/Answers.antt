use Rattle.std.proofs.Common.{inr, refl}
use Rattle.room_spec.proofs.Memory.{parsed_or, read_may_lack}
use Rattle.room_spec.proofs.protocols.parse_shared.Goals as goal

pub returns-in-Err : goal.returns-in-Err
returns-in-Err c = parsed_or c.args.text.now c.in-Err.fault (rw c.in-Err.is at c.parse_bytes.ensures.exact)

pub returns : goal.returns
returns c = inr (refl, read_may_lack c.args.text.now c.in-Ok.protocol c.in-Ok.ensures.exact)
