use Rattle.std.proofs.Common.{sym}
use Rattle.history_checker.proofs.reduction.after.Goals as goal

pub returns-in-Write : goal.returns-in-Write
returns-in-Write c = rw c.in-Write.is (c.wrote.ensures c.args.spec.now c.in-Write.p (sym c.rounds.ensures.value))

pub returns-in-Snap : goal.returns-in-Snap
returns-in-Snap c = rw c.in-Snap.is (c.saw.ensures c.args.spec.now (sym c.protocol.ensures))

pub returns-in-Decide : goal.returns-in-Decide
returns-in-Decide c = rw c.in-Decide.is (c.decided.ensures c.args.spec.now c.in-Decide.p)
