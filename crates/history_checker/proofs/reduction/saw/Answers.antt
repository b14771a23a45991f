use Rattle.std.proofs.Common.{refl}
use Rattle.history_checker.proofs.Alone.{snaps}
use Rattle.history_checker.proofs.reduction.saw.Goals as goal

pub returns : goal.returns
returns c = λ spec protocol mine others before same at may.
    let both = snaps spec mine others before same c.args.p c.args.row.now c.args.process (c.if-not-is_snap.ensures.0 refl) at may in
    (both.0, rw (c.of.ensures, c.next-action.ensures, ← protocol, c.from-round.ensures, c.from.ensures) both.1)
