use Rattle.std.proofs.Common.{sym, subst}
use Rattle.history_checker.specs.Shown.{ShowsLasts}
use Rattle.history_checker.proofs.room.show.Goals as goal

pub returns-in-Some : goal.returns-in-Some
returns-in-Some c = λ last shows. c.write.ensures last (subst (ShowsLasts last) (sym c.deref_mut.ensures.value) (rw c.in-Some.is at shows))
