use Rattle.std.proofs.Common.{None, Some, refl}
use Rattle.view_grade.proofs.Watching.{found_is}
use Rattle.view_grade.proofs.keeper.Keeper.found_at.Goals as goal

pub returns-in_default : goal.returns-in_default
returns-in_default c = (None, rw c.in_default.is at c.in_ok-moment.ensures, refl)

pub returns : goal.returns
returns c = (Some c.in-Some.moment, rw c.in-Some.is at c.in_ok-moment.ensures, found_is _ _ _ _ c.in-Some.moment c.line_at.ensures c.in_ok-name.ensures.items)
