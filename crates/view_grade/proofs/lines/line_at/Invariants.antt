use Rattle.std.proofs.Common.{◌≡◌, length}
use Rattle.view_grade.specs.Keeping.{line_at, line_from}
use Rattle.view_grade.proofs.lines.line_at.Given as goal

-- what is left says the line
abbrev pub invariant-walk : goal.invariant-walk
invariant-walk l = line_from l.left l.number l.rest ≡ line_at l.script l.index

abbrev pub decreases-walk : goal.decreases-walk
decreases-walk l = length l.rest
