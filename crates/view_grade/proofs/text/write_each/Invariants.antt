use Rattle.std.proofs.Common.{◌≡◌, ◌++◌, take}
use Rattle.std.specs.List.{flat_map}
use Rattle.view_grade.specs.Grades.{claim_line}
use Rattle.view_grade.proofs.text.write_each.Given as goal

abbrev pub invariant-loop-claim : goal.invariant-loop-claim
invariant-loop-claim l = l.output ≡ l.fn.output ++ flat_map (claim_line l.reported) (take l.claim-index l.claims)
