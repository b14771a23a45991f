use Rattle.std.proofs.Common.{◌≡◌, false, fold, take}
use Rattle.view_grade.specs.Judging.{joined_with}
use Rattle.view_grade.proofs.judging.satisfies.Given as goal

-- the claims so far
abbrev pub invariant-loop-claim : goal.invariant-loop-claim
invariant-loop-claim l = fold (joined_with l.reported) (record { earlier = false; last = false }) (take l.claim-index l.claims) ≡ record { earlier = l.earlier; last = l.last }
