use Rattle.std.proofs.Common.{◌≡◌, map, take}
use Rattle.serde_json.specs.View.{view}
use Rattle.view_grade.specs.Grades.{claim_data}
use Rattle.view_grade.proofs.json.reported_claims.Given as goal

-- the claims so far
abbrev pub invariant-loop-claim : goal.invariant-loop-claim
invariant-loop-claim l = map view l.values.items ≡ map (claim_data l.reported) (take l.claim-index l.claims)
