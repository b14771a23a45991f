use Rattle.view_why.specs.Reported.{AreDecidedBefore}
use Rattle.view_why.proofs.reported.Reported.decided_before.Given as goal

abbrev pub invariant-loop-index : goal.invariant-loop-index
invariant-loop-index l = AreDecidedBefore l.self l.index l.before.items
