use Rattle.scheduler.proofs.Visits.{IsGone}
use Rattle.scheduler.proofs.visiting.go_round.Given as goal

abbrev pub invariant-loop-at : goal.invariant-loop-at
invariant-loop-at g l = IsGone l.rooms l.going l.initial.all l.all l.kept l.at
