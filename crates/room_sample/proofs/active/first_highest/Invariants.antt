use Rattle.room_sample.proofs.Ranking.{IsHighestOf}
use Rattle.room_sample.proofs.active.first_highest.Given as goal

abbrev pub invariant-loop-at : goal.invariant-loop-at
invariant-loop-at l = IsHighestOf l.active.items l.at l.best.at l.best.rank
