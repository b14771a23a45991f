use Rattle.std.proofs.Common.{◌≡◌, ℕ, ◌+◌, ◌≤◌, length}
use Rattle.std.specs.List.{All}
use Rattle.scheduler.specs.Tasks.{AreStoppedFrom, IsVisitedOf, left_in_all, visited}
use Rattle.scheduler.proofs.visiting.visit_all.Given as goal

abbrev pub invariant-loop-going : goal.invariant-loop-going
invariant-loop-going g l = record {
  every : All (λ one. IsVisitedOf l.rooms one) l.all.items;
  within : l.going ≤ length l.all.items;
  stopped : AreStoppedFrom l.going l.all.items;
  same : (k i : ℕ) → visited k i l.all.items ≡ visited k i l.initial.all.items;
}

abbrev pub decreases-loop-going : goal.decreases-loop-going
decreases-loop-going g l = left_in_all l.all.items + l.going
