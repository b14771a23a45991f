use Rattle.std.proofs.Common.{◌≡◌, ℕ, ◌+◌, length}
use Rattle.std.specs.List.{All}
use Rattle.scheduler.specs.Tasks.{AreKept, IsStoppedOf, away, brought}
use Rattle.scheduler.proofs.workers.bring_back.Given as goal

abbrev pub invariant-loop-one : goal.invariant-loop-one
invariant-loop-one l =
    AreKept l.rooms l.keepers × All (λ one. IsStoppedOf l.rooms one) l.all.items
    × ((k i : ℕ) → away l.keepers k i + brought k i l.initial.all.items ≡ away l.initial.keepers k i + brought k i l.all.items)

abbrev pub decreases-loop-one : goal.decreases-loop-one
decreases-loop-one l = length l.all.items
