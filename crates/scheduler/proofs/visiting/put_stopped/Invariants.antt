use Rattle.std.proofs.Common.{◌≡◌, ℕ, ◌+◌, List, length}
use Rattle.std.specs.List.{All}
use Rattle.ruled_room.specs.Parts.{RoomName}
use Rattle.scheduler.specs.Tasks.{AreStoppedFrom, IsStoppedOf, IsVisitedOf, brought, visited}
use Rattle.scheduler.proofs.visiting.put_stopped.Given as goal

abbrev pub invariant-loop-one : goal.invariant-loop-one
invariant-loop-one l = record {
  stopped : AreStoppedFrom 0 l.all.items;
  every : (rooms : List RoomName) → All (λ one. IsVisitedOf rooms one) l.initial.all.items → All (λ one. IsVisitedOf rooms one) l.all.items;
  done : (rooms : List RoomName) → All (λ one. IsVisitedOf rooms one) l.initial.all.items → All (λ one. IsStoppedOf rooms one) l.initial.done.items → All (λ one. IsStoppedOf rooms one) l.done.items;
  same : (k i : ℕ) → brought k i l.done.items + visited k i l.all.items ≡ brought k i l.initial.done.items + visited k i l.initial.all.items;
}

abbrev pub decreases-loop-one : goal.decreases-loop-one
decreases-loop-one l = length l.all.items
