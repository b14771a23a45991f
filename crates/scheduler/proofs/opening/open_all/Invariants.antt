use Rattle.std.proofs.Common.{◌≡◌, ◌<◌, length, map}
use Rattle.scheduler.specs.Tasks.{IsOpened}
use Rattle.scheduler.proofs.opening.open_all.Given as goal

abbrev pub invariant-loop-spec : goal.invariant-loop-spec
invariant-loop-spec l =
    (goal.iterator-loop-spec).can_next l.spec-iterator ×
    (goal.iterator-loop-spec).is_finite l.spec-iterator × (map (λ room. room.spec) l.opened.rooms.items ≡ l.yielded)
    × IsOpened l.opened.rooms.items l.opened.keepers.items (map (λ queue. queue.items) l.opened.queues.items)
    × (l.next < length l.opened.queues.items) × (length l.opened.queues.items ≡ l.fn.workers)
