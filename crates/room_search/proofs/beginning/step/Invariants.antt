use Rattle.std.proofs.Common.{◌≡◌, ◌-◌}
use Rattle.service_core.specs.Rooms.{room_stepped}
use Rattle.room_search.proofs.beginning.step.Given as goal

abbrev pub invariant-loop : goal.invariant-loop
invariant-loop l = room_stepped l.room l.i (l.count - l.counter) ≡ room_stepped l.initial.room l.i l.count
