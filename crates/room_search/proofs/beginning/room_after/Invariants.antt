use Rattle.std.proofs.Common.{◌≡◌, drop}
use Rattle.room_search.specs.Beginnings.{begun, room_after_acts}
use Rattle.room_search.proofs.beginning.room_after.Given as goal

abbrev pub invariant-loop-act : goal.invariant-loop-act
invariant-loop-act l = room_after_acts l.room (drop l.act-index l.from.acts.now) ≡ begun l.from.spec.now l.from.acts.now
