use Rattle.std.proofs.Common.{◌≡◌, ℕ}
use Rattle.rand_core.specs.Stream.{Stream}
use Rattle.room_spec.specs.Rooms.{RoomSpec}
use Rattle.room_sample.specs.Chances.{random_in}
use Rattle.room_sample.specs.Drawn.{IsLed, style_from}
use Rattle.room_sample.specs.Ways.{way_of}
use Rattle.room_sample.proofs.run.act_by_chance.Given as goal

-- so many draws have led there
abbrev pub invariant-loop : goal.invariant-loop
invariant-loop l = (spec : RoomSpec) (crashes : ℕ) (random : Stream) → l.style ≡ (style_from random).0 → IsLed spec crashes random 0 (way_of l.initial.scheduled) l.initial.active.items (random_in l.initial.chances)
    → IsLed spec crashes random l.counter (way_of l.scheduled) l.active.items (random_in l.chances)
