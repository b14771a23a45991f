-- How many events a schedule has, as the room to which it leads says it.
use Rattle.std.specs.Prelude.{ℕ, zero, suc, ◌+◌, if◌then◌else◌}
use Rattle.room_core.specs.Rooms.{Configuration, crashed_at, mind_at}

-- the sum of the first `count` numbers
abbrev pub total : (ℕ → ℕ) → ℕ → ℕ
total number zero = 0
total number (suc count) = total number count + number count

-- the atomic steps of simulator i, and its crash
abbrev pub events_of : Configuration → ℕ → ℕ
events_of room i = (mind_at room i).steps + (if crashed_at room i then 1 else 0)

-- those of all simulators
abbrev pub events_so_far : Configuration → ℕ
events_so_far room = total (events_of room) room.spec.simulators
