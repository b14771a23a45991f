-- The agreements that no simulator can read at a moment, since one is in the unsafe section.
use Rattle.std.specs.Prelude.{ℕ, Bool, not, Option, Some, None, position, nat_lt, nat_le, ◌==◌, ◌&&◌, ◌||◌, if◌then◌else◌}
use Rattle.std.specs.List.{find, range_with_len}
use Rattle.std.specs.Option.{option_map}
use Rattle.room_spec.specs.Rooms.{RoomSpec, is_reduction, processes}
use Rattle.room_core.specs.Agreements.{is_fixed, shown_of}
use Rattle.room_core.specs.Fields.{Fields, levels_at}
use Rattle.ws_history.specs.declared.unreadable.Unreadable.{Unreadable}

-- the simulator whose proposal the agreement on (j, k) has chosen for good, if it has
abbrev pub chosen_of : RoomSpec → Fields → ℕ → ℕ → Option ℕ
chosen_of spec fields j k = if is_fixed spec fields j k then Some (shown_of spec fields j k) else None

-- the least simulator that has crashed in its unsafe section
abbrev pub blocker_of : RoomSpec → Fields → ℕ → ℕ → Option ℕ
blocker_of spec fields j k = find (λ i. fields.crashed i && (fields.level i j k == 1)) (range_with_len 0 spec.simulators)

-- the agreement, if simulator i is the least in its unsafe section
abbrev pub with_inside : RoomSpec → Fields → ℕ → ℕ → ℕ → Unreadable
with_inside spec fields j k i = record { inside = i; chosen = chosen_of spec fields j k; blocker = blocker_of spec fields j k }

-- the room has no such agreement
abbrev pub is_none : RoomSpec → ℕ → ℕ → Bool
is_none spec j k = nat_le (processes spec) j || (((k == 0) && not (is_reduction spec)) || nat_lt spec.rounds k)

-- what keeps the agreement on (j, k) from being read, if something does
abbrev pub unreadable_of : RoomSpec → Fields → ℕ → ℕ → Option Unreadable
unreadable_of spec fields j k =
    if is_none spec j k then None else option_map (with_inside spec fields j k) (position (λ level. level == 1) (levels_at spec fields j k))
