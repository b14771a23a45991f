-- The fields of a room as a report reads them, and its words that it looks at.
use Rattle.std.specs.Prelude.{ℕ, ◌+◌, min}
use Rattle.protocol_lang.specs.Numbers.{greatest}
use Rattle.room_spec.specs.Sizes.{sizes_in}
use Rattle.view_table.specs.Places.{index_of}
use Rattle.view_table.specs.declared.place.Place.TheVariants as places
use Rattle.room_core.specs.Calls.{RoomState}
use Rattle.room_core.specs.Fields.{Fields}
use Rattle.room_core.specs.Agreements.{shown_of}
use Rattle.room_core.specs.Reading.{fields_in}

-- values above the greatest read as that
abbrev pub small_fields : Fields → Fields
small_fields fields = record fields { value = λ i j k. min (fields.value i j k) greatest; out = λ i j. min (fields.out i j) (greatest + 1) }

unfoldable pub read_of : RoomState → Fields
read_of room = small_fields (fields_in room)

-- where among its words the view begins that the agreement on process j's snapshot in round k shows
abbrev pub view_start : RoomState → ℕ → ℕ → ℕ
view_start room j k = index_of (sizes_in room.spec) (places.View (shown_of room.spec (read_of room) j k) j k 0)
