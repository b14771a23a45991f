-- How the events of a linearization are found from notes. Inside the crate.
use Rattle.std.specs.Prelude.{ℕ, zero, suc, ◌+◌, List, [], ◌∷◌, ◌++◌, Option, Some, None, nat_le, if◌then◌else◌}
use Rattle.std.specs.List.{fold}
use Rattle.std.specs.BTreeMap.{insert_entry}
use Rattle.std.specs.Ordering.{nat_cmp}
use Rattle.room_spec.specs.Rooms.{RoomSpec, processes}
use Rattle.transcript.specs.declared.event.Event.{Event}
use Rattle.room_core.specs.Agreements.{decided_in, greatest_step, is_fixed, shown_of}
use Rattle.room_core.specs.Calls.{RoomState}
use Rattle.room_core.specs.Fields.{Fields}
use Rattle.room_core.specs.Points.{Writes, Snaps, Decides}
use Rattle.ws_history.specs.Histories.{Source}
use Rattle.ws_history.specs.Linearizations.{Timed, event_of}
use Rattle.ws_history.specs.Notes.{Notes, counted_at, read_at, stored_at}
use Rattle.ws_history.specs.Readings.{read_of}
use Rattle.ws_history.specs.Sources.{source_of}

abbrev pub write_points : RoomSpec → Fields → Notes → ℕ → ℕ → List Timed
write_points spec fields notes p r = if nat_le r (greatest_step spec fields p) then (record { time = counted_at spec notes p r; point = Writes p r }) ∷ [] else []

abbrev pub read_points : RoomSpec → Fields → Notes → ℕ → ℕ → List Timed
read_points spec fields notes p r = if is_fixed spec fields p r then (record { time = read_at spec notes (shown_of spec fields p r) p r; point = Snaps p r }) ∷ [] else []

abbrev pub decision_at : ℕ → ℕ → Option ℕ → List Timed
decision_at time p None = []
decision_at time p (Some decision) = (record { time = time; point = Decides p decision }) ∷ []

abbrev pub decision_points : RoomSpec → Fields → Notes → ℕ → List Timed
decision_points spec fields notes p = decision_at (stored_at notes p) p (decided_in spec fields p)

-- those of the first rounds
abbrev pub round_points : RoomSpec → Fields → Notes → ℕ → ℕ → List Timed
round_points spec fields notes p zero = []
round_points spec fields notes p (suc r) = round_points spec fields notes p r ++ (write_points spec fields notes p (r + 1) ++ read_points spec fields notes p (r + 1))

abbrev pub points_of : RoomSpec → Fields → Notes → ℕ → List Timed
points_of spec fields notes p = round_points spec fields notes p spec.rounds ++ decision_points spec fields notes p

-- those of the first processes
abbrev pub all_points : RoomSpec → Fields → Notes → ℕ → List Timed
all_points spec fields notes zero = []
all_points spec fields notes (suc n) = all_points spec fields notes n ++ points_of spec fields notes n

-- one more event, by its time
abbrev pub put_event : Source → List (ℕ × Event) → Timed → List (ℕ × Event)
put_event src events x = insert_entry nat_cmp events x.time (event_of src x.point)

abbrev pub put_in : RoomState → List (ℕ × Event) → Timed → List (ℕ × Event)
put_in room = put_event (source_of room.spec (read_of room))

abbrev pub events_by_time : RoomState → Notes → List (ℕ × Event)
events_by_time room notes = fold (put_in room) [] (all_points room.spec (read_of room) notes (processes room.spec))
