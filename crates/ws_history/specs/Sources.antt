-- Where the history of a room comes from: its fields.
use Rattle.std.specs.Prelude.{ℕ, List, Option, None, ◌==◌, if◌then◌else◌}
use Rattle.room_spec.specs.Rooms.{RoomSpec, processes}
use Rattle.transcript.specs.declared.event.Event.{Event}
use Rattle.room_core.specs.Fields.{Fields}
use Rattle.room_core.specs.Agreements.{decided_in, greatest_step, is_fixed, is_passed, row_at, written}
use Rattle.ws_history.specs.Histories.{Source, history_from}
use Rattle.ws_history.specs.Orders.{all_passed, in_order}

-- what is decided after the snapshot of process p in round r
abbrev pub decision_after : RoomSpec → Fields → ℕ → ℕ → Option ℕ
decision_after spec fields p r = if greatest_step spec fields p == r then decided_in spec fields p else None

abbrev pub source_of : RoomSpec → Fields → Source
source_of spec fields = record {
  written = written spec fields;
  order = in_order (row_at spec fields) (all_passed (is_passed spec fields) (processes spec) spec.rounds);
  row = row_at spec fields;
  greatest = greatest_step spec fields;
  decision = decision_after spec fields;
}

-- the same with each snapshot whose agreement is fixed, also where nothing rests on it yet
abbrev pub fixed_source_of : RoomSpec → Fields → Source
fixed_source_of spec fields = record {
  written = written spec fields;
  order = in_order (row_at spec fields) (all_passed (is_fixed spec fields) (processes spec) spec.rounds);
  row = row_at spec fields;
  greatest = greatest_step spec fields;
  decision = decision_after spec fields;
}

-- the history of a room with these fields
abbrev pub history_of : RoomSpec → Fields → List Event
history_of spec fields = history_from spec (source_of spec fields)
