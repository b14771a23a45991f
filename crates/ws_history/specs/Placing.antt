-- Agreed snapshots with the sums of their rows, and what has been shown after each.
use Rattle.std.specs.Prelude.{ℕ, List, [], ◌∷◌, map, max, slice_index, length, if◌then◌else◌}
use Rattle.std.specs.List.{range_with_len, sum}
use Rattle.room_spec.specs.Rooms.{processes}
use Rattle.room_core.specs.Agreements.{is_passed, row_at}
use Rattle.room_core.specs.Calls.{RoomState}
use Rattle.ws_history.specs.declared.snapshots.Agreed.{Agreed}
use Rattle.ws_history.specs.Histories.{Snapshot}
use Rattle.ws_history.specs.Orders.{all_passed, passed_of}
use Rattle.ws_history.specs.Readings.{read_of}

-- what a room has of a snapshot
abbrev pub agreed_at : RoomState → Snapshot → Agreed
agreed_at room s = record {
  sum = sum (row_at room.spec (read_of room) s.process s.round);
  process = s.process;
  round = s.round;
  row = record { items = row_at room.spec (read_of room) s.process s.round };
}

-- the passed snapshots of a process
abbrev pub agreed_of : RoomState → ℕ → List Agreed
agreed_of room p = map (agreed_at room) (passed_of (is_passed room.spec (read_of room)) p room.spec.rounds)

-- those of all processes, by process
abbrev pub all_agreed : RoomState → List Agreed
all_agreed room = map (agreed_at room) (all_passed (is_passed room.spec (read_of room)) (processes room.spec) room.spec.rounds)

-- that of one round, if it is passed
abbrev pub agreed_if_passed : RoomState → ℕ → ℕ → List Agreed
agreed_if_passed room p k =
    map (agreed_at room) (if is_passed room.spec (read_of room) p k then record { process = p; round = k } ∷ [] else [])

-- what is shown once this row is shown too
abbrev pub shown_with : List ℕ → List ℕ → List ℕ
shown_with shown row = map (λ p. max (slice_index shown p) (slice_index row p)) (range_with_len 0 (length row))
