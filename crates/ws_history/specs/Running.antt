-- The history of a room as it is gone through with one running row: for each process how many writes have been shown.
use Rattle.std.specs.Prelude.{◌≡◌, ℕ, List, [], ◌∷◌, ◌++◌, slice_index}
use Rattle.room_spec.specs.Rooms.{processes}
use Rattle.room_spec.specs.Sizes.{sizes_in}
use Rattle.view_table.specs.Places.{IsProcess, IsRound}
use Rattle.transcript.specs.declared.event.Event.{Event}
use Rattle.transcript.specs.declared.event.Event.TheVariants.{Snap}
use Rattle.room_core.specs.Agreements.{row_at, shown_by}
use Rattle.room_core.specs.Calls.{RoomState}
use Rattle.ws_history.specs.declared.snapshots.Agreed.{Agreed}
use Rattle.ws_history.specs.Histories.{by_process, decided, new_writes}
use Rattle.ws_history.specs.Readings.{read_of}
use Rattle.ws_history.specs.Sources.{decision_after, source_of}

-- it is a snapshot of one of the room's processes, after one of its rounds, with what it shows
pub record IsSnapshotOf (room : RoomState) (agreed : Agreed) : Type 0 where
  pub process : IsProcess (sizes_in room.spec) agreed.process
  pub round : IsRound (sizes_in room.spec) agreed.round
  pub row : agreed.row.items ≡ row_at room.spec (read_of room) agreed.process agreed.round

-- what the snapshot shows
abbrev pub row_on : RoomState → Agreed → List ℕ
row_on room agreed = row_at room.spec (read_of room) agreed.process agreed.round

-- the writes of each process that the second row shows, and the first doesn't
abbrev pub writes_between : RoomState → List ℕ → List ℕ → List Event
writes_between room from upto = by_process (λ p. new_writes (source_of room.spec (read_of room)) p (slice_index from p) (slice_index upto p)) (processes room.spec)

-- the decision after the snapshot, if there is one
abbrev pub decision_on : RoomState → Agreed → List Event
decision_on room agreed = decided agreed.process (decision_after room.spec (read_of room) agreed.process agreed.round)

-- the writes that the snapshot is the first to show, the snapshot, and the decision after it
abbrev pub block_on : RoomState → List ℕ → Agreed → List Event
block_on room shown agreed =
    (writes_between room shown (row_on room agreed) ++ Snap agreed.process (record { items = shown_by room.spec (read_of room) (row_on room agreed) }) ∷ [])
    ++ decision_on room agreed
