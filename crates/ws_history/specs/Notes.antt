-- Notes of a room's steps: by which of them each write was first counted, each proposal was read, and each decision was first stored.
use Rattle.std.specs.Prelude.{◌≡◌, ℕ, ◌+◌, ◌*◌, ◌<◌, ◌≤◌, Bool, not, List, [], ◌∷◌, ◌++◌, length, map, slice_index, nat_lt, ◌==◌, ◌&&◌}
use Rattle.room_spec.specs.Rooms.{RoomSpec, processes}
use Rattle.room_core.specs.Agreements.{greatest_step, has_out}
use Rattle.room_core.specs.Calls.{RoomState, configuration_of, room_after_step}
use Rattle.room_core.specs.Fields.{Fields}
use Rattle.room_core.specs.Moments.{fields_at}
use Rattle.room_core.specs.Points.{last_read, last_when}
use Rattle.room_core.specs.Observing.{TakenStep}
use Rattle.room_core.specs.Rooms.{Configuration, IsLegal, ScheduleEvent, opening, replay, steps}

-- One number for each process and round, for each simulator, process and round, and for each process: the time of a step.
pub record Notes : Type 0 where
  pub counted : List ℕ
  pub read : List ℕ
  pub stored : List ℕ

-- where the number of round r is, in the given row
abbrev pub place : RoomSpec → ℕ → ℕ → ℕ
place spec row r = row * (spec.rounds + 1) + r

abbrev pub counted_at : RoomSpec → Notes → ℕ → ℕ → ℕ
counted_at spec notes p r = slice_index notes.counted (place spec p r)

abbrev pub read_at : RoomSpec → Notes → ℕ → ℕ → ℕ → ℕ
read_at spec notes i p r = slice_index notes.read (place spec (i * processes spec + p) r)

abbrev pub stored_at : Notes → ℕ → ℕ
stored_at notes p = slice_index notes.stored p

-- ---- what they are notes of

-- from the one fields to the other write r of process p is first counted
abbrev pub counts_in : RoomSpec → ℕ → ℕ → Fields → Fields → Bool
counts_in spec p r before after = nat_lt (greatest_step spec before p) r && (greatest_step spec after p == r)

-- a decision of process p is first stored
abbrev pub stores_in : RoomSpec → ℕ → Fields → Fields → Bool
stores_in spec p before after = not (has_out spec before p) && has_out spec after p

-- the time of the last step of a schedule from whose fields to the next the test holds, or 0
abbrev pub last_by : RoomSpec → List ScheduleEvent → (Fields → Fields → Bool) → ℕ
last_by spec schedule test = last_when (λ time. test (fields_at spec schedule time) (fields_at spec schedule (time + 1))) (length schedule)

-- These are the notes of the steps of this schedule, which leads to the room.
pub record AreNotesOf (room : Configuration) (schedule : List ScheduleEvent) (notes : Notes) : Type 0 where
  pub legal : IsLegal (opening room.spec) schedule
  pub leads : replay (opening room.spec) schedule ≡ room
  pub count_places : length notes.counted ≡ processes room.spec * (room.spec.rounds + 1)
  pub read_places : length notes.read ≡ room.spec.simulators * processes room.spec * (room.spec.rounds + 1)
  pub store_places : length notes.stored ≡ processes room.spec
  pub counted : (p r : ℕ) → p < processes room.spec → r ≤ room.spec.rounds → counted_at room.spec notes p r ≡ last_by room.spec schedule (counts_in room.spec p r)
  pub read : (i p r : ℕ) → i < room.spec.simulators → p < processes room.spec → r ≤ room.spec.rounds → read_at room.spec notes i p r ≡ last_read room.spec schedule i p r (length schedule)
  pub stored : (p : ℕ) → p < processes room.spec → stored_at notes p ≡ last_by room.spec schedule (stores_in room.spec p)

-- By a step of simulator i notes of a room become notes of the room after it.
abbrev pub IsNoted : Notes → RoomState → ℕ → Notes → Type 0
IsNoted old room i new = (schedule : List ScheduleEvent) → AreNotesOf (configuration_of room) schedule old → AreNotesOf (configuration_of (room_after_step room i)) (schedule ++ steps i ∷ []) new

-- the events of a schedule that these steps are
abbrev pub events_taken : List TakenStep → List ScheduleEvent
events_taken taken = map (λ step. steps step.simulator) taken
