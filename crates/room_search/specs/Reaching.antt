-- The outcomes that the simulators of a room can reach.
use Rattle.std.specs.Prelude.{◌≡◌, ℕ, ◌+◌, ◌<◌, ◌≤◌, false, List, Some, length, slice_get}
use Rattle.std.specs.List.{Contains}
use Rattle.room_spec.specs.Rooms.{RoomSpec, processes}
use Rattle.room_core.specs.Calls.{RoomState, configuration_of, room_after_settle}
use Rattle.room_core.specs.Fields.{Fields, fields_after_settle}
use Rattle.room_core.specs.Reading.{AreFieldsOf}
use Rattle.room_core.specs.Settled.{crashed_in}
use Rattle.ws_history.specs.Reports.{report_of, states_of}
use Rattle.run_search.specs.declared.ended.Ended.{Ended}
use Rattle.room_outcomes.specs.Ends.{IsRoomOutcome, ends_of}
use Rattle.room_sample.specs.Schedules.{IsOutcome, IsSchedule, crashes_in, room_after_schedule}
use Rattle.room_sample.specs.declared.stretch.Stretch.{Stretch}
use Rattle.room_search.specs.Beginnings.{crash_count}
use Rattle.room_search.specs.Continuing.{Continues}
use Rattle.room_search.specs.declared.reached.Reached.{Reached}

-- how the processes end in an outcome: one that is held or still going counts as stopped
abbrev pub outcome_of : Reached → List Ended
outcome_of reached = ends_of reached.states.items

-- The outcome's schedule leads to it: at most this many simulators crash in it, and the room has settled after it.
abbrev pub IsReachedBy : RoomSpec → ℕ → Reached → Type 0
IsReachedBy spec crashes reached = IsOutcome spec crashes reached.schedule.items reached.states.items

-- Some schedule of the simulators leads to a room in which, once it has settled, at most this many have crashed and each other one has a turn left, and in which the
-- processes end like this.
pub record IsReachable (spec : RoomSpec) (crashes : ℕ) (outcome : List Ended) : Type 0 where
  pub room : RoomState
  pub of_room : room.spec ≡ spec
  pub fields : Fields
  pub are : AreFieldsOf room fields
  pub few : length (crashed_in spec (fields_after_settle spec fields)) ≤ crashes
  pub turns : (i : ℕ) → i < spec.simulators → (fields_after_settle spec fields).crashed i ≡ false → ((fields_after_settle spec fields).mind i).turns < spec.turns
  pub outcome_is : outcome ≡ ends_of (states_of spec (fields_after_settle spec fields))

-- The outcome is open in a room: some schedule that goes on from it leads to the outcome. The simulators that have crashed in the room count.
pub record IsOpen (start : RoomState) (spec : RoomSpec) (crashes : ℕ) (outcome : List Ended) : Type 0 where
  pub reachable : IsReachable spec crashes outcome
  pub goes_on : Continues (configuration_of start) (configuration_of reachable.room)

-- the room once it has settled after a schedule from this one on
abbrev pub settled_from : RoomState → List Stretch → RoomState
settled_from start schedule = room_after_settle (room_after_schedule start schedule)

-- The outcome's schedule leads to it from this room on. At most this many simulators have crashed then, those counted that had crashed in the room.
pub record IsReachedFrom (start : RoomState) (crashes : ℕ) (reached : Reached) : Type 0 where
  pub may_come : IsSchedule start reached.schedule.items
  pub few : crash_count start + crashes_in reached.schedule.items ≤ crashes
  pub reported : (fields : Fields) → AreFieldsOf (settled_from start reached.schedule.items) fields → reached.states.items ≡ (report_of (settled_from start reached.schedule.items).spec fields).states.items

-- the outcome is one of these
abbrev pub IsFound : List Reached → List Ended → Type 0
IsFound outcomes outcome = (reached : Reached) × Contains outcomes reached × (outcome ≡ outcome_of reached)

-- All outcomes that the simulators can reach if at most this many crash: each once, with a schedule that leads to it, and each an outcome of a run of the protocol. None is left
-- out if no node was missed.
pub record AreAllReached (spec : RoomSpec) (crashes missed : ℕ) (outcomes : List Reached) : Type 0 where
  pub complete : missed ≡ 0 → (outcome : List Ended) → IsReachable spec crashes outcome → IsFound outcomes outcome
  pub sound : (one : Reached) → Contains outcomes one → IsReachedBy spec crashes one
  pub distinct : (i j : ℕ) (one other : Reached) → slice_get outcomes i ≡ Some one → slice_get outcomes j ≡ Some other → outcome_of one ≡ outcome_of other → i ≡ j
  pub among : (one : Reached) → Contains outcomes one → IsRoomOutcome spec (processes spec) (outcome_of one)

-- All outcomes that are open in a room if at most this many simulators crash: each once, with a schedule that leads to it from the room, and each an outcome of a run of the
-- protocol. None is left out if no node was missed.
pub record AreAllOpen (start : RoomState) (spec : RoomSpec) (crashes missed : ℕ) (outcomes : List Reached) : Type 0 where
  pub complete : missed ≡ 0 → (outcome : List Ended) → IsOpen start spec crashes outcome → IsFound outcomes outcome
  pub sound : (one : Reached) → Contains outcomes one → IsReachedFrom start crashes one
  pub distinct : (i j : ℕ) (one other : Reached) → slice_get outcomes i ≡ Some one → slice_get outcomes j ≡ Some other → outcome_of one ≡ outcome_of other → i ≡ j
  pub among : (one : Reached) → Contains outcomes one → IsRoomOutcome spec (processes spec) (outcome_of one)
