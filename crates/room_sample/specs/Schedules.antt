-- Schedules of a room, and its outcome under one.
use Rattle.std.specs.Prelude.{◌≡◌, ◌≢◌, ℕ, ◌<◌, ◌≤◌, Bool, true, false, Contains, List, [], ◌∷◌, ◌++◌, ⊤}
use Rattle.std.specs.List.{count_by}
use Rattle.room_spec.specs.Rooms.{RoomSpec}
use Rattle.room_core.specs.Calls.{RoomState, crash_reply, opening_state, room_after_crash, room_after_settle, room_after_steps, step_reply}
use Rattle.room_core.specs.Fields.{Fields}
use Rattle.room_core.specs.Reading.{AreFieldsOf}
use Rattle.room_core.specs.declared.reply.CrashReply.TheVariants as crash_replies
use Rattle.room_core.specs.declared.reply.StepReply.TheVariants as step_replies
use Rattle.ws_history.specs.Reports.{report_of}
use Rattle.ws_history.specs.declared.states.ProcessState.{ProcessState}
use Rattle.room_sample.specs.declared.stretch.Stretch.{Stretch}
use Rattle.room_sample.specs.declared.stretch.Stretch.TheVariants.{Steps, Crash}

abbrev pub room_after_stretch : RoomState → Stretch → RoomState
room_after_stretch room (Steps simulator count) = room_after_steps room simulator count
room_after_stretch room (Crash simulator) = room_after_crash room simulator

-- the room after all stretches, in order
abbrev pub room_after_schedule : RoomState → List Stretch → RoomState
room_after_schedule room [] = room
room_after_schedule room (stretch ∷ stretches) = room_after_schedule (room_after_stretch room stretch) stretches

-- the most steps of a stretch, as many as a command of a script may ask for
abbrev pub longest : ℕ
longest = 65535

-- the simulator takes all these steps, of which there are few; or it crashes now
abbrev pub MayCome : RoomState → Stretch → Type 0
MayCome room (Steps simulator count) = (1 ≤ count) × (count ≤ longest) × ((k : ℕ) → k < count → step_reply (room_after_steps room simulator k) simulator ≡ step_replies.Stepped)
MayCome room (Crash simulator) = crash_reply room simulator ≡ crash_replies.Crashed

-- each stretch may come at its place
abbrev pub IsSchedule : RoomState → List Stretch → Type 0
IsSchedule room [] = ⊤
IsSchedule room (stretch ∷ stretches) = MayCome room stretch × IsSchedule (room_after_stretch room stretch) stretches

abbrev pub is_crash : Stretch → Bool
is_crash (Steps simulator count) = false
is_crash (Crash simulator) = true

-- The simulator has crashed, or there was a moment at which it had no step to take: it was idle, or out of turns.
pub data HasStopped (spec : RoomSpec) (schedule : List Stretch) (simulator : ℕ) : Type 0 where
  crashed : Contains schedule (Crash simulator) → HasStopped spec schedule simulator
  stopped : (before after : List Stretch) → schedule ≡ before ++ after → step_reply (room_after_schedule (opening_state spec) before) simulator ≢ step_replies.Stepped → HasStopped spec schedule simulator

-- how many simulators crash
abbrev pub crashes_in : List Stretch → ℕ
crashes_in schedule = count_by is_crash schedule

-- the room once it has settled after a schedule
abbrev pub settled_by : RoomSpec → List Stretch → RoomState
settled_by spec schedule = room_after_settle (room_after_schedule (opening_state spec) schedule)

-- This is the room, once it has settled after a schedule in which at most this many simulators crash.
pub record IsSettledAfter (spec : RoomSpec) (crashes : ℕ) (schedule : List Stretch) (room : RoomState) : Type 0 where
  pub may_come : IsSchedule (opening_state spec) schedule
  pub few : crashes_in schedule ≤ crashes
  pub room_is : room ≡ settled_by spec schedule

-- The state of each process in the report of a room that has settled after a schedule, in which at most this many simulators crash.
pub record IsOutcome (spec : RoomSpec) (crashes : ℕ) (schedule : List Stretch) (states : List ProcessState) : Type 0 where
  pub may_come : IsSchedule (opening_state spec) schedule
  pub few : crashes_in schedule ≤ crashes
  pub reported : (fields : Fields) → AreFieldsOf (settled_by spec schedule) fields → states ≡ (report_of (settled_by spec schedule).spec fields).states.items
