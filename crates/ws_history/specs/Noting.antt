-- How a step is noted, by what the room's words say before it and after it. Inside the crate.
use Rattle.std.specs.Prelude.{ℕ, Bool, true, false, ◌+◌, ◌*◌, not, Option, Some, None, slice_set, nat_le, nat_lt, ◌==◌, ◌&&◌, ◌||◌, if◌then◌else◌}
use Rattle.room_spec.specs.Rooms.{processes}
use Rattle.simulator.specs.Minds.{current_round}
use Rattle.simulator.specs.declared.line.Line.{Line}
use Rattle.simulator.specs.declared.line.Line.TheVariants.{Raise, Snap, Out}
use Rattle.simulator.specs.Turns.{words_in}
use Rattle.room_core.specs.Agreements.{greatest_step, has_out}
use Rattle.room_core.specs.Calls.{RoomState, configuration_of, room_after_step, sweep_at}
use Rattle.room_core.specs.Counting.{events_so_far}
use Rattle.room_core.specs.Points.{is_snap}
use Rattle.ws_history.specs.declared.points.Before.{Before}
use Rattle.ws_history.specs.Notes.{Notes, place}
use Rattle.ws_history.specs.Readings.{read_of}

-- what there is before a step of simulator i
abbrev pub before_step : RoomState → ℕ → Before
before_step room i = record {
  time = events_so_far (configuration_of room);
  process = (sweep_at room i).mind.process;
  round = current_round (sweep_at room i).mind;
  count = greatest_step room.spec (read_of room) (sweep_at room i).mind.process;
  decided = has_out room.spec (read_of room) (sweep_at room i).mind.process;
  ends_collect = is_snap (sweep_at room i).mind.line && ((sweep_at room i).mind.word + 1 == words_in room.spec);
}

-- a step at this line counts a write, loads a memory word of a scan, or stores a decision: by no other step does anything take effect
abbrev pub may_take_effect : Line → Bool
may_take_effect Raise = true
may_take_effect Snap = true
may_take_effect (Out decision) = true
may_take_effect line = false

-- the same, if something may take effect by the step
abbrev pub looked : RoomState → ℕ → Option Before
looked room i = if nat_le room.spec.simulators i || not (may_take_effect (sweep_at room i).mind.line) then None else Some (before_step room i)

-- the notes after the step, which led to this room
abbrev pub count_noted : RoomState → Before → Notes → Notes
count_noted room before notes = record notes {
  counted =
      if nat_lt before.count (greatest_step room.spec (read_of room) before.process)
      then slice_set notes.counted (place room.spec before.process (greatest_step room.spec (read_of room) before.process)) before.time
      else notes.counted;
}

abbrev pub read_noted : RoomState → ℕ → Before → Notes → Notes
read_noted room i before notes = record notes {
  read =
      if before.ends_collect && ((words_in room.spec == 1) || is_snap (sweep_at room i).mind.line)
      then slice_set notes.read (place room.spec (i * processes room.spec + before.process) before.round) before.time
      else notes.read;
}

abbrev pub store_noted : RoomState → Before → Notes → Notes
store_noted room before notes = record notes {
  stored = if not before.decided && has_out room.spec (read_of room) before.process then slice_set notes.stored before.process before.time else notes.stored;
}

abbrev pub noted : RoomState → ℕ → Before → Notes → Notes
noted room i before notes = store_noted room before (read_noted room i before (count_noted room before notes))

abbrev pub noted_if : RoomState → ℕ → Option Before → Notes → Notes
noted_if room i None notes = notes
noted_if room i (Some before) notes = noted room i before notes

-- by a step of simulator i
abbrev pub noted_step : RoomState → ℕ → Notes → Notes
noted_step room i notes = noted_if (room_after_step room i) i (looked room i) notes
