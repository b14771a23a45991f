-- What takes effect at each step of a room's schedule.
use Rattle.std.proofs.Common.{◌≡◌, ℕ, ◌<◌, ◌≤◌, true, List, Option, Some, None, length, refl, sym, ◌∙◌, subst, arith}
use Rattle.std.specs.Prelude.{slice_get}
use Rattle.room_core.specs.Rooms.{ScheduleEvent, steps, crashes}
use Rattle.room_spec.specs.Rooms.{RoomSpec, IsWithinLimits, processes}
use Rattle.room_core.specs.Calls.{RoomState, configuration_of}
use Rattle.room_core.specs.Fields.{Fields, opening_fields, replay_fields}
use Rattle.room_core.specs.Reading.{AreFieldsOf}
use Rattle.room_core.specs.Agreements.{IsFixedAt, greatest_step, is_fixed, shown_of}
use Rattle.room_core.specs.Moments.{fields_at}
use Rattle.room_core.specs.Points.{AreEffects, HasFixed, IsFixedIn, points_at, points_by, read_time, reads_at}
use Rattle.room_core.specs.Timelines.{IsTimeline, Moves, timeline_of}
use Rattle.room_core.specs.Tracks.{KeepsTrack}
use Rattle.room_core.proofs.agreements.FixedTests.{in_line, test_of}
use Rattle.room_core.proofs.agreements.Promises.{rooms_agree}
use Rattle.room_core.proofs.fields.FieldCalls.{leads_of, with_quiet}
use Rattle.room_core.proofs.fields.FieldReplays.{stands_for}
use Rattle.room_core.proofs.moments.Moments.{at_end}
use Rattle.room_core.proofs.points.OneEffect.{effects, still_read}
use Rattle.room_core.proofs.points.Passing.{Lasts, PassedAfter, passed_run}
use Rattle.room_core.proofs.points.Timelines.{is_timeline, lasts_final, passed_read, read_before}
use Rattle.room_core.proofs.values.Known.{IsKnown}
use Rattle.room_core.proofs.values.SmallValues.{small_values}

-- ---- quiet counts don't matter

points_aside : (spec : RoomSpec) (schedule : List ScheduleEvent) (fields : Fields) (quiet : ℕ → ℕ) (time : ℕ) (event : Option ScheduleEvent) → points_by event spec schedule fields time ≡ points_by event spec schedule (with_quiet fields quiet) time
points_aside spec schedule fields quiet time None = refl
points_aside spec schedule fields quiet time (Some (steps i)) = refl
points_aside spec schedule fields quiet time (Some (crashes i)) = refl

timeline_aside : (spec : RoomSpec) (schedule : List ScheduleEvent) (fields : Fields) (quiet : ℕ → ℕ) → IsTimeline (processes spec) spec.rounds (timeline_of spec schedule fields) (points_at spec schedule fields)
    → IsTimeline (processes spec) spec.rounds (timeline_of spec schedule (with_quiet fields quiet)) (points_at spec schedule (with_quiet fields quiet))
timeline_aside spec schedule fields quiet is = record {
  moves = λ time early.
      subst (Moves (processes spec) spec.rounds (timeline_of spec schedule (with_quiet fields quiet)) time) (points_aside spec schedule fields quiet time (slice_get schedule time)) (is.moves time early);
  grows = is.grows;
  none = is.none;
  undecided = is.undecided;
  ends = is.ends;
  over = is.over;
  last = is.last;
  early = is.early;
  shows = is.shows;
}

-- ---- a room

module _ (room : RoomState) (fields : Fields) (limits : IsWithinLimits room.spec) (are : AreFieldsOf room fields) where
  -- the fields to which its schedule leads, which are these but for the quiet counts
  abbrev base : Fields
  base = replay_fields room.spec (opening_fields room.spec) are.run.schedule

  same : fields ≡ with_quiet (replay_fields room.spec (opening_fields room.spec) are.run.schedule) fields.quiet
  same = leads_of room fields are

  all : PassedAfter room.spec are.run.schedule (replay_fields room.spec (opening_fields room.spec) are.run.schedule)
  all = passed_run (configuration_of room) limits are.run

  ends : fields_at room.spec are.run.schedule (length are.run.schedule) ≡ replay_fields room.spec (opening_fields room.spec) are.run.schedule
  ends = at_end room.spec are.run.schedule (length are.run.schedule) (omega arith)

  tracks : KeepsTrack room.spec (replay_fields room.spec (opening_fields room.spec) are.run.schedule)
  tracks = (stands_for (configuration_of room) limits are.run).tracks

  known : IsKnown room.spec (replay_fields room.spec (opening_fields room.spec) are.run.schedule)
  known = (all.0).3 (small_values room.spec limits)

  passed_in_base : (j k : ℕ) → HasFixed room.spec fields j k → IsFixedIn (processes room.spec) room.spec.rounds (is_fixed room.spec (replay_fields room.spec (opening_fields room.spec) are.run.schedule)) j k
  passed_in_base j k passed = record { process = passed.process; first = passed.first; last = passed.last; is = subst (λ (f : Fields). is_fixed room.spec f j k ≡ true) same (test_of room.spec fields j k passed.is) }

  pub timeline_of_run : IsTimeline (processes room.spec) room.spec.rounds (timeline_of room.spec are.run.schedule (replay_fields room.spec (opening_fields room.spec) are.run.schedule)) (points_at room.spec are.run.schedule (replay_fields room.spec (opening_fields room.spec) are.run.schedule))
  timeline_of_run = is_timeline room.spec are.run.schedule base ends tracks (all.0).0 all.1 all.2 known

  pub timelines : IsTimeline (processes room.spec) room.spec.rounds (timeline_of room.spec are.run.schedule fields) (points_at room.spec are.run.schedule fields)
  timelines =
      subst (λ (f : Fields). IsTimeline (processes room.spec) room.spec.rounds (timeline_of room.spec are.run.schedule f) (points_at room.spec are.run.schedule f)) (sym same)
      (timeline_aside room.spec are.run.schedule base fields.quiet timeline_of_run)

  -- what stays from any moment to the end
  pub lasts_base : (moment : ℕ) → moment ≤ length are.run.schedule → Lasts room.spec (fields_at room.spec are.run.schedule moment) (replay_fields room.spec (opening_fields room.spec) are.run.schedule)
  lasts_base moment within = lasts_final room.spec are.run.schedule base ends tracks (all.0).0 all.1 all.2 known moment within

  pub fixed_lasts : (j k moment : ℕ) → moment ≤ length are.run.schedule → IsFixedAt room.spec (fields_at room.spec are.run.schedule moment) j k → is_fixed room.spec fields j k ≡ true
  fixed_lasts j k moment within at = subst (λ (f : Fields). is_fixed room.spec f j k ≡ true) (sym same) (test_of room.spec base j k ((lasts_base moment within).levels.fixed j k at))

  -- at most one write, snapshot or decision takes effect at a step
  pub effects_at : (time : ℕ) → time < length are.run.schedule → AreEffects room.spec are.run.schedule fields time (points_at room.spec are.run.schedule fields time)
  effects_at time early = effects room.spec are.run.schedule fields time (points_at room.spec are.run.schedule fields time) (timelines.moves time early)

  -- a snapshot that is agreed on in the end was read by a step of the simulator whose proposal it is,
  pub read_then : (j k : ℕ) → HasFixed room.spec fields j k → reads_at room.spec are.run.schedule (read_time room.spec are.run.schedule fields j k) (shown_of room.spec fields j k) j k ≡ true
  read_then j k passed =
      subst (λ (f : Fields). reads_at room.spec are.run.schedule (read_time room.spec are.run.schedule f j k) (shown_of room.spec f j k) j k ≡ true) (sym same)
      (passed_read room.spec are.run.schedule base ends tracks (all.0).0 all.1 all.2 known j k (passed_in_base j k passed)).reads

  pub read_early : (j k : ℕ) → HasFixed room.spec fields j k → read_time room.spec are.run.schedule fields j k < length are.run.schedule
  read_early j k passed = timelines.early j k (in_line room.spec fields j k passed)

  -- when its process had counted just its round's write,
  pub read_counted : (j k : ℕ) → HasFixed room.spec fields j k → greatest_step room.spec (fields_at room.spec are.run.schedule (read_time room.spec are.run.schedule fields j k)) j ≡ k
  read_counted j k passed =
      let time = read_time room.spec are.run.schedule fields j k in
      sym (still_read (processes room.spec) room.spec.rounds (timeline_of room.spec are.run.schedule fields) j k (points_at room.spec are.run.schedule fields time) (timelines.moves time (timelines.early j k (in_line room.spec fields j k passed))) (in_line room.spec fields j k passed) j passed.process)
      ∙ sym (timelines.shows j k j (in_line room.spec fields j k passed) passed.process) ∙ (rooms_agree room fields limits are).own_entry_is_exact j k passed.process passed.first passed.last passed.is

  -- and before its agreement was fixed
  pub read_first : (j k time : ℕ) → HasFixed room.spec fields j k → time ≤ length are.run.schedule → IsFixedAt room.spec (fields_at room.spec are.run.schedule time) j k → read_time room.spec are.run.schedule fields j k < time
  read_first j k time passed within at =
      subst (λ (f : Fields). read_time room.spec are.run.schedule f j k < time) (sym same)
      (read_before room.spec are.run.schedule base ends tracks (all.0).0 all.1 all.2 known j k time (passed_in_base j k passed) within at)
