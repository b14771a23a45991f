-- A call makes the same of a room and of its fields, and answers the same.
use Rattle.std.specs.Prelude.{⊤}
use Rattle.std.proofs.Common.{◌≡◌, ◌≢◌, ℕ, ◌<◌, ◌≤◌, Bool, true, false, not, cond, leb, List, [], ◌∷◌, ◌++◌, length, get_or, set, Option, Some, None, refl, sym, ap, ◌∙◌, subst, arith}
use Rattle.std.proofs.lemmas.Bool.{leb-false, leb-true}
use Rattle.std.proofs.lemmas.List.{get_or-set_same, get_or-set_other}
use Rattle.std.proofs.lemmas.List.FromFn.{get_or-map-range_with_len}
use mathlib.Core.Logic.{dite}
use native.Mathlib.Decide.{ℕ_discrete}
use Rattle.room_spec.specs.Rooms.{RoomSpec, IsWithinLimits}
use Rattle.room_spec.specs.Sizes.{sizes_in}
use Rattle.simulator.specs.declared.goal.Goal.{Goal}
use Rattle.simulator.specs.declared.goal.Goal.TheVariants as goals
use Rattle.simulator.specs.declared.line.Line.{Line}
use Rattle.simulator.specs.declared.line.Line.TheVariants.{Rest, Raise, Snap, Show, Enter, Look, Leave, Ask, GetInput, GetView, Values, Out}
use Rattle.simulator.specs.declared.sweep.Ready.{Ready}
use Rattle.simulator.specs.declared.sweep.Ready.TheVariants as ready
use Rattle.simulator.specs.declared.turn.Turn.{Turn}
use Rattle.simulator.specs.Minds.{MindOf, MindState, goal_at, current_round, next_process}
use Rattle.simulator.specs.Moves.{move_of, taken, answer_of}
use Rattle.simulator.specs.Sweeps.{SweepState, is_resting, opening_sweep, ready_of, quiet_after}
use Rattle.simulator.specs.Turns.{TakenOf, counted}
use Rattle.room_core.specs.declared.reply.StepReply.{StepReply}
use Rattle.room_core.specs.declared.reply.CrashReply.{CrashReply}
use Rattle.room_core.specs.declared.reply.StepReply.TheVariants.{Crashed, NoSimulator}
use Rattle.room_core.specs.declared.reply.CrashReply.TheVariants as crash_replies
use Rattle.room_core.specs.Rooms.{Configuration, ScheduleEvent, steps, crashes, opening, stepped, crashed_by, HasLine, IsAlive, IsOneInterleaving, IsRoom, IsShaped}
use Rattle.room_core.specs.Calls.{RoomState, configuration_of, opening_state, sweep_at, has_crashed, with_sweep, sweep_after, taken_by, moved, woken, reply_when, room_when, ready_at, step_reply, room_after_step, crash_reply, marked, room_after_crash, is_step, step_bound, room_kind, room_after_settle, Call, Step, Crash, Settle, Stepping, Crashing, reply_to, room_after_call, replies_to, room_after_calls}
use Rattle.room_core.specs.Fields.{StepMap, Fields, changed, opening_fields, first_line_at, first_line, line_on, line, with_crash, fields_after, replay_fields, ready_in, fields_when, step_reply_in, fields_after_step, crash_reply_in, fields_after_crash, fields_kind, fields_after_settle, reply_in, fields_after_call, replies_in, fields_after_calls}
use Rattle.room_core.specs.Reading.{worded, without_quiet, AreFieldsOf, Reads}
use Rattle.room_core.specs.Tracks.{StandsFor}
use Rattle.room_core.proofs.settling.Settling.{AreAlike, settled_alike}
use Rattle.room_core.proofs.settling.SpecKept.{same_spec, same_spec_step}
use Rattle.room_core.proofs.fields.Replays.{replay-snoc, legal-snoc, shapes}
use Rattle.room_core.proofs.fields.States.{mind_here, moved_data, woken_data, opening_data, sweep_count, has_line}
use Rattle.room_core.proofs.fields.Maps.{changed_here, changed_else}
use Rattle.room_core.proofs.fields.Lines.{stored_on, taken_on}
use Rattle.room_core.proofs.fields.FieldLines.{is_store}
use Rattle.room_core.proofs.fields.FieldReplays.{stand_by, held_of, mind_is, stands_for, line_is, taken_is, reads}

-- ---- quiet counts

abbrev pub with_quiet : Fields → (ℕ → ℕ) → Fields
with_quiet fields quiet = record fields { quiet = quiet }

-- with their own quiet counts they are those to which the list leads
pub leads_of : (room : RoomState) (fields : Fields) (are : AreFieldsOf room fields) → fields ≡ with_quiet (replay_fields room.spec (opening_fields room.spec) are.run.schedule) fields.quiet
leads_of room fields are = ap (λ (f : Fields). with_quiet f fields.quiet) are.leads

-- a line reads and changes no quiet count but its own

first_line_quiet : (goal : Goal) (spec : RoomSpec) (fields : Fields) (quiet : ℕ → ℕ) (i j : ℕ) (mind : MindOf StepMap)
    → first_line_at goal spec (with_quiet fields quiet) i j mind ≡ with_quiet (first_line_at goal spec fields i j mind) (first_line_at goal spec (with_quiet fields quiet) i j mind).quiet
first_line_quiet (goals.Write k value) spec fields quiet i j mind = refl
first_line_quiet (goals.Ask k) spec fields quiet i j mind = refl
first_line_quiet (goals.Propose value) spec fields quiet i j mind = refl
first_line_quiet goals.AskInput spec fields quiet i j mind = refl
first_line_quiet goals.Done spec fields quiet i j mind = refl
first_line_quiet goals.Spent spec fields quiet i j mind = refl

next_line_quiet : (next : Option ℕ) (spec : RoomSpec) (fields : Fields) (quiet : ℕ → ℕ) (i : ℕ) (mind : MindOf StepMap)
    → first_line next spec (with_quiet fields quiet) i mind ≡ with_quiet (first_line next spec fields i mind) (first_line next spec (with_quiet fields quiet) i mind).quiet
next_line_quiet None spec fields quiet i mind = refl
next_line_quiet (Some j) spec fields quiet i mind = first_line_quiet (goal_at mind.goals j) spec fields quiet i j mind

line_quiet_on : (at : Line) (spec : RoomSpec) (fields : Fields) (quiet : ℕ → ℕ) (i j k : ℕ) (mind : MindOf StepMap)
    → line_on at spec (with_quiet fields quiet) i j k mind ≡ with_quiet (line_on at spec fields i j k mind) (line_on at spec (with_quiet fields quiet) i j k mind).quiet
line_quiet_on Rest spec fields quiet i j k mind = next_line_quiet (next_process mind.goals mind.process) spec fields quiet i mind
line_quiet_on Raise spec fields quiet i j k mind = refl
line_quiet_on Snap spec fields quiet i j k mind = refl
line_quiet_on Show spec fields quiet i j k mind = refl
line_quiet_on Enter spec fields quiet i j k mind = refl
line_quiet_on Look spec fields quiet i j k mind = refl
line_quiet_on (Leave saw_two) spec fields quiet i j k mind = refl
line_quiet_on Ask spec fields quiet i j k mind = refl
line_quiet_on (GetInput chosen) spec fields quiet i j k mind = refl
line_quiet_on (GetView chosen) spec fields quiet i j k mind = refl
line_quiet_on Values spec fields quiet i j k mind = refl
line_quiet_on (Out decision) spec fields quiet i j k mind = refl

line_quiet : (spec : RoomSpec) (fields : Fields) (quiet : ℕ → ℕ) (i : ℕ) → line spec (with_quiet fields quiet) i ≡ with_quiet (line spec fields i) (line spec (with_quiet fields quiet) i).quiet
line_quiet spec fields quiet i = line_quiet_on (fields.mind i).line spec fields quiet i (fields.mind i).process (current_round (fields.mind i)) (counted (fields.mind i))

line_leads : (spec : RoomSpec) (fields base : Fields) (i : ℕ) → fields ≡ with_quiet base fields.quiet → line spec fields i ≡ with_quiet (line spec base i) (line spec fields i).quiet
line_leads spec fields base i leads = subst (λ (f : Fields). line spec f i ≡ with_quiet (line spec base i) (line spec f i).quiet) (sym leads) (line_quiet spec base fields.quiet i)

-- the fields stand for the room, whatever the quiet counts are
with_counts : (room : Configuration) (fields : Fields) (quiet : ℕ → ℕ) → StandsFor room fields → StandsFor room (with_quiet fields quiet)
with_counts room fields quiet for =
    stand_by room (with_quiet fields quiet) (held_of room fields for) (λ i below. mind_is room fields i for below) for.reads.crashed
    (record { told = for.tracks.told; range = record { step = for.tracks.range.step; level = for.tracks.range.level; view = for.tracks.range.view }; before = for.tracks.before; snapshot = for.tracks.snapshot })

pub fields_stand : (room : RoomState) (fields : Fields) → IsWithinLimits room.spec → AreFieldsOf room fields → StandsFor (configuration_of room) fields
fields_stand room fields limits are =
    let base = replay_fields room.spec (opening_fields room.spec) are.run.schedule in
    subst (StandsFor (configuration_of room)) (sym (leads_of room fields are)) (with_counts (configuration_of room) base fields.quiet (stands_for (configuration_of room) limits are.run))

-- ---- one event more

fields-snoc : (spec : RoomSpec) (fields : Fields) (schedule : List ScheduleEvent) (event : ScheduleEvent) → replay_fields spec fields (schedule ++ event ∷ []) ≡ fields_after spec (replay_fields spec fields schedule) event
fields-snoc spec fields [] event = refl
fields-snoc spec fields (first ∷ schedule) event = fields-snoc spec (fields_after spec fields first) schedule event

moved_run : (room : RoomState) (i : ℕ) → IsOneInterleaving (configuration_of room) → HasLine (configuration_of room) i → IsOneInterleaving (configuration_of (moved room i))
moved_run room i one may = record {
  schedule = one.schedule ++ steps i ∷ [];
  legal = legal-snoc (opening room.spec) one.schedule (steps i) one.legal (subst (λ (q : Configuration). HasLine q i) (sym one.leads) may);
  leads = replay-snoc (opening room.spec) one.schedule (steps i) ∙ ap (λ (q : Configuration). stepped q i) one.leads ∙ sym (moved_data room i);
}

-- the turn of simulator i, in its fields
abbrev taken_in : RoomSpec → Fields → ℕ → TakenOf StepMap
taken_in spec fields i = taken_on (fields.mind i).line spec fields (fields.mind i).process (current_round (fields.mind i)) (counted (fields.mind i))

line_counts : (room : RoomState) (fields : Fields) (i : ℕ) → IsShaped (configuration_of room) → StandsFor (configuration_of room) fields → HasLine (configuration_of room) i → ((a : ℕ) → a < room.spec.simulators → fields.quiet a ≡ (sweep_at room a).quiet)
    → (a : ℕ) → a < room.spec.simulators → (line room.spec fields i).quiet a ≡ (sweep_at (moved room i) a).quiet
line_counts room fields i shape for may counts a less =
    let below = may.alive.below in
    let mind = fields.mind i in
    let after = stored_on mind.line room.spec fields i mind.process (current_round mind) (counted mind) in
    let kept : after.quiet ≡ fields.quiet = (is_store mind.line room.spec fields i mind.process (current_round mind) (counted mind)).quiet in
    let own = sweep_after (taken_by room i) (sweep_at room i).quiet in
    let place : i < length room.sweeps = let count = sweep_count room shape in omega arith in
    let turn : (taken_by room i).turn ≡ (taken_in room.spec fields i).turn =
    ap (λ (one : MindState). (taken room.spec one (answer_of (move_of room.spec one) room.words)).turn) (sym (mind_here room i)) ∙ ap (λ (one : TakenOf (List ℕ)). one.turn) (taken_is (configuration_of room) fields i shape for may) in
    let quiet = quiet_after (taken_in room.spec fields i).turn (after.quiet i) in
    let is : (line room.spec fields i).quiet a ≡ changed after.quiet i quiet a = ap (λ (f : Fields). f.quiet a) (line_is (configuration_of room) fields i shape for may) in
    is ∙ dite (ℕ_discrete a i)
    (λ (e : a ≡ i).
    changed_here after.quiet i quiet a e
    ∙ ap (λ (q : ℕ → ℕ). quiet_after (taken_in room.spec fields i).turn (q i)) kept
    ∙ ap (λ (q : ℕ). quiet_after (taken_in room.spec fields i).turn q) (counts i below)
    ∙ ap (λ (t : Turn). quiet_after t (sweep_at room i).quiet) (sym turn)
    ∙ sym (ap (λ (k : ℕ). (get_or (set room.sweeps i own) k (opening_sweep room.spec k)).quiet) e ∙ ap (λ (sweep : SweepState). sweep.quiet) (get_or-set_same room.sweeps i own (opening_sweep room.spec i) place)))
    (λ (n : a ≢ i).
    changed_else after.quiet i quiet a n ∙ ap (λ (q : ℕ → ℕ). q a) kept ∙ counts a less
    ∙ sym (ap (λ (sweep : SweepState). sweep.quiet) (get_or-set_other room.sweeps i a own (opening_sweep room.spec a) n)))

moved_fields : (room : RoomState) (fields : Fields) (i : ℕ) → IsWithinLimits room.spec → AreFieldsOf room fields → HasLine (configuration_of room) i → AreFieldsOf (moved room i) (line room.spec fields i)
unfolding moved_run
moved_fields room fields i limits are may =
    let base = replay_fields room.spec (opening_fields room.spec) are.run.schedule in
    let after = line room.spec fields i in
    record {
      run = moved_run room i are.run may;
      leads = ap without_quiet (line_leads room.spec fields base i (leads_of room fields are)) ∙ ap without_quiet (sym (fields-snoc room.spec (opening_fields room.spec) are.run.schedule (steps i)));
      counts = line_counts room fields i (shapes (configuration_of room) limits are.run) (fields_stand room fields limits are) may are.counts;
    }

-- ---- a simulator that is told that it is idle

pub woken_fields : (room : RoomState) (fields : Fields) (i : ℕ) → IsWithinLimits room.spec → i < room.spec.simulators → AreFieldsOf room fields → AreFieldsOf (with_sweep room i (woken (sweep_at room i))) (record fields { quiet = changed fields.quiet i 0 })
woken_fields room fields i limits below are =
    let own = woken (sweep_at room i) in
    let place : i < length room.sweeps = let count = sweep_count room (shapes (configuration_of room) limits are.run) in omega arith in
    record {
      run = record { schedule = are.run.schedule; legal = are.run.legal; leads = are.run.leads ∙ sym (woken_data room i) };
      leads = are.leads;
      counts = λ a less. dite (ℕ_discrete a i)
          (λ (e : a ≡ i).
          changed_here fields.quiet i 0 a e
          ∙ sym (ap (λ (k : ℕ). (get_or (set room.sweeps i own) k (opening_sweep room.spec k)).quiet) e ∙ ap (λ (sweep : SweepState). sweep.quiet) (get_or-set_same room.sweeps i own (opening_sweep room.spec i) place)))
          (λ (n : a ≢ i). changed_else fields.quiet i 0 a n ∙ are.counts a less ∙ sym (ap (λ (sweep : SweepState). sweep.quiet) (get_or-set_other room.sweeps i a own (opening_sweep room.spec a) n)));
    }

-- ---- one call of a step

pub same_ready : (room : RoomState) (fields : Fields) (i : ℕ) → IsWithinLimits room.spec → i < room.spec.simulators → AreFieldsOf room fields → ready_in room.spec fields i ≡ ready_at room i
same_ready room fields i limits below are =
    let mind : (sweep_at room i).mind ≡ worded (sizes_in room.spec) (fields.mind i) = sym (mind_here room i) ∙ mind_is (configuration_of room) fields i (fields_stand room fields limits are) below in
    sym (ap (λ (one : MindState). ready_of room.spec one (sweep_at room i).quiet) mind ∙ ap (λ (q : ℕ). ready_of room.spec (worded (sizes_in room.spec) (fields.mind i)) q) (sym (are.counts i below)))

module _ (room : RoomState) (fields : Fields) (i : ℕ) (limits : IsWithinLimits room.spec) (are : AreFieldsOf room fields) where
  when_ready : (answer : Ready) → i < room.spec.simulators → has_crashed room i ≡ false → ready_at room i ≡ answer → AreFieldsOf (room_when answer room i) (fields_when answer room.spec fields i)
  when_ready ready.Step below alive is = moved_fields room fields i limits are (has_line room i (shapes (configuration_of room) limits are.run) below alive is)
  when_ready ready.Idle below alive is = woken_fields room fields i limits below are
  when_ready ready.OutOfTurns below alive is = are

  -- what a call makes of the room and of its fields, with the tests that decide it
  abbrev IsSameStep : Bool → Bool → Bool → Type 0
  IsSameStep absent field_crashed crashed =
      (cond absent NoSimulator (cond field_crashed Crashed (reply_when (ready_in room.spec fields i))) ≡ cond absent NoSimulator (cond crashed Crashed (reply_when (ready_at room i))))
      × AreFieldsOf (cond absent room (cond crashed room (room_when (ready_at room i) room i))) (cond absent fields (cond field_crashed fields (fields_when (ready_in room.spec fields i) room.spec fields i)))

  alive_step : (crashed : Bool) → i < room.spec.simulators → has_crashed room i ≡ crashed → IsSameStep false crashed crashed
  alive_step true below is = (refl, are)
  alive_step false below is =
      let same = same_ready room fields i limits below are in
      (ap reply_when same, subst (λ (answer : Ready). AreFieldsOf (room_when (ready_at room i) room i) (fields_when answer room.spec fields i)) (sym same) (when_ready (ready_at room i) below is refl))

  same_crashed : i < room.spec.simulators → has_crashed room i ≡ fields.crashed i
  same_crashed below = (fields_stand room fields limits are).reads.crashed i below

  any_step : (absent : Bool) → leb room.spec.simulators i ≡ absent → IsSameStep absent (fields.crashed i) (has_crashed room i)
  any_step true is = (refl, are)
  any_step false is =
      let below : i < room.spec.simulators = leb-false room.spec.simulators i is in
      subst (λ (crashed : Bool). IsSameStep false crashed (has_crashed room i)) (same_crashed below) (alive_step (has_crashed room i) below refl)

-- A call of `step` answers the same on the fields, and makes fields of the room that it makes.
pub step_in_fields : (room : RoomState) (fields : Fields) (i : ℕ) → IsWithinLimits room.spec → AreFieldsOf room fields → (step_reply_in room.spec fields i ≡ step_reply room i) × AreFieldsOf (room_after_step room i) (fields_after_step room.spec fields i)
step_in_fields room fields i limits are = any_step room fields i limits are (leb room.spec.simulators i) refl

-- ---- one call of a crash

crashed_fields : (room : RoomState) (fields : Fields) (i : ℕ) → IsAlive (configuration_of room) i → AreFieldsOf room fields → AreFieldsOf (record room { crashed = set room.crashed i true }) (with_crash fields i)
crashed_fields room fields i may are =
    let one = are.run in
    let base = replay_fields room.spec (opening_fields room.spec) one.schedule in
    record {
      run = record {
        schedule = one.schedule ++ crashes i ∷ [];
        legal = legal-snoc (opening room.spec) one.schedule (crashes i) one.legal (subst (λ (q : Configuration). IsAlive q i) (sym one.leads) may);
        leads = replay-snoc (opening room.spec) one.schedule (crashes i) ∙ ap (λ (q : Configuration). crashed_by q i) one.leads;
      };
      leads = ap (λ (f : Fields). with_crash f i) are.leads ∙ ap without_quiet (sym (fields-snoc room.spec (opening_fields room.spec) one.schedule (crashes i)));
      counts = are.counts;
    }

module _ (room : RoomState) (fields : Fields) (i : ℕ) (limits : IsWithinLimits room.spec) (are : AreFieldsOf room fields) where
  abbrev IsSameCrash : Bool → Bool → Bool → Type 0
  IsSameCrash absent field_crashed crashed =
      (cond absent crash_replies.NoSimulator (cond field_crashed crash_replies.AlreadyCrashed crash_replies.Crashed) ≡ cond absent crash_replies.NoSimulator (cond crashed crash_replies.AlreadyCrashed crash_replies.Crashed))
      × AreFieldsOf (cond absent room (cond crashed room (record room { crashed = set room.crashed i true }))) (cond absent fields (cond field_crashed fields (with_crash fields i)))

  alive_crash : (crashed : Bool) → i < room.spec.simulators → has_crashed room i ≡ crashed → IsSameCrash false crashed crashed
  alive_crash true below is = (refl, are)
  alive_crash false below is = (refl, crashed_fields room fields i (record { below = below; alive = is }) are)

  any_crash : (absent : Bool) → leb room.spec.simulators i ≡ absent → IsSameCrash absent (fields.crashed i) (has_crashed room i)
  any_crash true is = (refl, are)
  any_crash false is =
      let below : i < room.spec.simulators = leb-false room.spec.simulators i is in
      subst (λ (crashed : Bool). IsSameCrash false crashed (has_crashed room i)) ((fields_stand room fields limits are).reads.crashed i below) (alive_crash (has_crashed room i) below refl)

pub crash_in_fields : (room : RoomState) (fields : Fields) (i : ℕ) → IsWithinLimits room.spec → AreFieldsOf room fields → (crash_reply_in room.spec fields i ≡ crash_reply room i) × AreFieldsOf (room_after_crash room i) (fields_after_crash room.spec fields i)
crash_in_fields room fields i limits are = any_crash room fields i limits are (leb room.spec.simulators i) refl

-- ---- the opening

pub opening_in_fields : (spec : RoomSpec) → AreFieldsOf (opening_state spec) (opening_fields spec)
opening_in_fields spec = record {
  run = record { schedule = []; legal = tt; leads = sym (opening_data spec) };
  leads = refl;
  counts = λ i below. sym (ap (λ (sweep : SweepState). sweep.quiet) (get_or-map-range_with_len (opening_sweep spec) 0 spec.simulators i i (opening_sweep spec i) below (omega arith)));
}

-- a room's own fields
pub has_fields : (room : RoomState) → IsRoom (configuration_of room) → (fields : Fields) × AreFieldsOf room fields × Reads (configuration_of room) fields
has_fields room is =
    let limits = is.shape.limits in
    let quiet : ℕ → ℕ = λ i. (sweep_at room i).quiet in
    let fields : Fields = replay_fields room.spec (opening_fields room.spec) is.run.schedule in
    let read = reads (configuration_of room) limits is.run in
    (with_quiet fields quiet, record { run = is.run; leads = refl; counts = λ i below. refl }, record { words = record { step = read.words.step; level = read.words.level; levels = read.words.levels; view = read.words.view; value = read.words.value; out = read.words.out }; minds = read.minds; crashed = read.crashed })

-- ---- what the calls ensure

absent_is : {A : Type 0} (m i : ℕ) (x y : A) → m ≤ i → cond (leb m i) x y ≡ x
absent_is {A = A} m i x y above = by_test (leb m i) refl
  where
    by_test : (b : Bool) → leb m i ≡ b → cond b x y ≡ x
    by_test true e = refl
    by_test false e = absurd (let h = leb-false m i e in omega arith)

present_is : {A : Type 0} (m i : ℕ) (x y : A) → i < m → cond (leb m i) x y ≡ y
present_is {A = A} m i x y below = by_test (leb m i) refl
  where
    by_test : (b : Bool) → leb m i ≡ b → cond b x y ≡ y
    by_test true e = absurd (let h = leb-true m i e in omega arith)
    by_test false e = refl

-- these are the reply of a call of `step`, and the room after it
pub record IsStepTo (room : RoomState) (i : ℕ) (reply : StepReply) (after : RoomState) : Type 0 where
  pub replied : reply ≡ step_reply room i
  pub left : after ≡ room_after_step room i

pub absent_step : (room : RoomState) (i : ℕ) → room.spec.simulators ≤ i → IsStepTo room i NoSimulator room
absent_step room i above = record {
  replied = sym (absent_is room.spec.simulators i NoSimulator (cond (has_crashed room i) Crashed (reply_when (ready_at room i))) above);
  left = sym (absent_is room.spec.simulators i room (cond (has_crashed room i) room (room_when (ready_at room i) room i)) above);
}

crashed_is : {A : Type 0} (room : RoomState) (i : ℕ) (x y z : A) (b : Bool) → i < room.spec.simulators → has_crashed room i ≡ b → cond (leb room.spec.simulators i) x (cond (has_crashed room i) y z) ≡ cond b y z
crashed_is room i x y z b below is = present_is room.spec.simulators i x (cond (has_crashed room i) y z) below ∙ ap (λ (c : Bool). cond c y z) is

pub crashed_step : (room : RoomState) (i : ℕ) → i < room.spec.simulators → has_crashed room i ≡ true → IsStepTo room i Crashed room
crashed_step room i below is = record {
  replied = sym (crashed_is room i NoSimulator Crashed (reply_when (ready_at room i)) true below is);
  left = sym (crashed_is room i room room (room_when (ready_at room i) room i) true below is);
}

pub ready_step : (room : RoomState) (i : ℕ) (ready : Ready) → i < room.spec.simulators → has_crashed room i ≡ false → ready_at room i ≡ ready → IsStepTo room i (reply_when ready) (room_when ready room i)
ready_step room i ready below alive is = record {
  replied = sym (crashed_is room i NoSimulator Crashed (reply_when (ready_at room i)) false below alive ∙ ap reply_when is);
  left = sym (crashed_is room i room room (room_when (ready_at room i) room i) false below alive ∙ ap (λ (r : Ready). room_when r room i) is);
}

pub step_by : (room after : RoomState) (reply : StepReply) (i : ℕ) → IsWithinLimits room.spec → IsStepTo room i reply after
    → (fields : Fields) → AreFieldsOf room fields → (reply ≡ step_reply_in room.spec fields i) × AreFieldsOf after (fields_after_step room.spec fields i)
step_by room after reply i limits to fields are =
    let both = step_in_fields room fields i limits are in
    (to.replied ∙ sym both.0, subst (λ (r : RoomState). AreFieldsOf r (fields_after_step room.spec fields i)) (sym to.left) both.1)

-- the same of a crash
pub record IsCrashTo (room : RoomState) (i : ℕ) (reply : CrashReply) (after : RoomState) : Type 0 where
  pub replied : reply ≡ crash_reply room i
  pub left : after ≡ room_after_crash room i

pub absent_crash : (room : RoomState) (i : ℕ) → room.spec.simulators ≤ i → IsCrashTo room i crash_replies.NoSimulator room
absent_crash room i above = record {
  replied = sym (absent_is room.spec.simulators i crash_replies.NoSimulator (cond (has_crashed room i) crash_replies.AlreadyCrashed crash_replies.Crashed) above);
  left = sym (absent_is room.spec.simulators i room (cond (has_crashed room i) room (marked room i)) above);
}

pub crashed_crash : (room : RoomState) (i : ℕ) → i < room.spec.simulators → has_crashed room i ≡ true → IsCrashTo room i crash_replies.AlreadyCrashed room
crashed_crash room i below is = record {
  replied = sym (crashed_is room i crash_replies.NoSimulator crash_replies.AlreadyCrashed crash_replies.Crashed true below is);
  left = sym (crashed_is room i room room (marked room i) true below is);
}

pub alive_crashes : (room : RoomState) (i : ℕ) → i < room.spec.simulators → has_crashed room i ≡ false → IsCrashTo room i crash_replies.Crashed (marked room i)
alive_crashes room i below alive = record {
  replied = sym (crashed_is room i crash_replies.NoSimulator crash_replies.AlreadyCrashed crash_replies.Crashed false below alive);
  left = sym (crashed_is room i room room (marked room i) false below alive);
}

pub crash_by : (room after : RoomState) (reply : CrashReply) (i : ℕ) → IsWithinLimits room.spec → IsCrashTo room i reply after
    → (fields : Fields) → AreFieldsOf room fields → (reply ≡ crash_reply_in room.spec fields i) × AreFieldsOf after (fields_after_crash room.spec fields i)
crash_by room after reply i limits to fields are =
    let both = crash_in_fields room fields i limits are in
    (to.replied ∙ sym both.0, subst (λ (r : RoomState). AreFieldsOf r (fields_after_crash room.spec fields i)) (sym to.left) both.1)

-- ---- settling

-- a room of this spec, with its fields, of which something holds that each step and each waking keeps
pub record IsSettling (P : Fields → Type 0) (spec : RoomSpec) (room : RoomState) (fields : Fields) : Type 0 where
  pub same : room.spec ≡ spec
  pub are : AreFieldsOf room fields
  pub holds : P fields

module _ (P : Fields → Type 0) (spec : RoomSpec) (limits : IsWithinLimits spec) (room : RoomState) (fields : Fields) (i : ℕ) where
  pub step_are : IsSettling P spec room fields → AreFieldsOf (room_after_step room i) (fields_after_step spec fields i)
  step_are is = subst (λ (s : RoomSpec). AreFieldsOf (room_after_step room i) (fields_after_step s fields i)) is.same (step_in_fields room fields i (subst IsWithinLimits (sym is.same) limits) is.are).1

  pub in_turn_alike : i < spec.simulators → IsSettling P spec room fields → not (is_resting (sweep_at room i).mind.line) ≡ not (is_resting (fields.mind i).line)
  in_turn_alike below is = ap (λ (mind : MindState). not (is_resting mind.line)) (sym (mind_here room i) ∙ mind_is (configuration_of room) fields i (fields_stand room fields (subst IsWithinLimits (sym is.same) limits) is.are) (subst (λ (s : RoomSpec). i < s.simulators) (sym is.same) below))

  pub has_step_alike : i < spec.simulators → IsSettling P spec room fields → is_step (ready_at room i) ≡ is_step (ready_in spec fields i)
  has_step_alike below is = ap is_step (sym (same_ready room fields i (subst IsWithinLimits (sym is.same) limits) (subst (λ (s : RoomSpec). i < s.simulators) (sym is.same) below) is.are) ∙ ap (λ (s : RoomSpec). ready_in s fields i) is.same)

module _ (P : Fields → Type 0) (spec : RoomSpec) (limits : IsWithinLimits spec)
    (steps_on : (room : RoomState) (fields : Fields) (i : ℕ) → room.spec ≡ spec → AreFieldsOf room fields → P fields → P (fields_after_step spec fields i))
    (wakes : (fields : Fields) (quiet : ℕ → ℕ) → P fields → P (with_quiet fields quiet)) where
  settling : AreAlike room_kind (fields_kind spec) spec.simulators (IsSettling P spec)
  settling = record {
    count = λ room fields is. ap (λ (s : RoomSpec). s.simulators) is.same;
    other_count = λ room fields is. refl;
    most = λ room fields is. ap step_bound is.same;
    crashed = λ room fields i below is. (fields_stand room fields (subst IsWithinLimits (sym is.same) limits) is.are).reads.crashed i (subst (λ (s : RoomSpec). i < s.simulators) (sym is.same) below);
    in_turn = λ room fields i below is. in_turn_alike P spec limits room fields i below is;
    has_step = λ room fields i below is. has_step_alike P spec limits room fields i below is;
    step = λ room fields i below is. record {
      same = same_spec_step room i ∙ is.same;
      are = step_are P spec limits room fields i is;
      holds = steps_on room fields i is.same is.are is.holds;
    };
    wake = λ room fields i below is. record {
      same = is.same;
      are = woken_fields room fields i (subst IsWithinLimits (sym is.same) limits) (subst (λ (s : RoomSpec). i < s.simulators) (sym is.same) below) is.are;
      holds = wakes fields (changed fields.quiet i 0) is.holds;
    };
  }

  pub settle_by : (room : RoomState) (fields : Fields) → room.spec ≡ spec → AreFieldsOf room fields → P fields → IsSettling P spec (room_after_settle room) (fields_after_settle spec fields)
  settle_by room fields same are holds = settled_alike room_kind (fields_kind spec) spec.simulators (IsSettling P spec) settling room fields (record { same = same; are = are; holds = holds })

-- Settling makes fields of the room that it makes.
pub settle_in_fields : (room : RoomState) (fields : Fields) → IsWithinLimits room.spec → AreFieldsOf room fields → AreFieldsOf (room_after_settle room) (fields_after_settle room.spec fields)
settle_in_fields room fields limits are =
    let is = settle_by (λ f. ⊤) room.spec limits (λ r f i same these holds. tt) (λ f quiet holds. tt) room fields refl are tt in
    is.are

pub call_in_fields : (room : RoomState) (fields : Fields) (call : Call) → IsWithinLimits room.spec → AreFieldsOf room fields → (reply_in room.spec fields call ≡ reply_to room call) × AreFieldsOf (room_after_call room call) (fields_after_call room.spec fields call)
call_in_fields room fields (Step i) limits are = let both = step_in_fields room fields i limits are in (ap Stepping both.0, both.1)
call_in_fields room fields (Crash i) limits are = let both = crash_in_fields room fields i limits are in (ap Crashing both.0, both.1)
call_in_fields room fields Settle limits are = (refl, settle_in_fields room fields limits are)

pub calls_in_fields : (room : RoomState) (fields : Fields) (calls : List Call) → IsWithinLimits room.spec → AreFieldsOf room fields → (replies_in room.spec fields calls ≡ replies_to room calls) × AreFieldsOf (room_after_calls room calls) (fields_after_calls room.spec fields calls)
calls_in_fields room fields [] limits are = (refl, are)
calls_in_fields room fields (call ∷ calls) limits are =
    let next = room_after_call room call in
    let here = call_in_fields room fields call limits are in
    let after = fields_after_call room.spec fields call in
    let rest = calls_in_fields next after calls (subst IsWithinLimits (sym (same_spec room call)) limits) here.1 in
    let P : RoomSpec → Type 0 = λ s. (replies_in s after calls ≡ replies_to next calls) × AreFieldsOf (room_after_calls next calls) (fields_after_calls s after calls) in
    let same = subst P (same_spec room call) rest in
    ((λ k. here.0 k ∷ same.0 k), same.1)
