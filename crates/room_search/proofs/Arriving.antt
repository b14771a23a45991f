-- What a schedule leads to is reachable, if each simulator that hasn't crashed has a turn left then.
use Rattle.std.proofs.Common.{◌≡◌, ℕ, zero, suc, ◌+◌, ◌<◌, ◌≤◌, Bool, true, false, cond, leb, List, [], ◌∷◌, length, get_or, set, replicate, filter, refl, sym, ap, ◌∙◌, subst, arith}
use Rattle.std.specs.List.{All, range_with_len}
use Rattle.std.proofs.lemmas.List.Elements.{All-weaker}
use Rattle.std.proofs.lemmas.List.Sums.{sum_by-append}
use Rattle.room_spec.specs.Rooms.{RoomSpec, IsWithinLimits}
use Rattle.room_spec.specs.Sizes.{sizes_in}
use Rattle.simulator.specs.Minds.{MindOf}
use Rattle.simulator.specs.declared.sweep.Ready.{Ready}
use Rattle.simulator.specs.declared.sweep.Ready.TheVariants as ready
use Rattle.room_core.specs.Calls.{RoomState, Crash, Settle, configuration_of, has_crashed, marked, opening_state, ready_at, room_after_settle, room_after_step, room_after_steps, room_when, sweep_at}
use Rattle.room_core.specs.Fields.{Fields, StepMap, fields_after_calls, fields_after_settle, fields_after_step, opening_fields}
use Rattle.room_core.specs.Observing.{Follow, TakenStep, steps_of_settling}
use Rattle.room_core.specs.Reading.{AgreeIn, AreFieldsOf, fields_in}
use Rattle.room_core.specs.Rooms.{Configuration}
use Rattle.room_core.proofs.CallerLemmas.{agrees, calls_in_fields, opening_in_fields, settling_follows, step_in_fields}
use Rattle.room_core.proofs.CallerLemmasOnSpecs.{same_spec, same_spec_steps}
use Rattle.ws_history.specs.Reports.{states_of}
use Rattle.ws_history.specs.declared.states.ProcessState.{ProcessState}
use Rattle.ws_history.proofs.CallerLemmas.{states_in}
use Rattle.room_outcomes.specs.Ends.{ends_of}
use Rattle.room_sample.specs.Chances.{random_of}
use Rattle.room_sample.specs.Samples.{CameByFirst, Counted, IsSampleOf, IsSettledFrom}
use Rattle.room_sample.specs.Schedules.{IsOutcome, crashes_in, room_after_schedule, room_after_stretch, settled_by}
use Rattle.room_sample.specs.declared.sampling.Plan.{Plan}
use Rattle.room_sample.specs.declared.stretch.Stretch.{Stretch}
use Rattle.room_sample.specs.declared.stretch.Stretch.TheVariants as stretches
use Rattle.room_sample.proofs.CallerLemmas.{HasFields, sample_came}
use Rattle.room_search.specs.declared.reached.Reached.{Reached}
use Rattle.room_search.specs.Lasting.{HaveTurnsLeft, LeavesTurns}
use Rattle.room_search.specs.Reaching.{AreAllReached, IsFound, IsReachable}

-- ---- a room after a schedule has the spec, and fields

within : (spec : RoomSpec) (room : RoomState) → room.spec ≡ spec → IsWithinLimits spec → IsWithinLimits room.spec
within spec room same limits = subst IsWithinLimits (sym same) limits

after_steps : (spec : RoomSpec) (room : RoomState) (i count : ℕ) → IsWithinLimits spec → HasFields spec room → HasFields spec (room_after_steps room i count)
after_steps spec room i zero limits has = has
after_steps spec room i (suc count) limits has = after_steps spec (room_after_step room i) i count limits (record {
  same = same_spec_steps room i 1 ∙ has.same;
  fields = fields_after_step room.spec has.fields i;
  are = (step_in_fields room has.fields i (within spec room has.same limits) has.are).1;
})

after_stretch : (spec : RoomSpec) (room : RoomState) (stretch : Stretch) → IsWithinLimits spec → HasFields spec room → HasFields spec (room_after_stretch room stretch)
after_stretch spec room (stretches.Steps i count) limits has = after_steps spec room i count limits has
after_stretch spec room (stretches.Crash i) limits has = record {
  same = same_spec room (Crash i) ∙ has.same;
  fields = fields_after_calls room.spec has.fields (Crash i ∷ []);
  are = (calls_in_fields room has.fields (Crash i ∷ []) (within spec room has.same limits) has.are).1;
}

after_schedule : (spec : RoomSpec) (room : RoomState) (schedule : List Stretch) → IsWithinLimits spec → HasFields spec room → HasFields spec (room_after_schedule room schedule)
after_schedule spec room [] limits has = has
after_schedule spec room (stretch ∷ schedule) limits has = after_schedule spec (room_after_stretch room stretch) schedule limits (after_stretch spec room stretch limits has)

-- ---- no more simulators have crashed than there are crashes in the schedule

-- how many marks say that a simulator has crashed
dead_in : List Bool → ℕ
dead_in [] = 0
dead_in (true ∷ marks) = 1 + dead_in marks
dead_in (false ∷ marks) = dead_in marks

none_dead : (count : ℕ) → dead_in (replicate count false) ≡ 0
unfolding dead_in
none_dead zero = refl
none_dead (suc count) = none_dead count

one_more : (marks : List Bool) (i : ℕ) → dead_in (set marks i true) ≤ 1 + dead_in marks
unfolding dead_in
one_more [] i = omega arith
one_more (true ∷ marks) zero = omega arith
one_more (false ∷ marks) zero = omega arith
one_more (true ∷ marks) (suc i) = let more = one_more marks i in omega (arith, more)
one_more (false ∷ marks) (suc i) = one_more marks i

abbrev passing : (ℕ → Bool) → ℕ → ℕ → ℕ
passing test first count = length (filter test (range_with_len first count))

-- one that passes, if there is one
passed_by : (test : ℕ → Bool) (first : ℕ) (others : List ℕ) (dead : ℕ) (b : Bool) → test first ≡ b → length others ≤ dead → length (cond (test first) (first ∷ others) others) ≤ cond b (1 + dead) dead
passed_by test first others dead true is few = let long = ap (λ (c : Bool). length (cond c (first ∷ others) others)) is in omega (arith, long, few)
passed_by test first others dead false is few = let long = ap (λ (c : Bool). length (cond c (first ∷ others) others)) is in omega (arith, long, few)

-- no more pass a test than there are such marks, if each one that passes has one
few_dead : (test : ℕ → Bool) (marks : List Bool) (first count : ℕ) → ((i : ℕ) → i < count → test (first + i) ≡ get_or marks i false) → passing test first count ≤ dead_in marks
unfolding dead_in
few_dead test marks first zero each = omega arith
few_dead test [] first (suc count) each =
    let here : test first ≡ false = subst (λ (k : ℕ). test k ≡ false) (let at : first + 0 ≡ first = omega arith in at) (each 0 (omega arith)) in
    let rest = few_dead test [] (first + 1) count (λ i below. subst (λ (k : ℕ). test k ≡ false) (let at : first + suc i ≡ first + 1 + i = omega arith in at) (each (suc i) (omega (arith, below)))) in
    passed_by test first (filter test (range_with_len (first + 1) count)) 0 false here rest
few_dead test (true ∷ marks) first (suc count) each =
    let here : test first ≡ true = subst (λ (k : ℕ). test k ≡ true) (let at : first + 0 ≡ first = omega arith in at) (each 0 (omega arith)) in
    let rest = few_dead test marks (first + 1) count (λ i below. subst (λ (k : ℕ). test k ≡ get_or marks i false) (let at : first + suc i ≡ first + 1 + i = omega arith in at) (each (suc i) (omega (arith, below)))) in
    passed_by test first (filter test (range_with_len (first + 1) count)) (dead_in marks) true here rest
few_dead test (false ∷ marks) first (suc count) each =
    let here : test first ≡ false = subst (λ (k : ℕ). test k ≡ false) (let at : first + 0 ≡ first = omega arith in at) (each 0 (omega arith)) in
    let rest = few_dead test marks (first + 1) count (λ i below. subst (λ (k : ℕ). test k ≡ get_or marks i false) (let at : first + suc i ≡ first + 1 + i = omega arith in at) (each (suc i) (omega (arith, below)))) in
    passed_by test first (filter test (range_with_len (first + 1) count)) (dead_in marks) false here rest

-- ---- a step marks none

when_marked : (now : Ready) (room : RoomState) (i : ℕ) → (room_when now room i).crashed ≡ room.crashed
when_marked ready.Step room i = refl
when_marked ready.Idle room i = refl
when_marked ready.OutOfTurns room i = refl

step_marked : (room : RoomState) (i : ℕ) (past dead : Bool) → (cond past room (cond dead room (room_when (ready_at room i) room i))).crashed ≡ room.crashed
step_marked room i true dead = refl
step_marked room i false true = refl
step_marked room i false false = when_marked (ready_at room i) room i

same_marks : (room : RoomState) (i : ℕ) → (room_after_step room i).crashed ≡ room.crashed
same_marks room i = step_marked room i (leb room.spec.simulators i) (has_crashed room i)

steps_marked : (room : RoomState) (i count : ℕ) → (room_after_steps room i count).crashed ≡ room.crashed
steps_marked room i zero = refl
steps_marked room i (suc count) = steps_marked (room_after_step room i) i count ∙ same_marks room i

follow_marked : (room : Configuration) (taken : List TakenStep) (to : Configuration) → Follow room taken to → to.crashed ≡ room.crashed
follow_marked room [] to is = ap (λ (r : Configuration). r.crashed) (sym is)
follow_marked room (step ∷ taken) to follow =
    follow_marked (configuration_of (room_after_step step.room step.simulator)) taken to follow.2 ∙ same_marks step.room step.simulator ∙ ap (λ (r : Configuration). r.crashed) follow.0

settled_marked : (room : RoomState) → (room_after_settle room).crashed ≡ room.crashed
settled_marked room = follow_marked (configuration_of room) (steps_of_settling room) (configuration_of (room_after_settle room)) (settling_follows room)

-- ---- and a crash marks one

crash_marked : (room : RoomState) (i : ℕ) (past dead : Bool) → dead_in (cond past room (cond dead room (marked room i))).crashed ≤ 1 + dead_in room.crashed
crash_marked room i true dead = omega arith
crash_marked room i false true = omega arith
crash_marked room i false false = one_more room.crashed i

stretch_marked : (room : RoomState) (stretch : Stretch) → dead_in (room_after_stretch room stretch).crashed ≤ dead_in room.crashed + crashes_in (stretch ∷ [])
stretch_marked room (stretches.Steps i count) = let same = ap dead_in (steps_marked room i count) in let none : crashes_in (stretches.Steps i count ∷ []) ≡ 0 = refl in omega (arith, same, none)
stretch_marked room (stretches.Crash i) = let more = crash_marked room i (leb room.spec.simulators i) (has_crashed room i) in let one : crashes_in (stretches.Crash i ∷ []) ≡ 1 = refl in omega (arith, more, one)

schedule_marked : (room : RoomState) (schedule : List Stretch) → dead_in (room_after_schedule room schedule).crashed ≤ dead_in room.crashed + crashes_in schedule
schedule_marked room [] = omega arith
schedule_marked room (stretch ∷ schedule) =
    let rest = schedule_marked (room_after_stretch room stretch) schedule in
    let first = stretch_marked room stretch in
    let count : crashes_in (stretch ∷ schedule) ≡ crashes_in (stretch ∷ []) + crashes_in schedule = sum_by-append _ (stretch ∷ []) schedule in
    omega (arith, rest, first, count)

-- ---- the room has settled

pub arrives : (spec : RoomSpec) (crashes : ℕ) (schedule : List Stretch) (states : List ProcessState) → IsWithinLimits spec → IsOutcome spec crashes schedule states → HaveTurnsLeft (settled_by spec schedule) → IsReachable spec crashes (ends_of states)
arrives spec crashes schedule states limits is left =
    let opened = opening_state spec in
    let room = room_after_schedule opened schedule in
    let has : HasFields spec room = after_schedule spec opened schedule limits (record { same = refl; fields = opening_fields spec; are = opening_in_fields spec }) in
    let after = room_after_settle room in
    let after_is : after.spec ≡ spec = same_spec room Settle ∙ has.same in
    let after_limits : IsWithinLimits after.spec = within spec after after_is limits in
    let fields = fields_after_settle spec has.fields in
    let are : AreFieldsOf after fields = subst (λ (s : RoomSpec). AreFieldsOf after (fields_after_settle s has.fields)) has.same (calls_in_fields room has.fields (Settle ∷ []) (within spec room has.same limits) has.are).1 in
    let agree : AgreeIn (sizes_in after.spec) (fields_in after) fields = agrees after fields after_limits are in
    let inside : (i : ℕ) → i < spec.simulators → i < after.spec.simulators = λ i below. subst (λ (s : RoomSpec). i < s.simulators) (sym after_is) below in
    let marks : dead_in after.crashed ≤ crashes =
    let settled : dead_in after.crashed ≡ dead_in room.crashed = ap dead_in (settled_marked room) in
    let scheduled = schedule_marked opened schedule in
    let none : dead_in opened.crashed ≡ 0 = none_dead spec.simulators in
    let few = is.few in
    omega (arith, settled, scheduled, none, few) in
    record {
      room = room;
      of_room = has.same;
      fields = has.fields;
      are = has.are;
      few = let count = few_dead fields.crashed after.crashed 0 spec.simulators (λ i below. subst (λ (k : ℕ). fields.crashed k ≡ has_crashed after i) (let at : i ≡ 0 + i = omega arith in at) (sym (agree.crashed i (inside i below)))) in omega (arith, count, marks);
      turns = λ i below alive.
          let same : (sweep_at after i).mind.turns ≡ (fields.mind i).turns = ap (λ (m : MindOf StepMap). m.turns) (agree.mind i (inside i below)).rest in
          let turn : (sweep_at after i).mind.turns < spec.turns = subst (λ (s : RoomSpec). (sweep_at after i).mind.turns < s.turns) after_is (left i (inside i below) (agree.crashed i (inside i below) ∙ alive)) in
          omega (arith, same, turn);
      outcome_is = ap ends_of (is.reported fields are) ∙ ap (λ (s : RoomSpec). ends_of (states_of s fields)) after_is;
    }

-- the room to which a plan's schedule of this number leads
pub arrives_by : (spec : RoomSpec) (plan : Plan) (number : ℕ) (schedule : List Stretch) (room : RoomState) (fields : Fields) → IsWithinLimits spec → IsSettledFrom spec plan.crashes (random_of plan.seed number) schedule room → AreFieldsOf room fields → HaveTurnsLeft room
    → IsReachable spec plan.crashes (ends_of (states_of room.spec fields))
arrives_by spec plan number schedule room fields limits is are left =
    let crashes = plan.crashes in
    let settled = is.settled in
    let opened = opening_state spec in
    let before = room_after_schedule opened schedule in
    let has : HasFields spec before = after_schedule spec opened schedule limits (record { same = refl; fields = opening_fields spec; are = opening_in_fields spec }) in
    let same : (settled_by spec schedule).spec ≡ spec = same_spec before Settle ∙ has.same in
    let room_limits : IsWithinLimits (settled_by spec schedule).spec = within spec (settled_by spec schedule) same limits in
    let here : AreFieldsOf (settled_by spec schedule) fields = subst (λ (r : RoomState). AreFieldsOf r fields) settled.room_is are in
    let outcome : IsOutcome spec crashes schedule (states_of (settled_by spec schedule).spec fields) = record {
      may_come = settled.may_come;
      few = settled.few;
      reported = λ others other_are. sym (states_in (settled_by spec schedule) fields room_limits here) ∙ states_in (settled_by spec schedule) others room_limits other_are;
    } in
    subst (λ (r : RoomState). IsReachable spec crashes (ends_of (states_of r.spec fields))) (sym settled.room_is)
    (arrives spec crashes schedule (states_of (settled_by spec schedule).spec fields) limits outcome (subst HaveTurnsLeft settled.room_is left))

-- ---- a complete list has the outcomes of a sample

came_found : (spec : RoomSpec) (plan : Plan) (all : List Reached) (one : Counted) → IsWithinLimits spec → AreAllReached spec plan.crashes 0 all → CameByFirst spec plan one → LeavesTurns spec plan one.first → IsFound all (ends_of one.states)
came_found spec plan all one limits are came lasts =
    let run = came.drawn in
    let outcome = run.outcome in
    let left = lasts came.schedule (settled_by spec came.schedule) (record {
      way = run.way;
      drawn = run.drawn;
      schedule_is = run.schedule_is;
      settled = record { may_come = outcome.may_come; few = outcome.few; room_is = refl };
    }) in
    are.complete refl (ends_of one.states) (arrives spec plan.crashes came.schedule one.states limits outcome left)

pub all_found : (spec : RoomSpec) (plan : Plan) (schedules : ℕ) (outcomes : List Counted) (all : List Reached) → IsWithinLimits spec → IsSampleOf spec plan schedules outcomes → AreAllReached spec plan.crashes 0 all
    → All (λ (one : Counted). LeavesTurns spec plan one.first → IsFound all (ends_of one.states)) outcomes
all_found spec plan schedules outcomes all limits is are =
    All-weaker (CameByFirst spec plan) (λ (one : Counted). LeavesTurns spec plan one.first → IsFound all (ends_of one.states)) (λ one came. came_found spec plan all one limits are came) outcomes (sample_came spec plan schedules outcomes is)
