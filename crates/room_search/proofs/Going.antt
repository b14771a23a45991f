-- Rooms that go on from others.
use Rattle.std.proofs.Common.{◌≡◌, ℕ, zero, suc, Bool, true, false, cond, leb, List, [], ◌∷◌, ◌++◌, get_or, map, refl, sym, ap, ◌∙◌, subst}
use Rattle.std.proofs.lemmas.Bool.{leb-false}
use Rattle.room_spec.specs.Rooms.{RoomSpec, IsWithinLimits}
use Rattle.simulator.specs.Sweeps.{SweepState, opening_sweep}
use Rattle.simulator.specs.declared.sweep.Ready.{Ready}
use Rattle.simulator.specs.declared.sweep.Ready.TheVariants as ready
use Rattle.room_core.specs.Calls.{RoomState, Crash, Settle, configuration_of, has_crashed, marked, opening_state, ready_at, reply_when, room_after_settle, room_after_step, room_when, step_reply, sweep_at}
use Rattle.room_core.specs.Observing.{Follow, TakenStep, is_stepped, steps_of_settling}
use Rattle.room_core.specs.Rooms.{Configuration, HasLine, IsAlive, IsLegal, IsOneInterleaving, MayHappen, ScheduleEvent, after_event, crashed_by, crashes, mind_at, opening, replay, stepped, steps}
use Rattle.room_core.specs.declared.reply.StepReply.TheVariants.{Crashed, NoSimulator, Stepped}
use Rattle.room_core.proofs.CallerLemmas.{moved_data, opening_data, settling_follows, shapes, taken_line, taken_moves, woken_data}
use Rattle.room_core.proofs.CallerLemmasOnSpecs.{same_spec, same_spec_steps}
use Rattle.run_search.specs.declared.ended.Ended.{Ended}
use Rattle.room_sample.specs.Schedules.{room_after_schedule, room_after_stretch}
use Rattle.room_sample.specs.declared.stretch.Stretch.{Stretch}
use Rattle.room_sample.specs.declared.stretch.Stretch.TheVariants as stretches
use Rattle.room_search.specs.Continuing.{Continues}
use Rattle.service_core.specs.Rooms.{room_stepped}
use Rattle.room_search.specs.declared.beginning.Act.{Act}
use Rattle.room_search.specs.declared.beginning.Act.TheVariants as acts
use Rattle.room_search.specs.Beginnings.{begun, room_after_act, room_after_acts}
use Rattle.room_search.specs.Reaching.{IsOpen, IsReachable, settled_from}
use Rattle.room_search.proofs.Covering.{goes_on}

-- ---- what is in mind

mind_in : (sweeps : List SweepState) (i : ℕ) (d : SweepState) → get_or (map (λ (sweep : SweepState). sweep.mind) sweeps) i d.mind ≡ (get_or sweeps i d).mind
mind_in [] i d = refl
mind_in (sweep ∷ sweeps) zero d = refl
mind_in (sweep ∷ sweeps) (suc i) d = mind_in sweeps i d

pub mind_here : (room : RoomState) (i : ℕ) → mind_at (configuration_of room) i ≡ (sweep_at room i).mind
mind_here room i = mind_in room.sweeps i (opening_sweep room.spec i)

-- ---- lists one after the other

replay-append : (room : Configuration) (some more : List ScheduleEvent) → replay room (some ++ more) ≡ replay (replay room some) more
replay-append room [] more = refl
replay-append room (event ∷ some) more = replay-append (after_event room event) some more

legal-append : (room : Configuration) (some more : List ScheduleEvent) → IsLegal room some → IsLegal (replay room some) more → IsLegal room (some ++ more)
legal-append room [] more legal then = then
legal-append room (event ∷ some) more legal then = (legal.0, legal-append (after_event room event) some more legal.1 then)

pub goes_further : (start room after : Configuration) → Continues start room → Continues room after → Continues start after
goes_further start room after first then = record {
  events = first.events ++ then.events;
  legal = legal-append start first.events then.events first.legal (subst (λ (r : Configuration). IsLegal r then.events) (sym first.leads) then.legal);
  leads = replay-append start first.events then.events ∙ ap (λ (r : Configuration). replay r then.events) first.leads ∙ then.leads;
}

one_event : (room : Configuration) (event : ScheduleEvent) → MayHappen room event → Continues room (after_event room event)
one_event room event may = record { events = event ∷ []; legal = (may, tt); leads = refl }

-- ---- rooms that go on from a room

-- a schedule goes on from the first room to this one
pub record ComesFrom (start : Configuration) (room : RoomState) : Type 0 where
  pub limits : IsWithinLimits room.spec
  pub run : IsOneInterleaving (configuration_of room)
  pub goes : Continues start (configuration_of room)

step_on : (start : Configuration) (room : RoomState) (i : ℕ) → ComesFrom start room → step_reply room i ≡ Stepped → ComesFrom start (room_after_step room i)
step_on start room i from is =
    let here = configuration_of room in
    let line : HasLine here i = taken_line room i (shapes here from.limits from.run) is in
    let next : configuration_of (room_after_step room i) ≡ stepped here i = ap configuration_of (taken_moves room i is) ∙ moved_data room i in
    record {
      limits = subst IsWithinLimits (sym (same_spec_steps room i 1)) from.limits;
      run = subst IsOneInterleaving (sym next) (goes_on here (steps i) from.run line);
      goes = subst (Continues start) (sym next) (goes_further start here (stepped here i) from.goes (one_event here (steps i) line));
    }

-- ---- a room that settles goes on

follow_on : (start : Configuration) (room : RoomState) (taken : List TakenStep) (to : Configuration) → ComesFrom start room → Follow (configuration_of room) taken to → Continues start to
follow_on start room [] to from is = subst (Continues start) is from.goes
follow_on start room (step ∷ taken) to from follow =
    let same = follow.0 in
    let here : ComesFrom start step.room = record {
      limits = subst (λ (q : Configuration). IsWithinLimits q.spec) (sym same) from.limits;
      run = subst IsOneInterleaving (sym same) from.run;
      goes = subst (Continues start) (sym same) from.goes;
    } in
    follow_on start (room_after_step step.room step.simulator) taken to (step_on start step.room step.simulator here follow.1) follow.2

pub settles_on : (start : Configuration) (room : RoomState) → IsWithinLimits room.spec → IsOneInterleaving (configuration_of room) → Continues start (configuration_of room) → Continues start (configuration_of (room_after_settle room))
settles_on start room limits run goes = follow_on start room (steps_of_settling room) (configuration_of (room_after_settle room)) (record { limits = limits; run = run; goes = goes }) (settling_follows room)

-- ---- what is open

pub shrinks : (spec : RoomSpec) (most : ℕ) (start later : RoomState) (outcome : List Ended) → Continues (configuration_of start) (configuration_of later) → IsOpen later spec most outcome → IsOpen start spec most outcome
shrinks spec most start later outcome goes is = record {
  reachable = is.reachable;
  goes_on = goes_further (configuration_of start) (configuration_of later) (configuration_of is.reachable.room) goes is.goes_on;
}

-- ---- what is done to a room leads on

stepped_by : (start : Configuration) (room : RoomState) (i : ℕ) (past dead : Bool) (now : Ready) → leb room.spec.simulators i ≡ past → has_crashed room i ≡ dead → ready_at room i ≡ now → ComesFrom start room
    → ComesFrom start (cond past room (cond dead room (room_when now room i)))
stepped_by start room i true dead now past_is dead_is now_is from = from
stepped_by start room i false true now past_is dead_is now_is from = from
stepped_by start room i false false ready.OutOfTurns past_is dead_is now_is from = from
stepped_by start room i false false ready.Idle past_is dead_is now_is from = record {
  limits = from.limits;
  run = subst IsOneInterleaving (sym (woken_data room i)) from.run;
  goes = subst (Continues start) (sym (woken_data room i)) from.goes;
}
stepped_by start room i false false ready.Step past_is dead_is now_is from =
    let reply : step_reply room i ≡ Stepped =
    ap (λ (b : Bool). cond b NoSimulator (cond (has_crashed room i) Crashed (reply_when (ready_at room i)))) past_is ∙ ap (λ (b : Bool). cond b Crashed (reply_when (ready_at room i))) dead_is ∙ ap reply_when now_is in
    subst (ComesFrom start) (taken_moves room i reply) (step_on start room i from reply)

one_step_on : (start : Configuration) (room : RoomState) (i : ℕ) → ComesFrom start room → ComesFrom start (room_after_step room i)
one_step_on start room i from = stepped_by start room i (leb room.spec.simulators i) (has_crashed room i) (ready_at room i) refl refl refl from

either : (start : Configuration) (b : Bool) (one other : RoomState) → ComesFrom start one → ComesFrom start other → ComesFrom start (cond b one other)
either start true one other from_one from_other = from_one
either start false one other from_one from_other = from_other

steps_on : (start : Configuration) (room : RoomState) (i count : ℕ) → ComesFrom start room → ComesFrom start (room_stepped room i count)
steps_on start room i zero from = from
steps_on start room i (suc count) from = let here = one_step_on start room i from in either start (is_stepped (step_reply room i)) (room_stepped (room_after_step room i) i count) (room_after_step room i) (steps_on start (room_after_step room i) i count here) here

crash_by : (start : Configuration) (room : RoomState) (i : ℕ) (past dead : Bool) → leb room.spec.simulators i ≡ past → has_crashed room i ≡ dead → ComesFrom start room → ComesFrom start (cond past room (cond dead room (marked room i)))
crash_by start room i true dead past_is dead_is from = from
crash_by start room i false true past_is dead_is from = from
crash_by start room i false false past_is dead_is from =
    let here = configuration_of room in
    let alive : IsAlive here i = record { below = leb-false room.spec.simulators i past_is; alive = dead_is } in
    record {
      limits = from.limits;
      run = goes_on here (crashes i) from.run alive;
      goes = goes_further start here (crashed_by here i) from.goes (one_event here (crashes i) alive);
    }

run_further : (room after : Configuration) → after.spec ≡ room.spec → IsOneInterleaving room → Continues room after → IsOneInterleaving after
run_further room after same run then =
    let first : Configuration = opening room.spec in
    let all : Continues first after = goes_further first room after (record { events = run.schedule; legal = run.legal; leads = run.leads }) then in
    let opened : first ≡ opening after.spec = ap opening (sym same) in
    record {
      schedule = all.events;
      legal = subst (λ (r : Configuration). IsLegal r all.events) opened all.legal;
      leads = ap (λ (r : Configuration). replay r all.events) (sym opened) ∙ all.leads;
    }

settle_on : (start : Configuration) (room : RoomState) → ComesFrom start room → ComesFrom start (room_after_settle room)
settle_on start room from =
    let here = configuration_of room in
    let same : (room_after_settle room).spec ≡ room.spec = same_spec room Settle in
    let then : Continues here (configuration_of (room_after_settle room)) = settles_on here room from.limits from.run (record { events = []; legal = tt; leads = refl }) in
    record {
      limits = subst IsWithinLimits (sym same) from.limits;
      run = run_further here (configuration_of (room_after_settle room)) same from.run then;
      goes = goes_further start here (configuration_of (room_after_settle room)) from.goes then;
    }

act_on : (start : Configuration) (room : RoomState) (act : Act) → ComesFrom start room → ComesFrom start (room_after_act room act)
act_on start room (acts.Steps i count) from = steps_on start room i count from
act_on start room (acts.Crash i) from = crash_by start room i (leb room.spec.simulators i) (has_crashed room i) refl refl from
act_on start room acts.Settle from = settle_on start room from

acts_on : (start : Configuration) (room : RoomState) (all : List Act) → ComesFrom start room → ComesFrom start (room_after_acts room all)
acts_on start room [] from = from
acts_on start room (act ∷ all) from = acts_on start (room_after_act room act) all (act_on start room act from)

both_done : (room : RoomState) (some more : List Act) → room_after_acts room (some ++ more) ≡ room_after_acts (room_after_acts room some) more
both_done room [] more = refl
both_done room (act ∷ some) more = both_done (room_after_act room act) some more

pub shrinks_after : (spec : RoomSpec) (most : ℕ) (before more : List Act) (outcome : List Ended) → IsWithinLimits spec → IsOpen (begun spec (before ++ more)) spec most outcome → IsOpen (begun spec before) spec most outcome
shrinks_after spec most before more outcome limits is =
    let opened = opening_state spec in
    let first = configuration_of opened in
    let start = begun spec before in
    let opens : ComesFrom first opened = record {
      limits = limits;
      run = subst IsOneInterleaving (sym (opening_data spec)) (record { schedule = []; legal = tt; leads = refl });
      goes = record { events = []; legal = tt; leads = refl };
    } in
    let done : ComesFrom first start = acts_on first opened before opens in
    let here : ComesFrom (configuration_of start) start = record { limits = done.limits; run = done.run; goes = record { events = []; legal = tt; leads = refl } } in
    shrinks spec most start (room_after_acts start more) outcome (acts_on (configuration_of start) start more here).goes
    (subst (λ (room : RoomState). IsOpen room spec most outcome) (both_done opened before more) is)

-- all that is reachable is open at the beginning
pub open_at_first : (spec : RoomSpec) (most : ℕ) (outcome : List Ended) → IsReachable spec most outcome → IsOpen (opening_state spec) spec most outcome
open_at_first spec most outcome is =
    let run = is.are.run in
    let same : opening is.room.spec ≡ configuration_of (opening_state spec) = ap opening is.of_room ∙ sym (opening_data spec) in
    record {
      reachable = is;
      goes_on = record {
        events = run.schedule;
        legal = subst (λ (r : Configuration). IsLegal r run.schedule) same run.legal;
        leads = ap (λ (r : Configuration). replay r run.schedule) (sym same) ∙ run.leads;
      };
    }

-- ---- the spec of a room stays

stretch_spec : (room : RoomState) (stretch : Stretch) → (room_after_stretch room stretch).spec ≡ room.spec
stretch_spec room (stretches.Steps i count) = same_spec_steps room i count
stretch_spec room (stretches.Crash i) = same_spec room (Crash i)

schedule_spec : (room : RoomState) (schedule : List Stretch) → (room_after_schedule room schedule).spec ≡ room.spec
schedule_spec room [] = refl
schedule_spec room (stretch ∷ schedule) = schedule_spec (room_after_stretch room stretch) schedule ∙ stretch_spec room stretch

pub settled_spec : (room : RoomState) (schedule : List Stretch) → (settled_from room schedule).spec ≡ room.spec
settled_spec room schedule = same_spec (room_after_schedule room schedule) Settle ∙ schedule_spec room schedule

either_spec : (b : Bool) (room one other : RoomState) → one.spec ≡ room.spec → other.spec ≡ room.spec → (cond b one other).spec ≡ room.spec
either_spec true room one other is_one is_other = is_one
either_spec false room one other is_one is_other = is_other

stepped_spec : (room : RoomState) (i count : ℕ) → (room_stepped room i count).spec ≡ room.spec
stepped_spec room i zero = refl
stepped_spec room i (suc count) =
    let here = same_spec_steps room i 1 in
    either_spec (is_stepped (step_reply room i)) room (room_stepped (room_after_step room i) i count) (room_after_step room i) (stepped_spec (room_after_step room i) i count ∙ here) here

act_spec : (room : RoomState) (act : Act) → (room_after_act room act).spec ≡ room.spec
act_spec room (acts.Steps i count) = stepped_spec room i count
act_spec room (acts.Crash i) = same_spec room (Crash i)
act_spec room acts.Settle = same_spec room Settle

acts_spec : (room : RoomState) (all : List Act) → (room_after_acts room all).spec ≡ room.spec
acts_spec room [] = refl
acts_spec room (act ∷ all) = acts_spec (room_after_act room act) all ∙ act_spec room act

pub begun_spec : (spec : RoomSpec) (all : List Act) → (begun spec all).spec ≡ spec
begun_spec spec all = acts_spec (opening_state spec) all

pub spec_after : (spec : RoomSpec) (room : RoomState) (all : List Act) → room ≡ begun spec all → room.spec ≡ spec
spec_after spec room all is = ap (λ (r : RoomState). r.spec) is ∙ begun_spec spec all
