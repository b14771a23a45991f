-- The outcomes of a sample are outcomes of runs.
use Rattle.std.proofs.Common.{◌≡◌, ℕ, zero, suc, Bool, true, false, cond, List, [], ◌∷◌, Some, refl, sym, ap, ◌∙◌, subst}
use Rattle.std.specs.Prelude.{slice_get}
use Rattle.std.specs.List.{AllByRecursion, fold}
use Rattle.std.proofs.lemmas.List.Elements.{All-from_recursion}
use Rattle.rand_core.specs.Stream.{Stream}
use Rattle.room_spec.specs.Rooms.{IsWithinLimits, RoomSpec, processes}
use Rattle.room_core.specs.Calls.{Call, RoomState, opening_state, room_after_calls, room_after_step, room_after_steps}
use Rattle.room_core.specs.Calls.{Crash as CrashCall, Settle}
use Rattle.room_core.specs.Fields.{Fields, fields_after_calls, fields_after_step, opening_fields}
use Rattle.room_core.specs.Reading.{AreFieldsOf}
use Rattle.room_core.proofs.CallerLemmas.{calls_in_fields, opening_in_fields, step_in_fields}
use Rattle.room_core.proofs.CallerLemmasOnSpecs.{same_spec, same_spec_steps}
use Rattle.ws_history.specs.Reports.{states_of}
use Rattle.ws_history.specs.declared.states.ProcessState.{ProcessState}
use Rattle.run_search.specs.declared.ended.Ended.{Ended}
use Rattle.room_outcomes.specs.Ends.{IsRoomOutcome, ends_of}
use Rattle.room_outcomes.proofs.CallerLemmas.{reported_room_outcome}
use Rattle.room_sample.specs.Schedules.{IsOutcome, room_after_schedule, room_after_stretch, settled_by}
use Rattle.room_sample.specs.Chances.{random_of}
use Rattle.room_sample.specs.Samples.{AreAmongAll, Counted, IsRunFrom, IsSampleOf, Sampled, counted, number_at, once_more, same_states}
use Rattle.room_sample.specs.declared.sampling.Plan.{Plan}
use Rattle.room_sample.specs.declared.stretch.Stretch.{Stretch}
use Rattle.room_sample.specs.declared.stretch.Stretch.TheVariants.{Steps, Crash}

-- the room has this spec, and fields
pub record HasFields (spec : RoomSpec) (room : RoomState) : Type 0 where
  pub same : room.spec ≡ spec
  pub fields : Fields
  pub are : AreFieldsOf room fields

within : (spec : RoomSpec) (room : RoomState) → room.spec ≡ spec → IsWithinLimits spec → IsWithinLimits room.spec
within spec room same limits = subst IsWithinLimits (sym same) limits

after_call : (spec : RoomSpec) (room : RoomState) (call : Call) → IsWithinLimits spec → HasFields spec room → HasFields spec (room_after_calls room (call ∷ []))
after_call spec room call limits has = record {
  same = same_spec room call ∙ has.same;
  fields = fields_after_calls room.spec has.fields (call ∷ []);
  are = (calls_in_fields room has.fields (call ∷ []) (within spec room has.same limits) has.are).1;
}

after_steps : (spec : RoomSpec) (room : RoomState) (i count : ℕ) → IsWithinLimits spec → HasFields spec room → HasFields spec (room_after_steps room i count)
after_steps spec room i zero limits has = has
after_steps spec room i (suc count) limits has = after_steps spec (room_after_step room i) i count limits (record {
  same = same_spec_steps room i 1 ∙ has.same;
  fields = fields_after_step room.spec has.fields i;
  are = (step_in_fields room has.fields i (within spec room has.same limits) has.are).1;
})

after_stretch : (spec : RoomSpec) (room : RoomState) (stretch : Stretch) → IsWithinLimits spec → HasFields spec room → HasFields spec (room_after_stretch room stretch)
after_stretch spec room (Steps i count) limits has = after_steps spec room i count limits has
after_stretch spec room (Crash i) limits has = after_call spec room (CrashCall i) limits has

after_schedule : (spec : RoomSpec) (room : RoomState) (schedule : List Stretch) → IsWithinLimits spec → HasFields spec room → HasFields spec (room_after_schedule room schedule)
after_schedule spec room [] limits has = has
after_schedule spec room (stretch ∷ schedule) limits has = after_schedule spec (room_after_stretch room stretch) schedule limits (after_stretch spec room stretch limits has)

-- and so has a room that has settled after a schedule
pub settled_fields : (spec : RoomSpec) (schedule : List Stretch) → IsWithinLimits spec → HasFields spec (settled_by spec schedule)
settled_fields spec schedule limits =
    let opened : HasFields spec (opening_state spec) = record { same = refl; fields = opening_fields spec; are = opening_in_fields spec } in
    after_call spec (room_after_schedule (opening_state spec) schedule) Settle limits (after_schedule spec (opening_state spec) schedule limits opened)

pub sampled_outcome : (spec : RoomSpec) (crashes : ℕ) (schedule : List Stretch) (states : List ProcessState) → IsWithinLimits spec → IsOutcome spec crashes schedule states → IsRoomOutcome spec (processes spec) (ends_of states)
sampled_outcome spec crashes schedule states limits is =
    let settled = settled_fields spec schedule limits in
    let room = settled_by spec schedule in
    let among : IsRoomOutcome room.spec (processes room.spec) (ends_of (states_of room.spec settled.fields)) = reported_room_outcome room settled.fields (within spec room settled.same limits) settled.are in
    subst (λ (ends : List Ended). IsRoomOutcome spec (processes spec) ends) (ap ends_of (sym (is.reported settled.fields settled.are)))
    (subst (λ (s : RoomSpec). IsRoomOutcome s (processes s) (ends_of (states_of room.spec settled.fields))) settled.same among)

-- ---- and so are those of a sample

counted_by : (P : List ProcessState → Type 0) (run : Sampled) (one : Counted) (others : List Counted) (b : Bool) → P run.states → P one.states → AllByRecursion (λ (c : Counted). P c.states) others → AllByRecursion (λ (c : Counted). P c.states) (counted run others)
    → AllByRecursion (λ (c : Counted). P c.states) (cond b (once_more one ∷ others) (one ∷ counted run others))
counted_by P run one others true here first rest later = (first, rest)
counted_by P run one others false here first rest later = (first, later)

-- what holds of an outcome and of all others holds when it is counted with them
counted_keeps : (P : List ProcessState → Type 0) (run : Sampled) (outcomes : List Counted) → P run.states → AllByRecursion (λ (c : Counted). P c.states) outcomes → AllByRecursion (λ (c : Counted). P c.states) (counted run outcomes)
counted_keeps P run [] here are = (here, tt)
counted_keeps P run (one ∷ others) here are = counted_by P run one others (same_states run.states one.states) here are.0 are.1 (counted_keeps P run others here are.1)

abbrev is_among : RoomSpec → List ProcessState → Type 0
is_among spec states = IsRoomOutcome spec (processes spec) (ends_of states)

abbrev are_among : RoomSpec → List Counted → Type 0
are_among spec outcomes = AllByRecursion (λ (c : Counted). is_among spec c.states) outcomes

runs_among : (spec : RoomSpec) (crashes : ℕ) (random : ℕ → Stream) (runs : List Sampled) (so_far : List Counted) → IsWithinLimits spec → ((k : ℕ) (run : Sampled) → slice_get runs k ≡ Some run → IsRunFrom spec crashes (random k) run.schedule run.states) → are_among spec so_far
    → are_among spec (fold (λ (all : List Counted) (one : Sampled). counted one all) so_far runs)
runs_among spec crashes random [] so_far limits drawn are = are
runs_among spec crashes random (run ∷ runs) so_far limits drawn are =
    runs_among spec crashes (λ k. random (suc k)) runs (counted run so_far) limits (λ k one there. drawn (suc k) one there)
    (counted_keeps (is_among spec) run so_far (sampled_outcome spec crashes run.schedule run.states limits (drawn 0 run refl).outcome) are)

pub sample_among : (spec : RoomSpec) (plan : Plan) (schedules : ℕ) (outcomes : List Counted) → IsWithinLimits spec → IsSampleOf spec plan schedules outcomes → AreAmongAll spec outcomes
sample_among spec plan schedules outcomes limits is =
    All-from_recursion (λ (c : Counted). is_among spec c.states) outcomes (subst (are_among spec) (sym is.outcomes_are) (runs_among spec plan.crashes (λ k. random_of plan.seed (number_at plan k)) is.runs [] limits (λ k run there. (is.drawn k run there).drawn) tt))
