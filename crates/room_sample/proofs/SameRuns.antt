-- Runs and samples are decided by their streams.
use Rattle.std.proofs.Common.{◌≡◌, ℕ, suc, ◌+◌, ◌%◌, List, [], ◌∷◌, length, Some, refl, sym, ap, ap₂, ◌∙◌, subst, arith}
use Rattle.std.specs.Prelude.{slice_get}
use Rattle.rand_core.specs.Stream.{Stream}
use Rattle.room_spec.specs.Rooms.{IsWithinLimits, RoomSpec}
use Rattle.room_core.specs.Calls.{RoomState}
use Rattle.room_core.specs.Fields.{Fields}
use Rattle.room_core.specs.Reading.{AreFieldsOf}
use Rattle.ws_history.specs.Reports.{report_of}
use Rattle.ws_history.specs.declared.states.ProcessState.{ProcessState}
use Rattle.room_sample.specs.Chances.{random_of}
use Rattle.room_sample.specs.Samples.{Counted, IsRunFrom, IsRunOf, IsSettledFrom, IsSampleOf, Sampled, counted_all, number_at}
use Rattle.room_sample.specs.Drawn.{Way}
use Rattle.room_sample.specs.Schedules.{IsOutcome, settled_by}
use Rattle.room_sample.specs.declared.sampling.Plan.{Plan}
use Rattle.room_sample.specs.declared.stretch.Stretch.{Stretch}
use Rattle.room_sample.proofs.AmongAll.{settled_fields}
use Rattle.room_sample.proofs.SameDraws.{through_same}

-- a schedule has one outcome
pub outcome_same : (spec : RoomSpec) (crashes : ℕ) (schedule : List Stretch) (states states' : List ProcessState) → IsWithinLimits spec → IsOutcome spec crashes schedule states → IsOutcome spec crashes schedule states' → states ≡ states'
outcome_same spec crashes schedule states states' limits one other =
    let settled = settled_fields spec schedule limits in
    one.reported settled.fields settled.are ∙ sym (other.reported settled.fields settled.are)

-- and a stream one run
pub run_same : (spec : RoomSpec) (crashes : ℕ) (random : Stream) (schedule schedule' : List Stretch) (states states' : List ProcessState) → IsWithinLimits spec
    → IsRunFrom spec crashes random schedule states → IsRunFrom spec crashes random schedule' states' → (schedule ≡ schedule') × (states ≡ states')
run_same spec crashes random schedule schedule' states states' limits run run' =
    let same : schedule ≡ schedule' = run.schedule_is ∙ ap (λ (w : Way). w.schedule) (through_same spec crashes random run.way run'.way run.drawn run'.drawn) ∙ sym run'.schedule_is in
    (same, outcome_same spec crashes schedule' states states' limits (subst (λ (s : List Stretch). IsOutcome spec crashes s states) same run.outcome) run'.outcome)

-- a stream has one room
pub settled_same : (spec : RoomSpec) (crashes : ℕ) (random : Stream) (schedule schedule' : List Stretch) (room room' : RoomState) → IsSettledFrom spec crashes random schedule room → IsSettledFrom spec crashes random schedule' room' → (schedule ≡ schedule') × (room ≡ room')
settled_same spec crashes random schedule schedule' room room' one other =
    let same : schedule ≡ schedule' = one.schedule_is ∙ ap (λ (w : Way). w.schedule) (through_same spec crashes random one.way other.way one.drawn other.drawn) ∙ sym other.schedule_is in
    (same, one.settled.room_is ∙ ap (λ (s : List Stretch). settled_by spec s) same ∙ sym other.settled.room_is)

-- of which its run has the states
pub settled_counted : (spec : RoomSpec) (crashes : ℕ) (random : Stream) (schedule schedule' : List Stretch) (room : RoomState) (states : List ProcessState) → IsSettledFrom spec crashes random schedule room → IsRunFrom spec crashes random schedule' states
    → (schedule ≡ schedule') × ((fields : Fields) → AreFieldsOf room fields → states ≡ (report_of room.spec fields).states.items)
settled_counted spec crashes random schedule schedule' room states one run =
    let same : schedule ≡ schedule' = one.schedule_is ∙ ap (λ (w : Way). w.schedule) (through_same spec crashes random one.way run.way one.drawn run.drawn) ∙ sym run.schedule_is in
    let room_is : room ≡ settled_by spec schedule' = one.settled.room_is ∙ ap (λ (s : List Stretch). settled_by spec s) same in
    (same, subst (λ (r : RoomState). (fields : Fields) → AreFieldsOf r fields → states ≡ (report_of r.spec fields).states.items) (sym room_is) run.outcome.reported)

-- the schedule of a place has one run
placed_same : (spec : RoomSpec) (plan : Plan) (place : ℕ) (one other : Sampled) → IsWithinLimits spec → IsRunOf spec plan place one → IsRunOf spec plan place other → one ≡ other
placed_same spec plan place one other limits run run' =
    let same = run_same spec plan.crashes (random_of plan.seed (number_at plan place)) one.schedule other.schedule one.states other.states limits run.drawn run'.drawn in
    ap₂ (λ (s : List Stretch) (t : List ProcessState). sampled one.number s t) same.0 same.1 ∙ ap (λ (n : ℕ). sampled n other.schedule other.states) (run.number_is ∙ sym run'.number_is)
  where
    sampled : ℕ → List Stretch → List ProcessState → Sampled
    sampled n s t = record { number = n; schedule = s; states = t }

runs_same : (spec : RoomSpec) (plan : Plan) (first : ℕ) (runs runs' : List Sampled) → IsWithinLimits spec → length runs ≡ length runs' → ((k : ℕ) (run : Sampled) → slice_get runs k ≡ Some run → IsRunOf spec plan (first + k) run)
    → ((k : ℕ) (run : Sampled) → slice_get runs' k ≡ Some run → IsRunOf spec plan (first + k) run) → runs ≡ runs'
runs_same spec plan first [] [] limits long drawn drawn' = refl
runs_same spec plan first (run ∷ runs) (run' ∷ runs') limits long drawn drawn' =
    ap₂ (λ (one : Sampled) (all : List Sampled). one ∷ all) (placed_same spec plan (first + 0) run run' limits (drawn 0 run refl) (drawn' 0 run' refl))
    (runs_same spec plan (first + 1) runs runs' limits (omega (arith, long)) (λ k one there. next k one (drawn (suc k) one there)) (λ k one there. next k one (drawn' (suc k) one there)))
  where
    next : (k : ℕ) (one : Sampled) → IsRunOf spec plan (first + suc k) one → IsRunOf spec plan (first + 1 + k) one
    next k one is = subst (λ (n : ℕ). IsRunOf spec plan n one) (omega arith) is
runs_same spec plan first [] (run' ∷ runs') limits long drawn drawn' = absurd (omega (arith, long))
runs_same spec plan first (run ∷ runs) [] limits long drawn drawn' = absurd (omega (arith, long))

-- the same seed from the same number on, and as many crashes, give the same outcomes
pub sample_same : (spec : RoomSpec) (plan plan' : Plan) (schedules : ℕ) (outcomes outcomes' : List Counted) → IsWithinLimits spec → plan.seed ≡ plan'.seed → plan.from ≡ plan'.from → plan.crashes ≡ plan'.crashes
    → IsSampleOf spec plan schedules outcomes → IsSampleOf spec plan' schedules outcomes' → outcomes ≡ outcomes'
sample_same spec plan plan' schedules outcomes outcomes' limits seed from crashes one other =
    one.outcomes_are ∙ ap counted_all (runs_same spec plan 0 one.runs other.runs limits (one.count ∙ sym other.count) (λ k run there. at_place k run (one.drawn k run there)) (λ k run there. at_place k run (by_plan k run (other.drawn k run there))))
    ∙ sym other.outcomes_are
  where
    at_place : (k : ℕ) (run : Sampled) → IsRunOf spec plan k run → IsRunOf spec plan (0 + k) run
    at_place k run is = subst (λ (n : ℕ). IsRunOf spec plan n run) (omega arith) is

    by_plan : (k : ℕ) (run : Sampled) → IsRunOf spec plan' k run → IsRunOf spec plan k run
    by_plan k run is = let numbers : number_at plan k ≡ number_at plan' k = ap (λ (n : ℕ). (n + k) % 4294967296) from in record {
      number_is = is.number_is ∙ sym numbers;
      drawn =
          subst (λ (n : ℕ). IsRunFrom spec n (random_of plan.seed (number_at plan k)) run.schedule run.states) (sym crashes)
          (subst (λ (n : ℕ). IsRunFrom spec plan'.crashes (random_of n (number_at plan k)) run.schedule run.states) (sym seed)
          (subst (λ (n : ℕ). IsRunFrom spec plan'.crashes (random_of plan'.seed n) run.schedule run.states) (sym numbers) is.drawn));
    }
