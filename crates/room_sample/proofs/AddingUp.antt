-- Samples of plans that follow each other add up.
use Rattle.std.proofs.Common.{◌≡◌, ℕ, ◌+◌, ◌%◌, ◌<◌, List, refl, sym, ap, ◌∙◌, subst, arith}
use Rattle.room_spec.specs.Rooms.{RoomSpec}
use Rattle.room_sample.specs.Chances.{random_of}
use Rattle.room_sample.specs.Parts.{AreCountedFrom, added_all}
use Rattle.room_sample.specs.Samples.{Counted, IsRunFrom, IsRunOf, IsSampleOf, Sampled, number_at}
use Rattle.room_sample.specs.declared.sampling.Plan.{Plan}
use Rattle.room_sample.proofs.Parts.{part_more}

-- a place of the later plan is one of the first plan, past its schedules
later_number : (from schedules k : ℕ) → ((from + schedules) % 4294967296 + k) % 4294967296 ≡ (from + (schedules + k)) % 4294967296
later_number from schedules k = omega arith

module _ (spec : RoomSpec) (plan plan' : Plan) (schedules : ℕ) (seed : plan.seed ≡ plan'.seed) (from : plan'.from ≡ number_at plan schedules) (crashes : plan.crashes ≡ plan'.crashes) where
  later_run : (k : ℕ) (run : Sampled) → IsRunOf spec plan' k run → IsRunOf spec plan (schedules + k) run
  later_run k run is =
      let numbers : number_at plan' k ≡ number_at plan (schedules + k) = ap (λ (n : ℕ). (n + k) % 4294967296) from ∙ later_number plan.from schedules k in
      record {
        number_is = is.number_is ∙ numbers;
        drawn =
            subst (λ (n : ℕ). IsRunFrom spec n (random_of plan.seed (number_at plan (schedules + k))) run.schedule run.states) (sym crashes)
            (subst (λ (n : ℕ). IsRunFrom spec plan'.crashes (random_of n (number_at plan (schedules + k))) run.schedule run.states) (sym seed)
            (subst (λ (n : ℕ). IsRunFrom spec plan'.crashes (random_of plan'.seed n) run.schedule run.states) numbers is.drawn));
      }

  later_counted : (more : ℕ) (later : List Counted) → IsSampleOf spec plan' more later → AreCountedFrom spec plan schedules more later
  later_counted more later is = record {
    runs = is.runs;
    are_runs = record { length_is = is.count; drawn = λ k run there. later_run k run (is.drawn k run there) };
    outcomes_are = is.outcomes_are;
  }

pub samples_add : (spec : RoomSpec) (plan plan' : Plan) (schedules more : ℕ) (outcomes later : List Counted) → plan.seed ≡ plan'.seed → plan'.from ≡ number_at plan schedules → plan.crashes ≡ plan'.crashes
    → schedules + more < 4294967296 → IsSampleOf spec plan schedules outcomes → IsSampleOf spec plan' more later → IsSampleOf spec plan (schedules + more) (added_all outcomes later)
samples_add spec plan plan' schedules more outcomes later seed from crashes few one other =
    part_more spec plan schedules more outcomes later (added_all outcomes later) few one (later_counted spec plan plan' schedules seed from crashes more later other) refl
