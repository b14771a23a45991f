-- The schedule of an outcome's number leads to it.
use Rattle.std.proofs.Common.{All, ◌≡◌, ℕ, suc, ◌+◌, Bool, true, false, cond, List, [], ◌∷◌, Some, refl, sym, subst, arith}
use Rattle.std.specs.Prelude.{slice_get}
use Rattle.std.specs.List.{fold}
use Rattle.std.proofs.lemmas.List.Elements.{All-cons, All-tail}
use Rattle.room_spec.specs.Rooms.{RoomSpec}
use Rattle.room_sample.specs.Chances.{random_of}
use Rattle.room_sample.specs.Groups.{grouped_if}
use Rattle.room_sample.specs.Samples.{CameByFirst, Counted, IsRunFrom, IsRunOf, IsSampleOf, Sampled, counted, first_time, once_more, same_states}
use Rattle.room_sample.specs.declared.sampling.Plan.{Plan}
use Rattle.room_sample.proofs.Grouping.{grouped_keeps}

module _ (spec : RoomSpec) (plan : Plan) where
  counted_came : (run : Sampled) (outcomes : List Counted) → CameByFirst spec plan (first_time run) → All (CameByFirst spec plan) outcomes → All (CameByFirst spec plan) (counted run outcomes)
  counted_came run [] came all = All-cons (CameByFirst spec plan) (first_time run) [] came all
  counted_came run (one ∷ others) came all =
      by (same_states run.states one.states) (counted_came run others came (All-tail (CameByFirst spec plan) one others all))
    where
      by : (b : Bool) → All (CameByFirst spec plan) (counted run others) → All (CameByFirst spec plan) (cond b (once_more one ∷ others) (one ∷ counted run others))
      by true later =
          let was : CameByFirst spec plan one = all 0 one (omega arith) in
          All-cons (CameByFirst spec plan) (once_more one) others (record { schedule = was.schedule; drawn = was.drawn }) (All-tail (CameByFirst spec plan) one others all)
      by false later = All-cons (CameByFirst spec plan) one (counted run others) (all 0 one (omega arith)) later

  run_came : (number : ℕ) (run : Sampled) → IsRunOf spec plan number run → CameByFirst spec plan (first_time run)
  run_came number run is = record {
    schedule = run.schedule;
    drawn = subst (λ (n : ℕ). IsRunFrom spec plan.crashes (random_of plan.seed n) run.schedule run.states) (sym is.number_is) is.drawn;
  }

  runs_came : (runs : List Sampled) (first : ℕ) (so_far : List Counted) → ((k : ℕ) (run : Sampled) → slice_get runs k ≡ Some run → IsRunOf spec plan (first + k) run) → All (CameByFirst spec plan) so_far
      → All (CameByFirst spec plan) (fold (λ (all : List Counted) (one : Sampled). counted one all) so_far runs)
  runs_came [] first so_far drawn came = came
  runs_came (run ∷ runs) first so_far drawn came =
      runs_came runs (first + 1) (counted run so_far) (λ k one there. subst (λ (n : ℕ). IsRunOf spec plan n one) (omega arith) (drawn (suc k) one there))
      (counted_came run so_far (run_came (first + 0) run (drawn 0 run refl)) came)

  pub sample_came : (schedules : ℕ) (outcomes : List Counted) → IsSampleOf spec plan schedules outcomes → All (CameByFirst spec plan) outcomes
  sample_came schedules outcomes sample =
      subst (λ (all : List Counted). All (CameByFirst spec plan) all) (sym sample.outcomes_are)
      (runs_came sample.runs 0 [] (λ k run there. subst (λ (n : ℕ). IsRunOf spec plan n run) (omega arith) (sample.drawn k run there)) (λ k d below. absurd (omega (arith, below))))

  -- and that of a group
  pub groups_came : (group : Bool) (outcomes : List Counted) → All (CameByFirst spec plan) outcomes → All (CameByFirst spec plan) (grouped_if group outcomes)
  groups_came true outcomes all = grouped_keeps (CameByFirst spec plan) (λ one count is. record { schedule = is.schedule; drawn = is.drawn }) outcomes all
  groups_came false outcomes all = all
