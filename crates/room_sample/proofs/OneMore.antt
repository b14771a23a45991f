-- One run more is sampled.
use Rattle.std.proofs.Common.{◌≡◌, ℕ, zero, suc, ◌+◌, ◌<◌, Bool, true, false, cond, min, List, [], ◌∷◌, ◌++◌, length, Some, None, refl, sym, ap, ◌∙◌, subst, arith}
use Rattle.std.specs.Prelude.{slice_get}
use Rattle.std.specs.List.{fold, sum_by}
use Rattle.std.proofs.lemmas.List.{length-append}
use Rattle.std.proofs.lemmas.List.Sums.{fold-append, sum_by-cons}
use Rattle.room_spec.specs.Rooms.{RoomSpec}
use Rattle.room_sample.specs.Samples.{AreRunsFrom, Counted, IsRunOf, IsSampleOf, Sampled, counted, first_time, once_more, same_states}
use Rattle.room_sample.specs.declared.sampling.Plan.{Plan}

more_times : (one : Counted) (others : List Counted) → sum_by (λ (c : Counted). c.times) (one ∷ others) ≡ one.times + sum_by (λ (c : Counted). c.times) others
more_times one others = sum_by-cons (λ (c : Counted). c.times) one others

-- one run more is counted once, as long as that is a number
counted_once : (run : Sampled) (outcomes : List Counted) → sum_by (λ (c : Counted). c.times) outcomes + 1 < 4294967296 → sum_by (λ (c : Counted). c.times) (counted run outcomes) ≡ sum_by (λ (c : Counted). c.times) outcomes + 1
counted_once run [] few = more_times (first_time run) []
counted_once run (one ∷ others) few =
    by_same (same_states run.states one.states) refl (λ fewer. counted_once run others fewer)
  where
    all : sum_by (λ (c : Counted). c.times) (one ∷ others) ≡ one.times + sum_by (λ (c : Counted). c.times) others
    all = more_times one others

    by_same : (b : Bool) → same_states run.states one.states ≡ b
        → (sum_by (λ (c : Counted). c.times) others + 1 < 4294967296 → sum_by (λ (c : Counted). c.times) (counted run others) ≡ sum_by (λ (c : Counted). c.times) others + 1)
        → sum_by (λ (c : Counted). c.times) (cond b (once_more one ∷ others) (one ∷ counted run others)) ≡ sum_by (λ (c : Counted). c.times) (one ∷ others) + 1
    by_same true is later_once =
        let here = more_times (once_more one) others in
        let more : min (one.times + 1) 4294967295 ≡ one.times + 1 = omega (arith, few, all) in
        omega (arith, here, more, all)
    by_same false is later_once =
        let here = more_times one (counted run others) in
        let later = later_once (omega (arith, few, all)) in
        omega (arith, here, later, all)

pub no_sample : (spec : RoomSpec) (plan : Plan) → IsSampleOf spec plan 0 []
no_sample spec plan = record { runs = []; count = refl; drawn = λ k run there. absurd (let none : None ≡ Some run = there in cc); outcomes_are = refl; total = refl }

same_some : (a b : Sampled) → Some a ≡ Some b → a ≡ b
same_some a b is = cc

-- a run at a place is one of the first, or the last
one_of : (P : ℕ → Sampled → Type 0) (runs : List Sampled) (run : Sampled) → ((k : ℕ) (one : Sampled) → slice_get runs k ≡ Some one → P k one) → P (length runs) run → (k : ℕ) (one : Sampled) → slice_get (runs ++ run ∷ []) k ≡ Some one → P k one
one_of P [] run first last zero one there = subst (P 0) (same_some run one there) last
one_of P [] run first last (suc k) one there = absurd (let none : None ≡ Some one = there in cc)
one_of P (other ∷ runs) run first last zero one there = first 0 one there
one_of P (other ∷ runs) run first last (suc k) one there = one_of (λ n r. P (suc n) r) runs run (λ n r is. first (suc n) r is) last k one there

pub one_more : (spec : RoomSpec) (plan : Plan) (count : ℕ) (before after : List Counted) (run : Sampled) → count + 1 < 4294967296 → IsSampleOf spec plan count before → IsRunOf spec plan count run → after ≡ counted run before → IsSampleOf spec plan (count + 1) after
one_more spec plan count before after run few is drawn to = record {
  runs = is.runs ++ run ∷ [];
  count = length-append is.runs (run ∷ []) ∙ ap (λ (n : ℕ). n + 1) is.count;
  drawn = one_of (λ (k : ℕ) (one : Sampled). IsRunOf spec plan k one) is.runs run is.drawn (subst (λ (k : ℕ). IsRunOf spec plan k run) (sym is.count) drawn);
  outcomes_are = to ∙ ap (counted run) is.outcomes_are ∙ sym (fold-append (λ (so_far : List Counted) (one : Sampled). counted one so_far) [] is.runs (run ∷ []));
  total = ap (λ (l : List Counted). sum_by (λ (c : Counted). c.times) l) to ∙ counted_once run before (let all = is.total in omega (arith, few, all)) ∙ ap (λ (n : ℕ). n + 1) is.total;
}

-- ---- runs that are counted one after the other

first_of : (spec : RoomSpec) (plan : Plan) (first count : ℕ) (run : Sampled) (runs : List Sampled) → AreRunsFrom spec plan first count (run ∷ runs) → IsRunOf spec plan first run
first_of spec plan first count run runs are = subst (λ (n : ℕ). IsRunOf spec plan n run) (omega arith) (are.drawn 0 run refl)

later_of : (spec : RoomSpec) (plan : Plan) (first count : ℕ) (run : Sampled) (runs : List Sampled) → AreRunsFrom spec plan first (suc count) (run ∷ runs) → AreRunsFrom spec plan (first + 1) count runs
later_of spec plan first count run runs are = record {
  length_is = let all = are.length_is in omega (arith, all);
  drawn = λ k one there. subst (λ (n : ℕ). IsRunOf spec plan n one) (omega arith) (are.drawn (suc k) one there);
}

-- many runs more
pub many_more : (spec : RoomSpec) (plan : Plan) (done count : ℕ) (before after : List Counted) (runs : List Sampled) → done + count < 4294967296 → IsSampleOf spec plan done before
    → AreRunsFrom spec plan done count runs → after ≡ fold (λ (so_far : List Counted) (run : Sampled). counted run so_far) before runs → IsSampleOf spec plan (done + count) after
many_more spec plan done zero before after [] few is are to = subst (λ (n : ℕ). IsSampleOf spec plan n after) (omega arith) (subst (IsSampleOf spec plan done) (sym to) is)
many_more spec plan done (suc count) before after [] few is are to = absurd (let none = are.length_is in omega (arith, none))
many_more spec plan done zero before after (run ∷ runs) few is are to = absurd (let none = are.length_is in omega (arith, none))
many_more spec plan done (suc count) before after (run ∷ runs) few is are to =
    subst (λ (n : ℕ). IsSampleOf spec plan n after) (omega arith)
    (many_more spec plan (done + 1) count (counted run before) after runs (omega (arith, few))
    (one_more spec plan done before (counted run before) run (omega (arith, few)) is (first_of spec plan done (suc count) run runs are) refl) (later_of spec plan done count run runs are) to)

-- ---- runs of two parts

pub no_runs : (spec : RoomSpec) (plan : Plan) (first : ℕ) → AreRunsFrom spec plan first 0 []
no_runs spec plan first = record { length_is = refl; drawn = λ k run there. absurd (let none : None ≡ Some run = there in cc) }

pub run_more : (spec : RoomSpec) (plan : Plan) (first count : ℕ) (runs : List Sampled) (run : Sampled) → AreRunsFrom spec plan first count runs
    → IsRunOf spec plan (first + count) run → AreRunsFrom spec plan first (count + 1) (runs ++ run ∷ [])
run_more spec plan first count runs run are drawn = record {
  length_is = length-append runs (run ∷ []) ∙ ap (λ (n : ℕ). n + 1) are.length_is;
  drawn = one_of (λ (k : ℕ) (one : Sampled). IsRunOf spec plan (first + k) one) runs run are.drawn
      (subst (λ (k : ℕ). IsRunOf spec plan (first + k) run) (sym are.length_is) drawn);
}

pub parts_run : (spec : RoomSpec) (plan : Plan) (first own left : ℕ) (runs more : List Sampled) → AreRunsFrom spec plan first own runs → AreRunsFrom spec plan (first + own) left more
    → AreRunsFrom spec plan first (own + left) (runs ++ more)
parts_run spec plan first zero left [] more are are' = record {
  length_is = let all : length more ≡ left = are'.length_is in omega (arith, all);
  drawn = λ k one there. subst (λ (n : ℕ). IsRunOf spec plan n one) (omega arith) (are'.drawn k one there);
}
parts_run spec plan first (suc own) left [] more are are' = absurd (let none = are.length_is in omega (arith, none))
parts_run spec plan first zero left (run ∷ runs) more are are' = absurd (let none = are.length_is in omega (arith, none))
parts_run spec plan first (suc own) left (run ∷ runs) more are are' =
    let rest = parts_run spec plan (first + 1) own left runs more (later_of spec plan first own run runs are) (subst (λ (n : ℕ). AreRunsFrom spec plan n left more) (omega arith) are') in
    record { length_is = let all = rest.length_is in omega (arith, all); drawn = by_place rest }
  where
    by_place : AreRunsFrom spec plan (first + 1) (own + left) (runs ++ more) → (k : ℕ) (one : Sampled) → slice_get (run ∷ (runs ++ more)) k ≡ Some one → IsRunOf spec plan (first + k) one
    by_place rest zero one there = are.drawn zero one there
    by_place rest (suc k) one there = subst (λ (n : ℕ). IsRunOf spec plan n one) (omega arith) (rest.drawn k one there)
