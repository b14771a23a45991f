-- Outcomes that are counted in parts are the outcomes of all.
use Rattle.std.proofs.Common.{◌≡◌, ℕ, ◌+◌, ◌<◌, Bool, true, false, ◌||◌, cond, min, List, [], ◌∷◌, ◌++◌, refl, sym, ap, ◌∙◌, arith}
use Rattle.std.specs.List.{fold}
use Rattle.std.proofs.lemmas.List.Sums.{fold-append}
use Rattle.ws_history.specs.declared.states.ProcessState.{ProcessState}
use Rattle.room_spec.specs.Rooms.{RoomSpec}
use Rattle.room_sample.specs.Parts.{AreCountedFrom, added, added_all, more_times}
use Rattle.room_sample.specs.Samples.{Counted, IsRunOf, IsSampleOf, Sampled, counted, counted_all, first_time, once_more, same_states}
use Rattle.room_sample.specs.declared.sampling.Plan.{Plan}
use Rattle.room_sample.proofs.OneMore.{many_more, no_runs, parts_run, run_more}
use Rattle.room_sample.proofs.Shortening.{same_lists}

-- a run is counted as the outcome that came once
added_by : (run : Sampled) (one : Counted) (others : List Counted) (b : Bool) → added (first_time run) others ≡ counted run others
    → cond b (more_times 1 one ∷ others) (one ∷ added (first_time run) others) ≡ cond b (once_more one ∷ others) (one ∷ counted run others)
added_by run one others true later = refl
added_by run one others false later = ap (λ (all : List Counted). one ∷ all) later

added_first : (run : Sampled) (outcomes : List Counted) → added (first_time run) outcomes ≡ counted run outcomes
added_first run [] = refl
added_first run (one ∷ others) = added_by run one others (same_states run.states one.states) (added_first run others)

-- ---- outcomes that are there

-- an outcome of the same states is among these
abbrev is_there : Counted → List Counted → Bool
is_there x [] = false
is_there x (t ∷ ts) = same_states x.states t.states || is_there x ts

added_at : (x t : Counted) (ts : List Counted) (b : Bool) → same_states x.states t.states ≡ b → added x (t ∷ ts) ≡ cond b (more_times x.times t ∷ ts) (t ∷ added x ts)
added_at x t ts b is = ap (λ (c : Bool). cond c (more_times x.times t ∷ ts) (t ∷ added x ts)) is

or_later : (a b : Bool) → b ≡ true → (a || b) ≡ true
or_later true b is = refl
or_later false b is = is

stays_by : (x d t : Counted) (ts : List Counted) (e : Bool) → (same_states x.states t.states || is_there x ts) ≡ true → (is_there x ts ≡ true → is_there x (added d ts) ≡ true)
    → is_there x (cond e (more_times d.times t ∷ ts) (t ∷ added d ts)) ≡ true
stays_by x d t ts true there later = there
stays_by x d t ts false there later = by (same_states x.states t.states) there
  where
    by : (b : Bool) → (b || is_there x ts) ≡ true → (b || is_there x (added d ts)) ≡ true
    by true is = refl
    by false is = later is

stays_there : (x d : Counted) (outcomes : List Counted) → is_there x outcomes ≡ true → is_there x (added d outcomes) ≡ true
stays_there x d [] there = absurd cc
stays_there x d (t ∷ ts) there = stays_by x d t ts (same_states d.states t.states) there (stays_there x d ts)

comes_by : (x c t : Counted) (ts : List Counted) (e : Bool) → same_states x.states t.states ≡ e → is_there x (added c ts) ≡ true → is_there x (cond e (more_times c.times t ∷ ts) (t ∷ added c ts)) ≡ true
comes_by x c t ts true is later = ap (λ (b : Bool). b || is_there x ts) is
comes_by x c t ts false is later = or_later (same_states x.states t.states) (is_there x (added c ts)) later

comes_there : (x c : Counted) (outcomes : List Counted) → same_states x.states c.states ≡ true → is_there x (added c outcomes) ≡ true
comes_there x c [] same = ap (λ (b : Bool). b || false) same
comes_there x c (t ∷ ts) same =
    comes_by x c t ts (same_states c.states t.states) (ap (λ (states : List ProcessState). same_states states t.states) (same_lists x.states c.states same)) (comes_there x c ts same)

-- ---- one more in the later part

times_both : (a b c : ℕ) → min (a + min (b + c) 4294967295) 4294967295 ≡ min (min (a + b) 4294967295 + c) 4294967295
times_both a b c = omega arith

times_swap : (a b c : ℕ) → min (min (a + b) 4294967295 + c) 4294967295 ≡ min (min (a + c) 4294967295 + b) 4294967295
times_swap a b c = omega arith

abbrev with_times : Counted → ℕ → Counted
with_times one times = record { states = one.states; first = one.first; times = times }

twice_by : (x c t : Counted) (ts : List Counted) (e : Bool) → same_states x.states t.states ≡ e → added (more_times x.times c) ts ≡ added x (added c ts)
    → cond e (more_times (more_times x.times c).times t ∷ ts) (t ∷ added (more_times x.times c) ts) ≡ added x (cond e (more_times c.times t ∷ ts) (t ∷ added c ts))
twice_by x c t ts true is later = ap (λ (n : ℕ). with_times t n ∷ ts) (times_both t.times c.times x.times) ∙ sym (added_at x (more_times c.times t) ts true is)
twice_by x c t ts false is later = ap (λ (all : List Counted). t ∷ all) later ∙ sym (added_at x t (added c ts) false is)

-- an outcome that came in two parts
added_twice : (x c : Counted) (outcomes : List Counted) → same_states x.states c.states ≡ true → added (more_times x.times c) outcomes ≡ added x (added c outcomes)
added_twice x c [] same = sym (added_at x c [] true same)
added_twice x c (t ∷ ts) same =
    twice_by x c t ts (same_states c.states t.states) (ap (λ (states : List ProcessState). same_states states t.states) (same_lists x.states c.states same)) (added_twice x c ts same)

swaps_by : (x d t : Counted) (ts : List Counted) (b e : Bool) → same_states x.states t.states ≡ b → same_states d.states t.states ≡ e → (b || is_there x ts) ≡ true
    → (is_there x ts ≡ true → added x (added d ts) ≡ added d (added x ts))
    → added x (cond e (more_times d.times t ∷ ts) (t ∷ added d ts)) ≡ added d (cond b (more_times x.times t ∷ ts) (t ∷ added x ts))
swaps_by x d t ts true true is to there later =
    added_at x (more_times d.times t) ts true is ∙ ap (λ (n : ℕ). with_times t n ∷ ts) (times_swap t.times d.times x.times) ∙ sym (added_at d (more_times x.times t) ts true to)
swaps_by x d t ts true false is to there later = added_at x t (added d ts) true is ∙ sym (added_at d (more_times x.times t) ts false to)
swaps_by x d t ts false true is to there later = added_at x (more_times d.times t) ts false is ∙ sym (added_at d t (added x ts) true to)
swaps_by x d t ts false false is to there later = added_at x t (added d ts) false is ∙ ap (λ (all : List Counted). t ∷ all) (later there) ∙ sym (added_at d t (added x ts) false to)

-- the order doesn't matter if one of the two is there already
added_swaps : (x d : Counted) (outcomes : List Counted) → is_there x outcomes ≡ true → added x (added d outcomes) ≡ added d (added x outcomes)
added_swaps x d [] there = absurd cc
added_swaps x d (t ∷ ts) there = swaps_by x d t ts (same_states x.states t.states) (same_states d.states t.states) refl refl there (added_swaps x d ts)

added_past : (x : Counted) (later outcomes : List Counted) → is_there x outcomes ≡ true → added x (added_all outcomes later) ≡ added_all (added x outcomes) later
added_past x [] outcomes there = refl
added_past x (d ∷ later) outcomes there =
    added_past x later (added d outcomes) (stays_there x d outcomes there) ∙ ap (λ (all : List Counted). added_all all later) (added_swaps x d outcomes there)

more_by : (x c : Counted) (cs outcomes : List Counted) (b : Bool) → same_states x.states c.states ≡ b → added_all (added c outcomes) (added x cs) ≡ added x (added_all (added c outcomes) cs)
    → added_all outcomes (cond b (more_times x.times c ∷ cs) (c ∷ added x cs)) ≡ added x (added_all (added c outcomes) cs)
more_by x c cs outcomes true is later =
    ap (λ (all : List Counted). added_all all cs) (added_twice x c outcomes is) ∙ sym (added_past x cs (added c outcomes) (comes_there x c outcomes is))
more_by x c cs outcomes false is later = later

one_later : (x : Counted) (later outcomes : List Counted) → added_all outcomes (added x later) ≡ added x (added_all outcomes later)
one_later x [] outcomes = refl
one_later x (c ∷ later) outcomes = more_by x c later outcomes (same_states x.states c.states) refl (one_later x later (added c outcomes))

-- ---- runs in two parts

run_later : (run : Sampled) (later outcomes : List Counted) → added_all outcomes (counted run later) ≡ counted run (added_all outcomes later)
run_later run later outcomes =
    sym (ap (added_all outcomes) (added_first run later)) ∙ one_later (first_time run) later outcomes ∙ added_first run (added_all outcomes later)

abbrev counted_after : List Counted → List Sampled → List Counted
counted_after outcomes runs = fold (λ (so_far : List Counted) (run : Sampled). counted run so_far) outcomes runs

runs_later : (runs : List Sampled) (later outcomes : List Counted) → added_all outcomes (counted_after later runs) ≡ counted_after (added_all outcomes later) runs
runs_later [] later outcomes = refl
runs_later (run ∷ runs) later outcomes = runs_later runs (counted run later) outcomes ∙ ap (λ (all : List Counted). counted_after all runs) (run_later run later outcomes)

-- a list of runs is counted in two parts
pub counted_in_parts : (runs : List Sampled) (outcomes : List Counted) → added_all outcomes (counted_all runs) ≡ counted_after outcomes runs
counted_in_parts runs outcomes = runs_later runs [] outcomes

pub none_counted : (spec : RoomSpec) (plan : Plan) (first : ℕ) → AreCountedFrom spec plan first 0 []
none_counted spec plan first = record { runs = []; are_runs = no_runs spec plan first; outcomes_are = refl }

one_counted : (spec : RoomSpec) (plan : Plan) (first count : ℕ) (before after : List Counted) (run : Sampled) → AreCountedFrom spec plan first count before
    → IsRunOf spec plan (first + count) run → after ≡ counted run before → AreCountedFrom spec plan first (count + 1) after
one_counted spec plan first count before after run are drawn to = record {
  runs = are.runs ++ run ∷ [];
  are_runs = run_more spec plan first count are.runs run are.are_runs drawn;
  outcomes_are = to ∙ ap (counted run) are.outcomes_are ∙ sym (fold-append (λ (so_far : List Counted) (one : Sampled). counted one so_far) [] are.runs (run ∷ []));
}

-- a run that is added as an outcome that came once
pub one_added : (spec : RoomSpec) (plan : Plan) (first count : ℕ) (before after : List Counted) (run : Sampled) → AreCountedFrom spec plan first count before
    → IsRunOf spec plan (first + count) run → after ≡ added (first_time run) before → AreCountedFrom spec plan first (count + 1) after
one_added spec plan first count before after run are drawn to = one_counted spec plan first count before after run are drawn (to ∙ added_first run before)

pub parts_counted : (spec : RoomSpec) (plan : Plan) (first own left : ℕ) (outcomes later all : List Counted) → AreCountedFrom spec plan first own outcomes → AreCountedFrom spec plan (first + own) left later
    → all ≡ added_all outcomes later → AreCountedFrom spec plan first (own + left) all
parts_counted spec plan first own left outcomes later all are are' to = record {
  runs = are.runs ++ are'.runs;
  are_runs = parts_run spec plan first own left are.runs are'.runs are.are_runs are'.are_runs;
  outcomes_are = to ∙ ap (λ (l : List Counted). added_all l later) are.outcomes_are ∙ ap (added_all (counted_all are.runs)) are'.outcomes_are ∙ counted_in_parts are'.runs (counted_all are.runs)
      ∙ sym (fold-append (λ (so_far : List Counted) (one : Sampled). counted one so_far) [] are.runs are'.runs);
}

-- and a part more of a sample
pub part_more : (spec : RoomSpec) (plan : Plan) (done count : ℕ) (before later after : List Counted) → done + count < 4294967296 → IsSampleOf spec plan done before
    → AreCountedFrom spec plan done count later → after ≡ added_all before later → IsSampleOf spec plan (done + count) after
part_more spec plan done count before later after few is are to =
    many_more spec plan done count before after are.runs few is are.are_runs (to ∙ ap (added_all before) are.outcomes_are ∙ counted_in_parts are.runs before)
