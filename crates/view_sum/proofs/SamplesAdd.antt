-- Parts that are samples of plans that follow each other add up to a sample of all.
use Rattle.std.proofs.Common.{◌≡◌, ◌∙◌, ℕ, ◌+◌, ◌%◌, ◌<◌, Bool, true, false, cond, min, List, [], ◌∷◌, Some, None, refl, sym, ap, ap₂, subst, arith}
use Rattle.std.specs.List.{fold, sum_by}
use Rattle.std.proofs.lemmas.List.Sums.{sum_by-cons}
use Rattle.room_spec.specs.Rooms.{RoomSpec}
use Rattle.ws_history.specs.declared.states.ProcessState.{ProcessState}
use Rattle.room_sample.specs.Parts.{added, added_all, more_times as more_counted}
use Rattle.room_sample.specs.Samples.{Counted, IsSampleOf, number_at, same_states}
use Rattle.room_sample.specs.Shown.{Shown}
use Rattle.room_sample.specs.declared.sampling.Plan.{Plan}
use Rattle.view_sum.specs.Adding.{pattern_by, with_outcomes, with_part}
use Rattle.view_sum.specs.Counts.{times_if, times_of}
use Rattle.view_sum.specs.Samples.{RoomSample, schedules_in}
use Rattle.view_sum.specs.Sampling.{ListSamples, ListsSample, counted_times, listed_times}
use Rattle.view_sum.specs.Sums.{DoEachFollow, DoesFollow, none_of, sum_of}
use Rattle.view_sum.proofs.Counting.{same_lists, withs_times}
use Rattle.view_sum.proofs.Joining.{withs_total}

abbrev pub AddUp : Type 0
AddUp = (spec : RoomSpec) (plan later_plan : Plan) (schedules more : ℕ) (outcomes later : List Counted) →
    plan.seed ≡ later_plan.seed → later_plan.from ≡ number_at plan schedules → plan.crashes ≡ later_plan.crashes → schedules + more < 4294967296 →
    IsSampleOf spec plan schedules outcomes → IsSampleOf spec later_plan more later →
    IsSampleOf spec plan (schedules + more) (added_all outcomes later)

total_cons : (one : Counted) (outcomes : List Counted) → sum_by {X = Counted} (λ c. c.times) (one ∷ outcomes) ≡ one.times + sum_by {X = Counted} (λ c. c.times) outcomes
total_cons one outcomes = sum_by-cons {X = Counted} (λ c. c.times) one outcomes

counted_cons : (states : List ProcessState) (one : Counted) (outcomes : List Counted) → counted_times states (one ∷ outcomes) ≡ cond (same_states states one.states) one.times 0 + counted_times states outcomes
counted_cons states one outcomes = sum_by-cons {X = Counted} (λ c. cond (same_states states c.states) c.times 0) one outcomes

-- ---- one more outcome is counted

-- no sum is cut off
total_by : (b : Bool) (one other : Counted) (others later : List Counted) → sum_by {X = Counted} (λ c. c.times) (other ∷ others) + one.times < 4294967296
    → (sum_by {X = Counted} (λ c. c.times) others + one.times < 4294967296 → sum_by {X = Counted} (λ c. c.times) later ≡ sum_by {X = Counted} (λ c. c.times) others + one.times)
    → sum_by {X = Counted} (λ c. c.times) (cond b (more_counted one.times other ∷ others) (other ∷ later)) ≡ sum_by {X = Counted} (λ c. c.times) (other ∷ others) + one.times
total_by true one other others later few is =
    let old = total_cons other others in
    let new = total_cons (more_counted one.times other) others in
    let whole : min (other.times + one.times) 4294967295 ≡ other.times + one.times = omega (arith, few, old) in
    omega (arith, old, new, whole)
total_by false one other others later few is =
    let old = total_cons other others in
    let new = total_cons other later in
    let rest = is (omega (arith, few, old)) in
    omega (arith, old, new, rest)

added_total : (one : Counted) (outcomes : List Counted) → sum_by {X = Counted} (λ c. c.times) outcomes + one.times < 4294967296 → sum_by {X = Counted} (λ c. c.times) (added one outcomes) ≡ sum_by {X = Counted} (λ c. c.times) outcomes + one.times
added_total one [] few =
    let new = total_cons one [] in
    let none : sum_by {X = Counted} (λ c. c.times) [] ≡ 0 = refl in
    omega (arith, new, none)
added_total one (other ∷ others) few = total_by (same_states one.states other.states) one other others (added one others) few (added_total one others)

same_as : (states : List ProcessState) (one other : Counted) → same_states one.states other.states ≡ true → same_states states other.states ≡ same_states states one.states
same_as states one other is = ap (λ (s : List ProcessState). same_states states s) (sym (same_lists one.states other.states is))

cut_by : (b : Bool) (n m k : ℕ) → n ≡ m + k → cond b n 0 ≡ cond b m 0 + cond b k 0
cut_by true n m k is = is
cut_by false n m k is = refl

times_by : (b : Bool) (states : List ProcessState) (one other : Counted) (others later : List Counted) → same_states one.states other.states ≡ b → sum_by {X = Counted} (λ c. c.times) (other ∷ others) + one.times < 4294967296
    → (sum_by {X = Counted} (λ c. c.times) others + one.times < 4294967296 → counted_times states later ≡ counted_times states others + cond (same_states states one.states) one.times 0)
    → counted_times states (cond b (more_counted one.times other ∷ others) (other ∷ later)) ≡ counted_times states (other ∷ others) + cond (same_states states one.states) one.times 0
times_by true states one other others later same few is =
    let total = total_cons other others in
    let whole : min (other.times + one.times) 4294967295 ≡ other.times + one.times = omega (arith, few, total) in
    let old = counted_cons states other others in
    let new = counted_cons states (more_counted one.times other) others in
    let both : cond (same_states states other.states) (min (other.times + one.times) 4294967295) 0 ≡ cond (same_states states other.states) other.times 0 + cond (same_states states one.states) one.times 0 =
    cut_by (same_states states other.states) (min (other.times + one.times) 4294967295) other.times one.times whole
    ∙ ap (λ (b : Bool). cond (same_states states other.states) other.times 0 + cond b one.times 0) (same_as states one other same) in
    omega (arith, old, new, both)
times_by false states one other others later same few is =
    let total = total_cons other others in
    let old = counted_cons states other others in
    let new = counted_cons states other later in
    let rest = is (omega (arith, few, total)) in
    omega (arith, old, new, rest)

added_times : (states : List ProcessState) (one : Counted) (outcomes : List Counted) → sum_by {X = Counted} (λ c. c.times) outcomes + one.times < 4294967296
    → counted_times states (added one outcomes) ≡ counted_times states outcomes + cond (same_states states one.states) one.times 0
added_times states one [] few =
    let new = counted_cons states one [] in
    let none : counted_times states [] ≡ 0 = refl in
    omega (arith, new, none)
added_times states one (other ∷ others) few = times_by (same_states one.states other.states) states one other others (added one others) refl few (added_times states one others)

all_times : (states : List ProcessState) (outcomes later : List Counted) → sum_by {X = Counted} (λ c. c.times) outcomes + sum_by {X = Counted} (λ c. c.times) later < 4294967296
    → counted_times states (added_all outcomes later) ≡ counted_times states outcomes + counted_times states later
all_times states outcomes [] few =
    let none : counted_times states [] ≡ 0 = refl in
    omega (arith, none)
all_times states outcomes (one ∷ later) few =
    let total = total_cons one later in
    let first : sum_by {X = Counted} (λ c. c.times) outcomes + one.times < 4294967296 = omega (arith, few, total) in
    let now = added_total one outcomes first in
    let rest = all_times states (added one outcomes) later (omega (arith, few, total, now)) in
    let here = added_times states one outcomes first in
    let all = counted_cons states one later in
    omega (arith, rest, here, all)

-- ---- outcomes that are listed

plain : (states : List ProcessState) → pattern_by false states ≡ states
plain [] = refl
plain (state ∷ states) = ap (λ (all : List ProcessState). state ∷ all) (plain states)

abbrev shown_with : List ProcessState → Shown
shown_with states = record { states = states; times = 0; first = 0; schedule = [] }

listed_cons : (states : List ProcessState) (one : Shown) (outcomes : List Shown) → listed_times states (one ∷ outcomes) ≡ cond (same_states states one.states) one.times 0 + listed_times states outcomes
listed_cons states one outcomes = sum_by-cons {X = Shown} (λ c. cond (same_states states c.states) c.times 0) one outcomes

listed_is : (states : List ProcessState) (outcomes : List Shown) → listed_times states outcomes ≡ times_of false (shown_with states) outcomes
listed_is states [] = refl
listed_is states (one ∷ outcomes) =
    let all = listed_cons states one outcomes in
    let other = sum_by-cons (times_if false (shown_with states)) one outcomes in
    let here : times_if false (shown_with states) one ≡ cond (same_states states one.states) one.times 0 =
    ap₂ (λ (a b : List ProcessState). cond (same_states a b) one.times 0) (plain states) (plain one.states) in
    let rest = listed_is states outcomes in
    omega (arith, all, other, here, rest)

withs_listed : (states : List ProcessState) (outcomes later : List Shown) → listed_times states (with_outcomes false outcomes later) ≡ listed_times states outcomes + listed_times states later
withs_listed states outcomes later =
    let both = withs_times false (shown_with states) outcomes later in
    let all = listed_is states (with_outcomes false outcomes later) in
    let before = listed_is states outcomes in
    let more = listed_is states later in
    omega (arith, both, all, before, more)

-- ---- one more part

module _ (spec : RoomSpec) (add : AddUp) where
  one_more : (so_far part : RoomSample) → so_far.how.grouped ≡ false → ListsSample spec so_far → ListsSample spec part → DoesFollow so_far part → ListsSample spec (with_part so_far part)
  one_more so_far part ungrouped lists more follows =
      let schedules = schedules_in so_far.outcomes in
      let few : schedules + schedules_in part.outcomes < 4294967296 = follows.few in
      let place : more.plan.from ≡ number_at lists.plan schedules =
      more.from ∙ small part.how.from more.fits ∙ ap (λ (n : ℕ). n % 4294967296) (follows.from ∙ ap (λ (n : ℕ). n + schedules) (sym lists.from)) in
      let sample = add spec lists.plan more.plan schedules (schedules_in part.outcomes) lists.outcomes more.outcomes (lists.seed ∙ follows.seed ∙ sym more.seed) place (lists.crashes ∙ follows.crashes ∙ sym more.crashes) few lists.sample more.sample in
      record {
        plan = lists.plan;
        crashes = lists.crashes;
        seed = lists.seed;
        from = lists.from;
        fits = lists.fits;
        outcomes = added_all lists.outcomes more.outcomes;
        sample = subst (λ (n : ℕ). IsSampleOf spec lists.plan n (added_all lists.outcomes more.outcomes)) (sym (withs_total so_far.how.grouped so_far.outcomes part.outcomes)) sample;
        times = λ states.
            let listed = ap (λ (g : Bool). listed_times states (with_outcomes g so_far.outcomes part.outcomes)) ungrouped ∙ withs_listed states so_far.outcomes part.outcomes in
            let counted = all_times states lists.outcomes more.outcomes (let one = lists.sample.total in let other = more.sample.total in omega (arith, few, one, other)) in
            let before = lists.times states in
            let later = more.times states in
            omega (arith, listed, counted, before, later);
      }
    where
      small : (n : ℕ) → n < 4294967296 → n ≡ n % 4294967296
      small n less = omega (arith, less)

  all_more : (so_far : RoomSample) (parts : List RoomSample) → so_far.how.grouped ≡ false → ListsSample spec so_far → ListSamples spec parts → DoEachFollow so_far parts → ListsSample spec (fold with_part so_far parts)
  all_more so_far [] ungrouped lists more follow = lists
  all_more so_far (part ∷ parts) ungrouped lists more follow = all_more (with_part so_far part) parts ungrouped (one_more so_far part ungrouped lists more.0 follow.0) more.1 follow.1

  none_yet : (first : RoomSample) → ListsSample spec first → ListsSample spec (none_of first)
  none_yet first lists = record {
    plan = lists.plan;
    crashes = lists.crashes;
    seed = lists.seed;
    from = lists.from;
    fits = lists.fits;
    outcomes = [];
    sample = record { runs = []; count = refl; drawn = λ k run there. absurd (let none : None ≡ Some run = there in cc); outcomes_are = refl; total = refl };
    times = λ states. refl;
  }

  pub samples_add : (first : RoomSample) (later : List RoomSample) → first.how.grouped ≡ false → ListSamples spec (first ∷ later) → DoEachFollow (none_of first) (first ∷ later) → ListsSample spec (sum_of first (first ∷ later))
  samples_add first later ungrouped lists follow = all_more (none_of first) (first ∷ later) ungrouped (none_yet first lists.0) lists follow
