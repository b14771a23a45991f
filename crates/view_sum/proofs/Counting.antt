-- The sum of parts, outcome by outcome.
use Rattle.std.proofs.Common.{◌≡◌, ◌∙◌, ℕ, ◌+◌, Bool, true, false, ◌&&◌, cond, List, [], ◌∷◌, refl, sym, ap, ap₂, arith}
use Rattle.std.specs.List.{count_by, fold, sum_by}
use Rattle.std.proofs.lemmas.Bool.{eqb-true}
use Rattle.std.proofs.lemmas.List.Sums.{sum_by-cons}
use Rattle.ws_history.specs.contracts.states.ProcessStatePartialEq.TheImpl.{ghosts}
use Rattle.ws_history.specs.declared.states.ProcessState.{ProcessState}
use Rattle.ws_history.specs.declared.states.ProcessState.TheVariants.{Decided, Spent, Held, Going}
use Rattle.room_sample.specs.Samples.{same_states}
use Rattle.room_sample.specs.Shown.{Shown}
use Rattle.view_sum.specs.Adding.{is_same, more_times, pattern_by, with_outcome, with_outcomes, with_part}
use Rattle.view_sum.specs.Counts.{AreSumsOf, times_if, times_of}
use Rattle.view_sum.specs.Samples.{RoomSample, schedules_in}
use Rattle.view_sum.specs.Sums.{none_of, sum_of}
use Rattle.view_sum.proofs.Joining.{withs_total}

-- ---- two lists of states that compare as equal are one

same_state : (a b : ProcessState) → ghosts.eq a b ≡ true → a ≡ b
same_state (Decided v) (Decided w) is = ap Decided (eqb-true v w is)
same_state Spent Spent is = refl
same_state (Held i) (Held k) is = ap Held (eqb-true i k is)
same_state Going Going is = refl
same_state (Decided v) Spent is = absurd cc
same_state (Decided v) (Held k) is = absurd cc
same_state (Decided v) Going is = absurd cc
same_state Spent (Decided w) is = absurd cc
same_state Spent (Held k) is = absurd cc
same_state Spent Going is = absurd cc
same_state (Held i) (Decided w) is = absurd cc
same_state (Held i) Spent is = absurd cc
same_state (Held i) Going is = absurd cc
same_state Going (Decided w) is = absurd cc
same_state Going Spent is = absurd cc
same_state Going (Held k) is = absurd cc

both_true : (a b : Bool) → (a && b) ≡ true → (a ≡ true) × (b ≡ true)
both_true true b is = (refl, is)
both_true false b is = absurd cc

pub same_lists : (one other : List ProcessState) → same_states one other ≡ true → one ≡ other
same_lists [] [] is = refl
same_lists [] (b ∷ other) is = absurd cc
same_lists (a ∷ one) [] is = absurd cc
same_lists (a ∷ one) (b ∷ other) is =
    let parts = both_true (ghosts.eq a b) (same_states one other) is in
    ap₂ (λ (x : ProcessState) (xs : List ProcessState). x ∷ xs) (same_state a b parts.0) (same_lists one other parts.1)

-- what is the same as one of two outcomes that are the same is the same as the other
same_as_both : (grouped : Bool) (one other x : Shown) → is_same grouped one other ≡ true → is_same grouped x one ≡ is_same grouped x other
same_as_both grouped one other x is = ap (λ (states : List ProcessState). same_states (pattern_by grouped x.states) states) (same_lists (pattern_by grouped one.states) (pattern_by grouped other.states) is)

-- ---- how often an outcome came

times_cons : (grouped : Bool) (x one : Shown) (outcomes : List Shown) → times_of grouped x (one ∷ outcomes) ≡ times_if grouped x one + times_of grouped x outcomes
times_cons grouped x one outcomes = sum_by-cons (times_if grouped x) one outcomes

-- it came more often
more_counted : (b : Bool) (times more : ℕ) → cond b (times + more) 0 ≡ cond b times 0 + cond b more 0
more_counted true times more = refl
more_counted false times more = refl

more_if : (grouped : Bool) (x one other : Shown) → is_same grouped one other ≡ true → times_if grouped x (more_times one.times other) ≡ times_if grouped x other + times_if grouped x one
more_if grouped x one other is =
    more_counted (is_same grouped x other) other.times one.times
    ∙ ap (λ (b : Bool). times_if grouped x other + cond b one.times 0) (sym (same_as_both grouped one other x is))

times_by : (grouped b : Bool) (x one other : Shown) (others later : List Shown) → is_same grouped one other ≡ b → times_of grouped x later ≡ times_of grouped x others + times_if grouped x one
    → times_of grouped x (cond b (more_times one.times other ∷ others) (other ∷ later)) ≡ times_of grouped x (other ∷ others) + times_if grouped x one
times_by grouped true x one other others later is rest =
    let new = times_cons grouped x (more_times one.times other) others in
    let old = times_cons grouped x other others in
    let more = more_if grouped x one other is in
    omega (arith, new, old, more)
times_by grouped false x one other others later is rest =
    let new = times_cons grouped x other later in
    let old = times_cons grouped x other others in
    omega (arith, new, old, rest)

with_times : (grouped : Bool) (x one : Shown) (outcomes : List Shown) → times_of grouped x (with_outcome grouped one outcomes) ≡ times_of grouped x outcomes + times_if grouped x one
with_times grouped x one [] =
    let new = times_cons grouped x one [] in
    let none : times_of grouped x [] ≡ 0 = refl in
    omega (arith, new, none)
with_times grouped x one (other ∷ others) = times_by grouped (is_same grouped one other) x one other others (with_outcome grouped one others) refl (with_times grouped x one others)

pub withs_times : (grouped : Bool) (x : Shown) (outcomes later : List Shown) → times_of grouped x (with_outcomes grouped outcomes later) ≡ times_of grouped x outcomes + times_of grouped x later
withs_times grouped x outcomes [] =
    let none : times_of grouped x [] ≡ 0 = refl in
    omega (arith, none)
withs_times grouped x outcomes (one ∷ later) =
    let first = with_times grouped x one outcomes in
    let rest = withs_times grouped x (with_outcome grouped one outcomes) later in
    let all = times_cons grouped x one later in
    omega (arith, first, rest, all)

-- ---- no outcome is listed twice

count_cons : (grouped : Bool) (x one : Shown) (outcomes : List Shown) → count_by (is_same grouped x) (one ∷ outcomes) ≡ cond (is_same grouped x one) 1 0 + count_by (is_same grouped x) outcomes
count_cons grouped x one outcomes = sum_by-cons (λ y. cond (is_same grouped x y) 1 0) one outcomes

-- ---- all parts

module _ (grouped : Bool) (x : Shown) where
  times_in_all : (so_far : RoomSample) (parts : List RoomSample) → so_far.how.grouped ≡ grouped → times_of grouped x (fold with_part so_far parts).outcomes ≡ times_of grouped x so_far.outcomes + sum_by {X = RoomSample} (λ part. times_of grouped x part.outcomes) parts
  times_in_all so_far [] same =
      let none : sum_by {X = RoomSample} (λ part. times_of grouped x part.outcomes) [] ≡ 0 = refl in
      omega (arith, none)
  times_in_all so_far (part ∷ parts) same =
      let rest = times_in_all (with_part so_far part) parts same in
      let here = ap (λ (g : Bool). times_of grouped x (with_outcomes g so_far.outcomes part.outcomes)) same ∙ withs_times grouped x so_far.outcomes part.outcomes in
      let all = sum_by-cons {X = RoomSample} (λ part. times_of grouped x part.outcomes) part parts in
      omega (arith, rest, here, all)

schedules_in_all : (so_far : RoomSample) (parts : List RoomSample) → schedules_in (fold with_part so_far parts).outcomes ≡ schedules_in so_far.outcomes + sum_by {X = RoomSample} (λ part. schedules_in part.outcomes) parts
schedules_in_all so_far [] =
    let none : sum_by {X = RoomSample} (λ part. schedules_in part.outcomes) [] ≡ 0 = refl in
    omega (arith, none)
schedules_in_all so_far (part ∷ parts) =
    let rest = schedules_in_all (with_part so_far part) parts in
    let here = withs_total so_far.how.grouped so_far.outcomes part.outcomes in
    let all = sum_by-cons {X = RoomSample} (λ part. schedules_in part.outcomes) part parts in
    omega (arith, rest, here, all)

pub sums_of_parts : (first : RoomSample) (parts : List RoomSample) → AreSumsOf first.how.grouped parts (sum_of first parts).outcomes
sums_of_parts first parts = record {
  times = λ one. let all = times_in_all first.how.grouped one (none_of first) parts refl in all ∙ none_before (sum_by {X = RoomSample} (λ part. times_of first.how.grouped one part.outcomes) parts);
  schedules = let all = schedules_in_all (none_of first) parts in all ∙ none_before (sum_by {X = RoomSample} (λ part. schedules_in part.outcomes) parts);
}
  where
    none_before : (n : ℕ) → 0 + n ≡ n
    none_before n = omega arith
