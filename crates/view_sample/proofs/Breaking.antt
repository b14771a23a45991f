-- Outcomes that break a task, counted and found.
use Rattle.std.proofs.Common.{◌≡◌, ◌∙◌, ℕ, zero, suc, ◌+◌, ◌<◌, ◌≤◌, Bool, true, false, cond, not, List, [], ◌∷◌, Some, None, drop, take, refl, sym, ap, subst, arith}
use Rattle.std.specs.Prelude.{slice_get}
use Rattle.std.specs.List.{sum_by}
use Rattle.std.proofs.lemmas.List.Sums.{sum_by-append, sum_by-cons}
use Rattle.room_spec.specs.Rooms.{RoomSpec}
use Rattle.room_sample.specs.Samples.{Counted}
use Rattle.view_sample.specs.Tasks.{breaks_task, first_broken, keeps_task, times_broken, times_if_broken}
use Rattle.view_sample.proofs.Taking.{took}

few_of : (b : Bool) (n : ℕ) → cond b n 0 ≤ n
few_of true n = omega arith
few_of false n = omega arith

-- no more than there are
fewer : (spec : RoomSpec) (outcomes : List Counted) → times_broken spec outcomes ≤ sum_by (λ (c : Counted). c.times) outcomes
fewer spec [] = omega arith
fewer spec (one ∷ others) =
    let mine = sum_by-cons (times_if_broken spec) one others in
    let all = sum_by-cons (λ (c : Counted). c.times) one others in
    let here = few_of (breaks_task spec one) one.times in
    let later = fewer spec others in
    omega (arith, mine, all, here, later)

-- one more is summed up
pub one_summed : (f : Counted → ℕ) (outcomes : List Counted) (i : ℕ) (one : Counted) → slice_get outcomes i ≡ Some one → sum_by f (take (i + 1) outcomes) ≡ sum_by f (take i outcomes) + f one
one_summed f outcomes i one there =
    let more = sum_by-append f (take i outcomes) (one ∷ []) in
    let last = sum_by-cons f one [] in
    let next = ap (sum_by f) (took outcomes i one there) in
    omega (arith, more, last, next)

one_times : (spec : RoomSpec) (one : Counted) → times_broken spec (one ∷ []) ≡ times_if_broken spec one
one_times spec one = let mine = sum_by-cons (times_if_broken spec) one [] in omega (arith, mine)

-- one outcome more is counted
pub one_counted : (spec : RoomSpec) (outcomes : List Counted) (i : ℕ) (one : Counted) → slice_get outcomes i ≡ Some one → times_broken spec (take (i + 1) outcomes) ≡ times_broken spec (take i outcomes) + times_if_broken spec one
one_counted spec outcomes i one there =
    let more = sum_by-append (times_if_broken spec) (take i outcomes) (one ∷ []) in
    let last = one_times spec one in
    let next = ap (times_broken spec) (took outcomes i one there) in
    omega (arith, more, last, next)

first_some : (outcomes : List Counted) (i : ℕ) → sum_by (λ (c : Counted). c.times) (take i outcomes) ≤ sum_by (λ (c : Counted). c.times) outcomes
first_some [] i = let none : ◌≡◌ {A = List Counted} (take i []) [] = take_none i in let same = ap (sum_by (λ (c : Counted). c.times)) none in omega (arith, same)
  where
    take_none : (k : ℕ) → ◌≡◌ {A = List Counted} (take k []) []
    take_none zero = refl
    take_none (suc k) = refl
first_some (one ∷ others) zero = omega arith
first_some (one ∷ others) (suc i) =
    let mine = sum_by-cons (λ (c : Counted). c.times) one (take i others) in
    let all = sum_by-cons (λ (c : Counted). c.times) one others in
    let later = first_some others i in
    omega (arith, mine, all, later)

-- there is a number for them
pub small : (spec : RoomSpec) (outcomes : List Counted) (i : ℕ) (one : Counted) → sum_by (λ (c : Counted). c.times) outcomes < 4294967296 → slice_get outcomes i ≡ Some one → times_broken spec (take i outcomes) + times_if_broken spec one < 4294967296
small spec outcomes i one few there =
    let next = one_counted spec outcomes i one there in
    let some = fewer spec (take (i + 1) outcomes) in
    let all = first_some outcomes (i + 1) in
    omega (arith, next, some, all, few)

-- ---- the first one

same_some : (a b : Counted) → Some a ≡ Some b → a ≡ b
same_some a b is = cc

dropped : (outcomes : List Counted) (i : ℕ) (one : Counted) → slice_get outcomes i ≡ Some one → drop i outcomes ≡ one ∷ drop (suc i) outcomes
dropped [] i one there = absurd (let none : None ≡ Some one = there in cc)
dropped (first ∷ others) zero one there = ap (λ (c : Counted). c ∷ others) (same_some first one there)
dropped (first ∷ others) (suc i) one there = dropped others i one there

-- an outcome that keeps the task is passed over
pub passed_over : (spec : RoomSpec) (outcomes : List Counted) (i : ℕ) (one : Counted) → slice_get outcomes i ≡ Some one → keeps_task spec one.states ≡ true → first_broken spec outcomes ≡ first_broken spec (drop i outcomes) → first_broken spec outcomes ≡ first_broken spec (drop (i + 1) outcomes)
passed_over spec outcomes i one there kept so_far =
    let next : suc i ≡ i + 1 = omega arith in
    subst (λ (n : ℕ). first_broken spec outcomes ≡ first_broken spec (drop n outcomes)) next
    (so_far ∙ ap (first_broken spec) (dropped outcomes i one there) ∙ ap (λ (b : Bool). cond (not b) (Some one) (first_broken spec (drop (suc i) outcomes))) kept)

-- one that breaks it is the first
pub is_first : (spec : RoomSpec) (outcomes : List Counted) (i : ℕ) (one : Counted) → slice_get outcomes i ≡ Some one → keeps_task spec one.states ≡ false → first_broken spec outcomes ≡ first_broken spec (drop i outcomes) → Some one ≡ first_broken spec outcomes
is_first spec outcomes i one there broken so_far =
    sym (so_far ∙ ap (first_broken spec) (dropped outcomes i one there) ∙ ap (λ (b : Bool). cond (not b) (Some one) (first_broken spec (drop (suc i) outcomes))) broken)
