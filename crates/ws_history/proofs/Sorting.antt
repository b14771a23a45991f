-- Snapshots in order are in strictly rising order, and are those that were given.
use Rattle.std.proofs.Common.{◌≡◌, ◌⊎◌, ℕ, zero, suc, ◌+◌, ◌<◌, ◌≤◌, Bool, true, false, cond, eqb, ltb, List, [], ◌∷◌, ◌++◌, sum, fold, Contains, refl, sym, ap, ◌∙◌, subst, arith, inl, inr}
use Rattle.std.specs.Prelude.{⊤, ◌&&◌, ◌||◌, MatchBool}
use Rattle.std.proofs.lemmas.Bool.{cases_lt, eqb-true, eqb-false, ltb-true, ltb-false}
use Rattle.std.proofs.lemmas.List.Elements.{Contains-append_left, Contains-append_right, Contains-append_cases}
use Rattle.ws_history.specs.Histories.{Snapshot, Source, row_of, IsBefore, IsRising}
use Rattle.ws_history.specs.Orders.{inserted, in_order, is_before, passed_of, all_passed, IsPassed}
use Rattle.ws_history.proofs.Order.{snapshot_at, not_empty, cons_cases, cons_first, cons_rest}

-- ---- the test

abbrev pub IsAlike : Source → Snapshot → Snapshot → Type 0
IsAlike src s t = (sum (row_of src s) ≡ sum (row_of src t)) × (s.process ≡ t.process)

by_both : (a b c d : ℕ) (x y z : Bool) → ltb a b ≡ x → eqb a b ≡ y → ltb c d ≡ z
    → MatchBool (x || (y && z)) ((a < b) ⊎ ((a ≡ b) × (c < d))) (((a ≡ b) × (c ≡ d)) ⊎ ((b < a) ⊎ ((b ≡ a) × (d < c))))
by_both a b c d true y z less same lower = inl (ltb-true a b less)
by_both a b c d false true true less same lower = inr (eqb-true a b same, ltb-true c d lower)
by_both a b c d false true false less same lower =
    let high = ltb-false c d lower in
    let is = eqb-true a b same in
    elim (cases_lt d c) [ inl behind ↦ inr (inr (sym is, behind)) | inr low ↦ inl (is, omega arith) ]
by_both a b c d false false z less same lower =
    let high = ltb-false a b less in
    let other = eqb-false a b same in
    inr (inl (omega arith))

-- how two snapshots stand to each other, by the test
abbrev pub Stand : Source → Snapshot → Snapshot → Bool → Type 0
Stand src s t b = MatchBool b (IsBefore src s t) (IsAlike src s t ⊎ IsBefore src t s)

pub stand : (src : Source) (s t : Snapshot) → Stand src s t (is_before src.row s t)
stand src s t = by_both (sum (row_of src s)) (sum (row_of src t)) s.process t.process _ _ _ refl refl refl

through : (src : Source) (s t u : Snapshot) → IsBefore src s t → IsBefore src t u → IsBefore src s u
through src s t u (inl less) (inl more) = inl (omega arith)
through src s t u (inl less) (inr more) = inl (omega (arith, more.0))
through src s t u (inr less) (inl more) = inl (omega (arith, less.0))
through src s t u (inr less) (inr more) = inr (less.0 ∙ more.0, omega (arith, less.1, more.1))

-- ---- one more, before or behind the first of a list

from_put : (s t u : Snapshot) (rest behind : List Snapshot) (b : Bool) → (Contains behind u → (s ≡ u) ⊎ Contains rest u)
    → Contains (cond b (s ∷ t ∷ rest) (t ∷ behind)) u → (s ≡ u) ⊎ Contains (t ∷ rest) u
from_put s t u rest behind true more has = cons_cases s (t ∷ rest) u has
from_put s t u rest behind false more has = elim (cons_cases t behind u has) [
  | inl is ↦ inr (subst (Contains (t ∷ rest)) is (cons_first t rest))
  | inr later ↦ elim (more later) [ inl new ↦ inl new | inr old ↦ inr (cons_rest t rest u old) ]
]

pub from_inserted : (row : ℕ → ℕ → List ℕ) (xs : List Snapshot) (s u : Snapshot) → Contains (inserted row xs s) u → (s ≡ u) ⊎ Contains xs u
from_inserted row [] s u has = cons_cases s [] u has
from_inserted row (t ∷ rest) s u has = from_put s t u rest (inserted row rest s) (is_before row s t) (from_inserted row rest s u) has

to_put : (s t u : Snapshot) (rest behind : List Snapshot) (b : Bool) → ((s ≡ u) ⊎ Contains rest u → Contains behind u)
    → (s ≡ u) ⊎ Contains (t ∷ rest) u → Contains (cond b (s ∷ t ∷ rest) (t ∷ behind)) u
to_put s t u rest behind true more (inl is) = subst (Contains (s ∷ t ∷ rest)) is (cons_first s (t ∷ rest))
to_put s t u rest behind true more (inr old) = cons_rest s (t ∷ rest) u old
to_put s t u rest behind false more (inl is) = cons_rest t behind u (more (inl is))
to_put s t u rest behind false more (inr old) = elim (cons_cases t rest u old) [
  | inl it ↦ subst (Contains (t ∷ behind)) it (cons_first t behind)
  | inr later ↦ cons_rest t behind u (more (inr later))
]

to_inserted : (row : ℕ → ℕ → List ℕ) (xs : List Snapshot) (s u : Snapshot) → (s ≡ u) ⊎ Contains xs u → Contains (inserted row xs s) u
to_inserted row [] s u (inl is) = subst (Contains (s ∷ [])) is (cons_first s [])
to_inserted row [] s u (inr none) = absurd (not_empty u none)
to_inserted row (t ∷ rest) s u has = to_put s t u rest (inserted row rest s) (is_before row s t) (to_inserted row rest s u) has

rising_put : (src : Source) (s t : Snapshot) (rest behind : List Snapshot) (b : Bool) → Stand src s t b → (IsAlike src s t → ⊥) → IsRising src (t ∷ rest) → IsRising src behind → ((u : Snapshot) → Contains behind u → (s ≡ u) ⊎ Contains rest u)
    → IsRising src (cond b (s ∷ t ∷ rest) (t ∷ behind))
rising_put src s t rest behind true before other rising after from = (
  λ u has. elim (cons_cases t rest u has) [ inl is ↦ subst (IsBefore src s) is before | inr more ↦ through src s t u before (rising.0 u more) ],
  rising,
)
rising_put src s t rest behind false (inl alike) other rising after from = absurd (other alike)
rising_put src s t rest behind false (inr before) other rising after from = (
  λ u has. elim (from u has) [ inl is ↦ subst (IsBefore src t) is before | inr more ↦ rising.0 u more ],
  after,
)

rising_inserted : (src : Source) (xs : List Snapshot) (s : Snapshot) → ((t : Snapshot) → Contains xs t → IsAlike src s t → ⊥) → IsRising src xs → IsRising src (inserted src.row xs s)
rising_inserted src [] s other rising = (λ t has. absurd (not_empty t has), tt)
rising_inserted src (t ∷ rest) s other rising =
    rising_put src s t rest (inserted src.row rest s) (is_before src.row s t) (stand src s t) (other t (cons_first t rest)) rising
    (rising_inserted src rest s (λ u has. other u (cons_rest t rest u has)) rising.1) (from_inserted src.row rest s)

-- ---- all of them, behind those that are there

from_fold : (row : ℕ → ℕ → List ℕ) (xs done : List Snapshot) (u : Snapshot) → Contains (fold (inserted row) done xs) u → Contains done u ⊎ Contains xs u
from_fold row [] done u has = inl has
from_fold row (s ∷ xs) done u has = elim (from_fold row xs (inserted row done s) u has) [
  | inl there ↦ elim (from_inserted row done s u there) [ inl is ↦ inr (subst (Contains (s ∷ xs)) is (cons_first s xs)) | inr old ↦ inl old ]
  | inr more ↦ inr (cons_rest s xs u more)
]

pub from_order : (row : ℕ → ℕ → List ℕ) (xs : List Snapshot) (u : Snapshot) → Contains (in_order row xs) u → Contains xs u
from_order row xs u has = elim (from_fold row xs [] u has) [ inl none ↦ absurd (not_empty u none) | inr is ↦ is ]

to_fold : (row : ℕ → ℕ → List ℕ) (xs done : List Snapshot) (u : Snapshot) → Contains done u ⊎ Contains xs u → Contains (fold (inserted row) done xs) u
to_fold row [] done u (inl has) = has
to_fold row [] done u (inr none) = absurd (not_empty u none)
to_fold row (s ∷ xs) done u (inl has) = to_fold row xs (inserted row done s) u (inl (to_inserted row done s u (inr has)))
to_fold row (s ∷ xs) done u (inr has) = to_fold row xs (inserted row done s) u (elim (cons_cases s xs u has) [
  | inl is ↦ inl (to_inserted row done s u (inl is))
  | inr more ↦ inr more
])

pub to_order : (row : ℕ → ℕ → List ℕ) (xs : List Snapshot) (u : Snapshot) → Contains xs u → Contains (in_order row xs) u
to_order row xs u has = to_fold row xs [] u (inr has)

-- two with the same sum and process are one
abbrev pub AreApart : Source → List Snapshot → Type 0
AreApart src xs = (s t : Snapshot) → Contains xs s → Contains xs t → sum (row_of src s) ≡ sum (row_of src t) → s.process ≡ t.process → s ≡ t

-- none stands there twice
abbrev pub AreDifferent : List Snapshot → Type 0
AreDifferent [] = ⊤
AreDifferent (s ∷ rest) = ((t : Snapshot) → Contains rest t → s ≡ t → ⊥) × AreDifferent rest

rising_fold : (src : Source) (xs done : List Snapshot) → AreApart src xs → AreDifferent xs → ((s t : Snapshot) → Contains xs s → Contains done t → IsAlike src s t → ⊥)
    → IsRising src done → IsRising src (fold (inserted src.row) done xs)
rising_fold src [] done apart different other rising = rising
rising_fold src (s ∷ xs) done apart different other rising =
    rising_fold src xs (inserted src.row done s) (λ u t has_u has_t. apart u t (cons_rest s xs u has_u) (cons_rest s xs t has_t)) different.1
    (λ u t has_u has_t alike. elim (from_inserted src.row done s t has_t) [
      | inl is ↦
          let there = cons_rest s xs u has_u in
          let to_s = subst (λ (v : Snapshot). IsAlike src u v) (sym is) alike in
          different.0 u has_u (sym (apart u s there (cons_first s xs) to_s.0 to_s.1))
      | inr old ↦ other u t (cons_rest s xs u has_u) old alike
    ])
    (rising_inserted src done s (λ t has. other s t (cons_first s xs) has) rising)

pub rising_in_order : (src : Source) (xs : List Snapshot) → AreApart src xs → AreDifferent xs → IsRising src (in_order src.row xs)
rising_in_order src xs apart different = rising_fold src xs [] apart different (λ s t has none. absurd (not_empty t none)) tt

-- ---- the agreements that are passed

pub if_there : (b : Bool) (s u : Snapshot) → Contains (cond b (s ∷ []) []) u → (b ≡ true) × (s ≡ u)
if_there true s u has = elim (cons_cases s [] u has) [ inl is ↦ (refl, is) | inr none ↦ absurd (not_empty u none) ]
if_there false s u has = absurd (not_empty u has)

pub from_passed_of : (passed : ℕ → ℕ → Bool) (p rounds : ℕ) (u : Snapshot) → Contains (passed_of passed p rounds) u → (u.process ≡ p) × (1 ≤ u.round) × (u.round ≤ rounds) × (passed u.process u.round ≡ true)
from_passed_of passed p zero u has = absurd (not_empty u has)
from_passed_of passed p (suc rounds) u has = elim (Contains-append_cases (passed_of passed p rounds) (cond (passed p (rounds + 1)) (snapshot_at p (rounds + 1) ∷ []) []) u has) [
  | inl old ↦ let so_far = from_passed_of passed p rounds u old in (so_far.0, so_far.1, omega (arith, so_far.2), so_far.3)
  | inr new ↦
      let is = if_there (passed p (rounds + 1)) (snapshot_at p (rounds + 1)) u new in
      let round : rounds + 1 ≡ u.round = ap (λ (v : Snapshot). v.round) is.1 in
      (sym (ap (λ (v : Snapshot). v.process) is.1), omega arith, omega arith, subst (λ (v : Snapshot). passed v.process v.round ≡ true) is.1 is.0)
]

to_passed_of : (passed : ℕ → ℕ → Bool) (rounds : ℕ) (u : Snapshot) → 1 ≤ u.round → u.round ≤ rounds → passed u.process u.round ≡ true → Contains (passed_of passed u.process rounds) u
to_passed_of passed zero u pos within is = absurd (omega arith)
to_passed_of passed (suc rounds) u pos within is =
    let p = u.process in
    let new : List Snapshot = cond (passed p (rounds + 1)) (snapshot_at p (rounds + 1) ∷ []) [] in
    elim (cases_lt rounds u.round) [
      | inl last ↦
          let round : u.round ≡ rounds + 1 = omega arith in
          let there : passed p (rounds + 1) ≡ true = subst (λ (r : ℕ). passed p r ≡ true) round is in
          let it_is : snapshot_at p (rounds + 1) ≡ u = ap (snapshot_at p) (sym round) in
          Contains-append_right (passed_of passed p rounds) new u (rw there (subst (Contains (snapshot_at p (rounds + 1) ∷ [])) it_is (cons_first (snapshot_at p (rounds + 1)) [])))
      | inr before ↦ Contains-append_left (passed_of passed p rounds) new u (to_passed_of passed rounds u pos before is)
    ]

pub from_passed : (passed : ℕ → ℕ → Bool) (n rounds : ℕ) (u : Snapshot) → Contains (all_passed passed n rounds) u → IsPassed passed n rounds u
from_passed passed zero rounds u has = absurd (not_empty u has)
from_passed passed (suc n) rounds u has = elim (Contains-append_cases (all_passed passed n rounds) (passed_of passed n rounds) u has) [
  | inl old ↦ let so_far = from_passed passed n rounds u old in let low = so_far.process in record { process = omega arith; positive = so_far.positive; within = so_far.within; is = so_far.is }
  | inr new ↦ let parts = from_passed_of passed n rounds u new in record { process = omega (arith, parts.0); positive = parts.1; within = parts.2; is = parts.3 }
]

pub to_passed : (passed : ℕ → ℕ → Bool) (n rounds : ℕ) (u : Snapshot) → IsPassed passed n rounds u → Contains (all_passed passed n rounds) u
to_passed passed zero rounds u is = absurd (let low = is.process in omega arith)
to_passed passed (suc n) rounds u is = elim (cases_lt u.process n) [
  | inl low ↦ Contains-append_left (all_passed passed n rounds) (passed_of passed n rounds) u (to_passed passed n rounds u (record { process = low; positive = is.positive; within = is.within; is = is.is }))
  | inr high ↦
      let low = is.process in
      let p : u.process ≡ n = omega arith in
      Contains-append_right (all_passed passed n rounds) (passed_of passed n rounds) u (subst (λ (q : ℕ). Contains (passed_of passed q rounds) u) p (to_passed_of passed rounds u is.positive is.within is.is))
]

-- ---- no snapshot is found twice

different_append : (xs ys : List Snapshot) → AreDifferent xs → AreDifferent ys → ((s t : Snapshot) → Contains xs s → Contains ys t → s ≡ t → ⊥) → AreDifferent (xs ++ ys)
different_append [] ys first second other = second
different_append (s ∷ xs) ys first second other = (
  λ t has is. elim (Contains-append_cases xs ys t has) [ inl old ↦ first.0 t old is | inr new ↦ other s t (cons_first s xs) new is ],
  different_append xs ys first.1 second (λ u t has. other u t (cons_rest s xs u has)),
)

different_if : (s : Snapshot) (b : Bool) → AreDifferent (cond b (s ∷ []) [])
different_if s true = (λ t has is. absurd (not_empty t has), tt)
different_if s false = tt

different_rounds : (passed : ℕ → ℕ → Bool) (p rounds : ℕ) → AreDifferent (passed_of passed p rounds)
different_rounds passed p zero = tt
different_rounds passed p (suc rounds) =
    let new : Snapshot = record { process = p; round = rounds + 1 } in
    different_append (passed_of passed p rounds) (cond (passed p (rounds + 1)) (new ∷ []) []) (different_rounds passed p rounds) (different_if new (passed p (rounds + 1))) (λ s t has_s has_t is.
    let low = (from_passed_of passed p rounds s has_s).2 in
    let high : rounds + 1 ≡ t.round = ap (λ (u : Snapshot). u.round) (if_there (passed p (rounds + 1)) new t has_t).1 in
    let same : s.round ≡ t.round = ap (λ (u : Snapshot). u.round) is in
    absurd (omega arith))

pub different_passed : (passed : ℕ → ℕ → Bool) (n rounds : ℕ) → AreDifferent (all_passed passed n rounds)
different_passed passed zero rounds = tt
different_passed passed (suc n) rounds =
    different_append (all_passed passed n rounds) (passed_of passed n rounds) (different_passed passed n rounds) (different_rounds passed n rounds) (λ s t has_s has_t is.
    let low = (from_passed passed n rounds s has_s).process in
    let high : t.process ≡ n = (from_passed_of passed n rounds t has_t).0 in
    let same : s.process ≡ t.process = ap (λ (u : Snapshot). u.process) is in
    absurd (omega arith))
