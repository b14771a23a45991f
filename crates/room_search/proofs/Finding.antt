-- The first of some numbers whose value passes a test.
use Rattle.std.proofs.Common.{◌≡◌, ℕ, zero, suc, ◌+◌, ◌<◌, ◌≤◌, inl, inr, Bool, true, false, cond, ltb, List, length, map, Some, None, refl, sym, ap, ◌∙◌, subst, arith}
use Rattle.std.specs.Prelude.{position}
use Rattle.std.specs.List.{find, position_or_len, range_with_len}
use Rattle.std.proofs.lemmas.Bool.{cases_eq, le-ltb, lt-ltb}
use Rattle.std.proofs.lemmas.List.FromFn.{get_or-map-range_with_len, length-map-range_with_len}
use Rattle.std.proofs.lemmas.List.Sums.{position_or_len_is}

pub first_found : {A : Type 0} (p : A → Bool) (f : ℕ → A) (from count i : ℕ) → from ≤ i → i < from + count → ((k : ℕ) → from ≤ k → k < i → p (f k) ≡ false) → p (f i) ≡ true → find p (map f (range_with_len from count)) ≡ Some (f i)
first_found p f from zero i first last before here = absurd (omega (arith, first, last))
first_found p f from (suc count) i first last before here = elim (cases_eq from i) [
  | inl same ↦ let is : p (f from) ≡ true = subst (λ (k : ℕ). p (f k) ≡ true) (sym same) here in rw is (ap (λ (k : ℕ). Some (f k)) same)
  | inr apart ↦
      let no : p (f from) ≡ false = before from (omega arith) (omega (arith, first, apart)) in
      rw no (first_found p f (from + 1) count i (omega (arith, first, apart)) (omega (arith, last)) (λ k later below. before k (omega (arith, later)) below) here)
]

pub none_found : {A : Type 0} (p : A → Bool) (f : ℕ → A) (from count : ℕ) → ((k : ℕ) → from ≤ k → k < from + count → p (f k) ≡ false) → find p (map f (range_with_len from count)) ≡ None
none_found p f from zero all = refl
none_found p f from (suc count) all =
    let no : p (f from) ≡ false = all from (omega arith) (omega arith) in
    rw no (none_found p f (from + 1) count (λ k later below. all k (omega (arith, later)) (omega (arith, below))))

-- ---- the place of the first

pub position_at : {A : Type 0} (p : A → Bool) (xs : List A) (i : ℕ) → position_or_len p xs ≡ i → i < length xs → position p xs ≡ Some i
position_at p xs i is less =
    ap (λ (j : ℕ). cond (ltb j (length xs)) (Some j) None) is ∙ ap (λ (b : Bool). cond b (Some i) None) (lt-ltb i (length xs) less)

pub no_position : {A : Type 0} (p : A → Bool) (xs : List A) → position_or_len p xs ≡ length xs → position p xs ≡ None
no_position p xs is =
    ap (λ (j : ℕ). cond (ltb j (length xs)) (Some j) None) is ∙ ap (λ (b : Bool). cond b (Some (length xs)) None) (le-ltb (length xs) (length xs) (omega arith))

pub places : {A : Type 0} (p : A → Bool) (f : ℕ → A) (m i : ℕ) → i < m → ((k : ℕ) → k < i → p (f k) ≡ false) → p (f i) ≡ true → position p (map f (range_with_len 0 m)) ≡ Some i
places p f m i less before here =
    let long = length-map-range_with_len f 0 m in
    position_at p (map f (range_with_len 0 m)) i
    (position_or_len_is p (map f (range_with_len 0 m)) i (f i) (omega arith)
    (λ k below. ap p (get_or-map-range_with_len f 0 m k k (f i) (omega arith) (omega arith)) ∙ before k below)
    (λ _. ap p (get_or-map-range_with_len f 0 m i i (f i) less (omega arith)) ∙ here))
    (omega arith)

pub no_place : {A : Type 0} (p : A → Bool) (f : ℕ → A) (m : ℕ) → ((k : ℕ) → k < m → p (f k) ≡ false) → position p (map f (range_with_len 0 m)) ≡ None
no_place p f m all =
    let long = length-map-range_with_len f 0 m in
    no_position p (map f (range_with_len 0 m))
    (position_or_len_is p (map f (range_with_len 0 m)) (length (map f (range_with_len 0 m))) (f 0) (omega arith)
    (λ k below. ap p (get_or-map-range_with_len f 0 m k k (f 0) (omega arith) (omega arith)) ∙ all k (omega arith))
    (λ less. absurd (omega arith)))
