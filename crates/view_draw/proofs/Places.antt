-- The place of the one element of a list that passes a test, as the list changes.
use Rattle.std.proofs.Common.{◌≡◌, ℕ, zero, suc, ◌+◌, ◌<◌, Bool, true, false, cond, ltb, List, [], ◌∷◌, ◌++◌, length, Option, Some, None, refl, sym, ap, ◌∙◌, arith}
use Rattle.std.specs.List.{position, position_or_len}
use Rattle.std.specs.Prelude.{IfSome}
use Rattle.std.proofs.lemmas.Bool.{false_from_ne_true, lt-ltb, ltb-true}
use Rattle.view_draw.specs.Drawn.{IsPlace, changed_at}

pub place_within : {A : Type 0} (test : A → Bool) (xs : List A) (place : ℕ) → IsPlace (Some place) test xs → place < length xs
place_within test [] place is = absurd is
place_within test (x ∷ xs) zero is = omega arith
place_within test (x ∷ xs) (suc place) is = let less = place_within test xs place is.1 in omega (arith, less)

pub within_if : {A : Type 0} (test : A → Bool) (xs : List A) (place : Option ℕ) → IsPlace place test xs → IfSome place (λ found. found < length xs)
within_if test xs None is = tt
within_if test xs (Some place) is = place_within test xs place is

-- ---- it is the first

passes_first : {A : Type 0} (test : A → Bool) (x : A) (xs : List A) → test x ≡ true → position_or_len test (x ∷ xs) ≡ 0
passes_first test x xs is = rw is refl

passes_later : {A : Type 0} (test : A → Bool) (x : A) (xs : List A) → test x ≡ false → position_or_len test (x ∷ xs) ≡ 1 + position_or_len test xs
passes_later test x xs is = rw is refl

none_passes : {A : Type 0} (test : A → Bool) (xs : List A) → IsPlace None test xs → position_or_len test xs ≡ length xs
none_passes test [] is = refl
none_passes test (x ∷ xs) is = let first = passes_later test x xs is.0 in let rest = none_passes test xs is.1 in omega (arith, first, rest)

one_passes : {A : Type 0} (test : A → Bool) (xs : List A) (place : ℕ) → IsPlace (Some place) test xs → position_or_len test xs ≡ place
one_passes test [] place is = absurd is
one_passes test (x ∷ xs) zero is = passes_first test x xs is.0
one_passes test (x ∷ xs) (suc place) is = let first = passes_later test x xs is.0 in let rest = one_passes test xs place is.1 in omega (arith, first, rest)

not_below : (n : ℕ) → ltb n n ≡ false
not_below n = false_from_ne_true (ltb n n) (λ less. let below = ltb-true n n less in absurd (omega (arith, below)))

pub place_is : {A : Type 0} (test : A → Bool) (xs : List A) (place : Option ℕ) → IsPlace place test xs → position test xs ≡ place
place_is test xs None is =
    ap (λ (first : ℕ). cond (ltb first (length xs)) (Some first) None) (none_passes test xs is) ∙ ap (λ (b : Bool). cond b (Some (length xs)) None) (not_below (length xs))
place_is test xs (Some place) is =
    ap (λ (first : ℕ). cond (ltb first (length xs)) (Some first) None) (one_passes test xs place is)
    ∙ ap (λ (b : Bool). cond b (Some place) None) (lt-ltb place (length xs) (place_within test xs place is))

-- ---- an element more

pub place_pushed : {A : Type 0} (test : A → Bool) (xs : List A) (x : A) (place : Option ℕ) → test x ≡ false → IsPlace place test xs → IsPlace place test (xs ++ x ∷ [])
place_pushed test [] x None fails is = (fails, tt)
place_pushed test [] x (Some place) fails is = absurd is
place_pushed test (y ∷ ys) x None fails is = (is.0, place_pushed test ys x None fails is.1)
place_pushed test (y ∷ ys) x (Some zero) fails is = (is.0, place_pushed test ys x None fails is.1)
place_pushed test (y ∷ ys) x (Some (suc place)) fails is = (is.0, place_pushed test ys x (Some place) fails is.1)

pub first_pushed : {A : Type 0} (test : A → Bool) (xs : List A) (x : A) → test x ≡ true → IsPlace None test xs → IsPlace (Some (length xs)) test (xs ++ x ∷ [])
first_pushed test [] x passes is = (passes, tt)
first_pushed test (y ∷ ys) x passes is = (is.0, first_pushed test ys x passes is.1)

-- ---- an element changed

-- the test says the same of it
pub place_kept : {A : Type 0} (test : A → Bool) (change : A → A) → ((x : A) → test (change x) ≡ test x) → (xs : List A) (at : ℕ) (place : Option ℕ) → IsPlace place test xs → IsPlace place test (changed_at change at xs)
place_kept test change same [] at None is = tt
place_kept test change same [] at (Some place) is = absurd is
place_kept test change same (x ∷ xs) zero None is = (same x ∙ is.0, is.1)
place_kept test change same (x ∷ xs) zero (Some zero) is = (same x ∙ is.0, is.1)
place_kept test change same (x ∷ xs) zero (Some (suc place)) is = (same x ∙ is.0, is.1)
place_kept test change same (x ∷ xs) (suc at) None is = (is.0, place_kept test change same xs at None is.1)
place_kept test change same (x ∷ xs) (suc at) (Some zero) is = (is.0, place_kept test change same xs at None is.1)
place_kept test change same (x ∷ xs) (suc at) (Some (suc place)) is = (is.0, place_kept test change same xs at (Some place) is.1)

-- it no longer passes
pub place_gone : {A : Type 0} (test : A → Bool) (change : A → A) → ((x : A) → test (change x) ≡ false) → (xs : List A) (at : ℕ) → IsPlace (Some at) test xs → IsPlace None test (changed_at change at xs)
place_gone test change fails [] at is = absurd is
place_gone test change fails (x ∷ xs) zero is = (fails x, is.1)
place_gone test change fails (x ∷ xs) (suc at) is = (is.0, place_gone test change fails xs at is.1)

-- one that passes another test, and so not this one
pub place_aside : {A : Type 0} (test other : A → Bool) (change : A → A) → ((x : A) → test (change x) ≡ false) → ((x : A) → other x ≡ true → test x ≡ false) → (xs : List A) (at : ℕ) (place : Option ℕ)
    → IsPlace (Some at) other xs → IsPlace place test xs → IsPlace place test (changed_at change at xs)
place_aside test other change fails apart [] at place here is = absurd here
place_aside test other change fails apart (x ∷ xs) zero None here is = (fails x, is.1)
place_aside test other change fails apart (x ∷ xs) zero (Some zero) here is = absurd (let wrong : true ≡ false = sym is.0 ∙ apart x here.0 in cc)
place_aside test other change fails apart (x ∷ xs) zero (Some (suc place)) here is = (fails x, is.1)
place_aside test other change fails apart (x ∷ xs) (suc at) None here is = (is.0, place_aside test other change fails apart xs at None here.1 is.1)
place_aside test other change fails apart (x ∷ xs) (suc at) (Some zero) here is = (is.0, place_aside test other change fails apart xs at None here.1 is.1)
place_aside test other change fails apart (x ∷ xs) (suc at) (Some (suc place)) here is = (is.0, place_aside test other change fails apart xs at (Some place) here.1 is.1)
