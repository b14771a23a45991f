-- The different values of a list, with one value more, and whether a value is among some.
use Rattle.std.proofs.Common.{◌≡◌, ◌≢◌, ℕ, ◌||◌, not, Bool, true, false, cond, eqb, List, [], ◌∷◌, ◌++◌, refl, sym, ap, ◌∙◌, inl, inr}
use Rattle.std.specs.List.{Contains, filter, list_any}
use mathlib.Core.Logic.{dite}
use native.Mathlib.Decide.{ℕ_discrete}
use Rattle.std.proofs.lemmas.Bool.{eq-eqb, eqb-true, ne_eqb}
use Rattle.std.proofs.lemmas.List.Elements.{filter-append}
use Rattle.transcript.specs.Tasks.{different}
use Rattle.transcript.proofs.Agreeing.{In, in_contains, contains_in, in_without, different_in}

-- ---- one value more

last_kept : (m e : Bool) (x v : ℕ) → eqb v x ≡ e → eqb x v ≡ e → filter (λ y. not (eqb y x)) (cond m [] (v ∷ [])) ≡ cond (eqb x v || m) [] (v ∷ [])
last_kept true true x v is is' = rw is' refl
last_kept true false x v is is' = rw is' refl
last_kept false true x v is is' = rw (is', is) refl
last_kept false false x v is is' = rw (is', is) refl

last_by : (m : Bool) (x v : ℕ) → filter (λ y. not (eqb y x)) (cond m [] (v ∷ [])) ≡ cond (eqb x v || m) [] (v ∷ [])
last_by m x v = dite (ℕ_discrete v x)
    (λ (e : v ≡ x). last_kept m true x v (eq-eqb v x e) (eq-eqb x v (sym e)))
    (λ (n : v ≢ x). last_kept m false x v (ne_eqb v x n) (ne_eqb x v (λ e. n (sym e))))

pub different-push : (xs : List ℕ) (v : ℕ) → different (xs ++ v ∷ []) ≡ different xs ++ cond (list_any (λ y. eqb y v) xs) [] (v ∷ [])
different-push [] v = refl
different-push (x ∷ xs) v =
    ap (λ (l : List ℕ). x ∷ filter (λ y. not (eqb y x)) l) (different-push xs v)
    ∙ ap (λ (l : List ℕ). x ∷ l) (filter-append (λ y. not (eqb y x)) (different xs) (cond (list_any (λ y. eqb y v) xs) [] (v ∷ [])))
    ∙ ap (λ (l : List ℕ). x ∷ filter (λ y. not (eqb y x)) (different xs) ++ l) (last_by (list_any (λ y. eqb y v) xs) x v)

-- ---- whether a value is among some

any_by : (v x : ℕ) (xs : List ℕ) (b : Bool) → eqb x v ≡ b → (In v xs → list_any (λ y. eqb y v) xs ≡ true) → In v (x ∷ xs) → (b || list_any (λ y. eqb y v) xs) ≡ true
any_by v x xs true is more at = refl
any_by v x xs false is more (inl e) = absurd (let wrong : false ≡ true = sym is ∙ eq-eqb x v e in cc)
any_by v x xs false is more (inr at) = more at

pub in_any : (v : ℕ) (xs : List ℕ) → In v xs → list_any (λ y. eqb y v) xs ≡ true
in_any v [] at = absurd at
in_any v (x ∷ xs) at = any_by v x xs (eqb x v) refl (λ more. in_any v xs more) at

from_by : (v x : ℕ) (xs : List ℕ) (b : Bool) → eqb x v ≡ b → (list_any (λ y. eqb y v) xs ≡ true → In v xs) → (b || list_any (λ y. eqb y v) xs) ≡ true → In v (x ∷ xs)
from_by v x xs true is more at = inl (eqb-true x v is)
from_by v x xs false is more at = inr (more at)

pub any_in : (v : ℕ) (xs : List ℕ) → list_any (λ y. eqb y v) xs ≡ true → In v xs
any_in v [] is = absurd cc
any_in v (x ∷ xs) is = from_by v x xs (eqb x v) refl (λ more. any_in v xs more) is

pub input_is : (v : ℕ) (inputs : List ℕ) → list_any (λ y. eqb y v) inputs ≡ true → Contains inputs v
input_is v inputs is = in_contains v inputs (any_in v inputs is)

pub no_input : (v : ℕ) (inputs : List ℕ) → list_any (λ y. eqb y v) inputs ≡ false → Contains inputs v → ⊥
no_input v inputs none at = absurd (let wrong : false ≡ true = sym none ∙ in_any v inputs (contains_in v inputs at) in cc)

pub in_different : (v : ℕ) (xs : List ℕ) → In v xs → In v (different xs)
in_different v [] at = at
in_different v (x ∷ xs) (inl e) = inl e
in_different v (x ∷ xs) (inr more) = dite (ℕ_discrete v x)
    (λ (e : v ≡ x). inl (sym e))
    (λ (n : v ≢ x). inr (in_without x v (different xs) n (in_different v xs more)))

same_bools : (b c : Bool) → (b ≡ true → c ≡ true) → (c ≡ true → b ≡ true) → b ≡ c
same_bools true true to from = refl
same_bools false false to from = refl
same_bools true false to from = sym (to refl)
same_bools false true to from = from refl

pub any_different : (v : ℕ) (xs : List ℕ) → list_any (λ y. eqb y v) (different xs) ≡ list_any (λ y. eqb y v) xs
any_different v xs = same_bools (list_any (λ y. eqb y v) (different xs)) (list_any (λ y. eqb y v) xs)
    (λ is. in_any v xs (different_in v xs (any_in v (different xs) is)))
    (λ is. in_any v (different xs) (in_different v xs (any_in v xs is)))
