-- One element of a list changed in its place.
use Rattle.std.proofs.Common.{◌≡◌, ℕ, zero, suc, List, [], ◌∷◌, ◌++◌, get_or, length, set, take, ap, refl}
use Rattle.view_draw.specs.Drawn.{changed_at}

pub set_changed : {A : Type 0} (change : A → A) (xs : List A) (i : ℕ) (x : A) → x ≡ get_or xs i x → set xs i (change x) ≡ changed_at change i xs
set_changed change [] i x is = refl
set_changed change (y ∷ ys) zero x is = ap (λ z. change z ∷ ys) is
set_changed change (y ∷ ys) (suc i) x is = ap (λ zs. y ∷ zs) (set_changed change ys i x is)

-- all but the last element
pub first_ones : {A : Type 0} (xs : List A) (x : A) → take (length xs) (xs ++ x ∷ []) ≡ xs
first_ones [] x = refl
first_ones (y ∷ ys) x = ap (λ zs. y ∷ zs) (first_ones ys x)
