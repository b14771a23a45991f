-- What `==` says of words, and of what simulators know.
use Rattle.std.proofs.Common.{◌≡◌, ℕ, Bool, true, false, not, eqb, List, [], ◌∷◌, refl}
use Rattle.std.proofs.lemmas.Bool.{and_parts, eqb-true}
use Rattle.std.specs.Cmp.Lexicographic.{pointwise}

pub same_words : (a b : List ℕ) → pointwise eqb a b ≡ true → a ≡ b
same_words [] [] h = refl
same_words [] (y ∷ ys) h = absurd cc
same_words (x ∷ xs) [] h = absurd cc
same_words (x ∷ xs) (y ∷ ys) h =
    let parts = and_parts (eqb x y) (pointwise eqb xs ys) h in
    let one = eqb-true x y parts.0 in
    let more = same_words xs ys parts.1 in
    λ i. one i ∷ more i

not_not : (x : Bool) → false ≡ not x → x ≡ true
not_not true h = refl
not_not false h = absurd cc

-- what `!=` says that is not so
pub words_stay : (a b : List ℕ) → false ≡ not (pointwise eqb a b) → a ≡ b
words_stay a b h = same_words a b (not_not (pointwise eqb a b) h)
