-- One outcome more is written, or looked at.
use Rattle.std.proofs.Common.{◌≡◌, ℕ, zero, suc, ◌+◌, List, [], ◌∷◌, ◌++◌, Some, None, max, take, sym, ap, ◌∙◌, subst, arith}
use Rattle.std.specs.Prelude.{slice_get}
use Rattle.std.proofs.lemmas.List.Sums.{fold-append}
use Rattle.ws_history.specs.declared.states.ProcessState.{ProcessState}
use Rattle.room_sample.specs.Samples.{Counted}
use Rattle.view_sample.specs.Counts.{most_of}

same_some : {X : Type 0} (a b : X) → Some a ≡ Some b → a ≡ b
same_some a b is = cc

took_next : {X : Type 0} (xs : List X) (i : ℕ) (x : X) → slice_get xs i ≡ Some x → take (suc i) xs ≡ take i xs ++ x ∷ []
took_next [] i x there = absurd (let none : None ≡ Some x = there in cc)
took_next (y ∷ ys) zero x there = ap (λ z. z ∷ []) (same_some y x there)
took_next (y ∷ ys) (suc i) x there = ap (λ zs. y ∷ zs) (took_next ys i x there)

pub took : {X : Type 0} (xs : List X) (i : ℕ) (x : X) → slice_get xs i ≡ Some x → take (i + 1) xs ≡ take i xs ++ x ∷ []
took xs i x there =
    let next : suc i ≡ i + 1 = omega arith in
    subst (λ (n : ℕ). take n xs ≡ take i xs ++ x ∷ []) next (took_next xs i x there)

pub most_more : (count : List ProcessState → ℕ) (outcomes : List Counted) (i : ℕ) (one : Counted) (most after : ℕ) → most ≡ most_of count (take i outcomes) → slice_get outcomes i ≡ Some one → after ≡ max (count one.states) most → after ≡ most_of count (take (i + 1) outcomes)
most_more count outcomes i one most after so_far there is =
    is ∙ ap (max (count one.states)) so_far
    ∙ sym (fold-append (λ (most : ℕ) (other : Counted). max (count other.states) most) 0 (take i outcomes) (one ∷ []))
    ∙ ap (most_of count) (sym (took outcomes i one there))
