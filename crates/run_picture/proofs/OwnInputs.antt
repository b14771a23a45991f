-- The words of the own inputs of a reduction's simulators, one after the other.
use Rattle.std.proofs.Common.{◌≡◌, ◌∙◌, ℕ, zero, suc, ◌+◌, List, [], ◌∷◌, ◌++◌, take, decimal, Option, refl, sym, ap, arith, append_assoc, append-nil}
use Rattle.std.specs.Prelude.{slice_get}
use Rattle.std.specs.List.{flat_map}
use Rattle.run_picture.specs.Heads.{inputs_words, own_input}

abbrev word : ℕ → List ℕ
word input = 32 ∷ decimal input

one_more : (own : List ℕ) (i : ℕ) → flat_map word (take (suc i) own) ≡ flat_map word (take i own) ++ own_input (slice_get own i)
one_more [] zero = refl
one_more [] (suc i) = refl
one_more (x ∷ own) zero = append-nil _
one_more (x ∷ own) (suc i) =
    ap (λ (l : List ℕ). word x ++ l) (one_more own i) ∙ sym (append_assoc (word x) (flat_map word (take i own)) (own_input (slice_get own i)))

-- the input of one more simulator
pub one_more_own : (own : List ℕ) (i : ℕ) (start before after : List ℕ) (input : Option ℕ) → before ≡ start ++ inputs_words (take i own) → input ≡ slice_get own i
    → after ≡ before ++ own_input input → after ≡ start ++ inputs_words (take (i + 1) own)
unfolding inputs_words
one_more_own own i start before after input so_far is more =
    let next : suc i ≡ i + 1 = omega arith in
    more ∙ ap (λ (b : List ℕ). b ++ own_input input) so_far ∙ ap (λ (o : Option ℕ). (start ++ flat_map word (take i own)) ++ own_input o) is
    ∙ append_assoc start (flat_map word (take i own)) (own_input (slice_get own i)) ∙ ap (λ (l : List ℕ). start ++ l) (sym (one_more own i))
    ∙ ap (λ (n : ℕ). start ++ flat_map word (take n own)) next
