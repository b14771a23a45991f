-- Lists made of pieces, one for each number.
use Rattle.std.proofs.Common.{◌≡◌, ◌∙◌, ℕ, ◌+◌, List, [], ◌∷◌, ◌++◌, fold, sym, ap, arith}
use Rattle.std.specs.List.{flat_map, range_with_len}
use Rattle.std.proofs.lemmas.List.{append-nil, append_assoc, map-id}
use Rattle.std.proofs.lemmas.List.Sums.{fold-append}
use Rattle.std.proofs.lemmas.List.Concat.{flat_map-append}
use Rattle.std.proofs.lemmas.List.FromFn.{map-range_with_len_more}

numbers_more : (i : ℕ) → range_with_len 0 (i + 1) ≡ range_with_len 0 i ++ i ∷ []
numbers_more i =
    sym (map-id (range_with_len 0 (i + 1))) ∙ map-range_with_len_more (λ k. k) 0 i i (omega arith) ∙ ap (λ (r : List ℕ). r ++ i ∷ []) (map-id (range_with_len 0 i))

one_more : {A : Type 0} (text : ℕ → List A) (i : ℕ) → flat_map text (range_with_len 0 (i + 1)) ≡ flat_map text (range_with_len 0 i) ++ text i
one_more {A} text i =
    ap (flat_map text) (numbers_more i) ∙ flat_map-append text (range_with_len 0 i) (i ∷ [])
    ∙ ap (λ (t : List A). flat_map text (range_with_len 0 i) ++ t) (append-nil (text i))

-- one piece more behind those of the first numbers
pub piece_more : {A : Type 0} (text : ℕ → List A) (start before after : List A) (i : ℕ) → before ≡ start ++ flat_map text (range_with_len 0 i) → after ≡ before ++ text i
    → after ≡ start ++ flat_map text (range_with_len 0 (i + 1))
piece_more {A} text start before after i so_far more =
    more ∙ ap (λ (b : List A). b ++ text i) so_far ∙ append_assoc start (flat_map text (range_with_len 0 i)) (text i) ∙ ap (λ (t : List A). start ++ t) (sym (one_more text i))

-- one number more after what was made of the first ones
pub folded_more : {A : Type 0} (step : A → ℕ → A) (start before after : A) (i : ℕ) → before ≡ fold step start (range_with_len 0 i) → after ≡ step before i
    → after ≡ fold step start (range_with_len 0 (i + 1))
folded_more {A} step start before after i so_far more =
    more ∙ ap (λ (a : A). step a i) so_far ∙ sym (ap (fold step start) (numbers_more i) ∙ fold-append step start (range_with_len 0 i) (i ∷ []))
