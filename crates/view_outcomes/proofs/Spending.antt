-- The processes that can be spent, number by number.
use Rattle.std.proofs.Common.{◌≡◌, ◌∙◌, ℕ, ◌+◌, Bool, List, [], ◌∷◌, ◌++◌, map, sym, ap, arith}
use Rattle.std.specs.List.{filter, range_with_len}
use Rattle.std.proofs.lemmas.List.{map-append, map-id}
use Rattle.std.proofs.lemmas.List.Elements.{filter-append}
use Rattle.std.proofs.lemmas.List.FromFn.{map-range_with_len_more}

-- one number more
range_more : (i : ℕ) → range_with_len 0 (i + 1) ≡ range_with_len 0 i ++ i ∷ []
range_more i = sym (map-id (range_with_len 0 (i + 1))) ∙ map-range_with_len_more (λ (j : ℕ). j) 0 i i (omega arith) ∙ ap (λ (all : List ℕ). all ++ i ∷ []) (map-id (range_with_len 0 i))

-- what is written of the first numbers at which the test gives true, and of the next one
pub one_number_more : {A B : Type 0} (view : A → B) (of : ℕ → B) (p : ℕ → Bool) (before after : List A) (i : ℕ) → map view before ≡ map of (filter p (range_with_len 0 i))
    → map view after ≡ map view before ++ map of (filter p (i ∷ [])) → map view after ≡ map of (filter p (range_with_len 0 (i + 1)))
one_number_more view of p before after i so_far more =
    more
    ∙ ap (λ all. all ++ map of (filter p (i ∷ []))) so_far
    ∙ sym (map-append of (filter p (range_with_len 0 i)) (filter p (i ∷ [])))
    ∙ ap (map of) (sym (filter-append p (range_with_len 0 i) (i ∷ [])))
    ∙ ap (λ (all : List ℕ). map of (filter p all)) (sym (range_more i))
