-- One outcome more is looked at.
use Rattle.std.proofs.Common.{◌≡◌, ◌∙◌, ℕ, ◌+◌, List, [], ◌∷◌, ◌++◌, max, take, sym, ap}
use Rattle.std.proofs.lemmas.List.Sums.{fold-append}
use Rattle.view_outcomes.specs.declared.listing.Listed.{Listed}
use Rattle.view_outcomes.specs.Counts.{most_values, values_in}

pub most_more : (all : List Listed) (i : ℕ) (one : Listed) (most after : ℕ) → most ≡ most_values (take i all) → take (i + 1) all ≡ take i all ++ one ∷ [] → after ≡ max (values_in one.ends.items) most → after ≡ most_values (take (i + 1) all)
most_more all i one most after so_far more is =
    is ∙ ap (max (values_in one.ends.items)) so_far
    ∙ sym (fold-append (λ (most : ℕ) (other : Listed). max (values_in other.ends.items) most) 0 (take i all) (one ∷ []))
    ∙ ap most_values (sym more)
