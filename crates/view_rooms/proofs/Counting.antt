-- One outcome more is looked at.
use Rattle.std.proofs.Common.{◌≡◌, ◌∙◌, ℕ, ◌+◌, List, [], ◌∷◌, ◌++◌, max, take, sym, ap}
use Rattle.std.proofs.lemmas.List.Sums.{fold-append}
use Rattle.room_search.specs.declared.reached.Reached.{Reached}
use Rattle.view_rooms.specs.Listing.{most_values, values_of}

pub most_more : (all : List Reached) (i : ℕ) (one : Reached) (most after : ℕ) → most ≡ most_values (take i all) → take (i + 1) all ≡ take i all ++ one ∷ [] → after ≡ max (values_of one) most → after ≡ most_values (take (i + 1) all)
most_more all i one most after so_far more is =
    is ∙ ap (max (values_of one)) so_far
    ∙ sym (fold-append (λ (most : ℕ) (other : Reached). max (values_of other) most) 0 (take i all) (one ∷ []))
    ∙ ap most_values (sym more)
