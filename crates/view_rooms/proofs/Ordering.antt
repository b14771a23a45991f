-- Outcomes in the order of how many values are decided.
use Rattle.std.proofs.Common.{ℕ, ◌+◌, ◌≤◌, ◌≡◌, List, get_or, nat_cmp, false, arith}
use Rattle.std.specs.Prelude.{IsSortedBy}
use Rattle.std.specs.Ordering.{is_lt}
use Rattle.room_search.specs.declared.reached.Reached.{Reached}
use Rattle.view_rooms.specs.Listing.{AreMostFirst, values_of}

less_or : (a b : ℕ) → is_lt (nat_cmp a b) ≡ false → b ≤ a
less_or a b not = grind (arith, not)

pub most_first : (all : List Reached) → IsSortedBy (λ x y. is_lt (nat_cmp (values_of y) (values_of x))) all → AreMostFirst all
most_first all sorted k d less = less_or (values_of (get_or all k d)) (values_of (get_or all (k + 1) d)) (sorted k d (omega arith) less)
