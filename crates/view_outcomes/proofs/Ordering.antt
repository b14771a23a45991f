-- Outcomes in the order of how many values are decided.
use Rattle.std.proofs.Common.{ℕ, ◌+◌, ◌≤◌, ◌≡◌, List, get_or, nat_cmp, false, arith}
use Rattle.std.specs.Prelude.{IsSortedBy}
use Rattle.std.specs.Ordering.{is_lt}
use Rattle.view_outcomes.specs.Counts.{values_in}
use Rattle.view_outcomes.specs.Listing.{AreMostFirst}
use Rattle.view_outcomes.specs.declared.listing.Listed.{Listed}

less_or : (a b : ℕ) → is_lt (nat_cmp a b) ≡ false → b ≤ a
less_or a b not = grind (arith, not)

pub most_first : (all : List Listed) → IsSortedBy (λ x y. is_lt (nat_cmp (values_in y.ends.items) (values_in x.ends.items))) all → AreMostFirst all
most_first all sorted k d less = less_or (values_in (get_or all k d).ends.items) (values_in (get_or all (k + 1) d).ends.items) (sorted k d (omega arith) less)
