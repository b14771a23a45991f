-- Outcomes in the order of how often they came.
use Rattle.std.proofs.Common.{◌≡◌, ◌⊎◌, inl, inr, ℕ, zero, suc, ◌+◌, ◌<◌, ◌≤◌, List, [], ◌∷◌, length, map, get_or, nat_cmp, Ordering, Less, Equal, Greater, false, refl, sym, subst, arith}
use Rattle.std.specs.Prelude.{IsSortedBy}
use Rattle.std.specs.Ordering.{is_lt, ordering_then}
use Rattle.std.proofs.lemmas.List.{length-map}
use Rattle.room_sample.specs.Samples.{AreMostFirst, Counted, Entry, GoesBefore, counted_of, outcomes_in, place_of}

at_entry : (entries : List Entry) (k : ℕ) (d : Counted) (e : Entry) → k < length entries → get_or (map counted_of entries) k d ≡ counted_of (get_or entries k e)
at_entry [] k d e less = absurd (omega (arith, less))
at_entry (entry ∷ entries) zero d e less = refl
at_entry (entry ∷ entries) (suc k) d e less = at_entry entries k d e (omega (arith, less))

first_of : (entries : List Entry) (k : ℕ) → k < length entries → Entry
first_of [] k less = absurd (omega (arith, less))
first_of (entry ∷ entries) k less = entry

pub most_first : (from : ℕ) (entries : List Entry) → ((k : ℕ) (e : Entry) → k + 1 < length entries → GoesBefore from (counted_of (get_or entries k e)) (counted_of (get_or entries (k + 1) e))) → AreMostFirst from (outcomes_in entries)
most_first from entries falls k d less =
    let long : length (map counted_of entries) ≡ length entries = length-map entries counted_of in
    let e = first_of entries k (omega (arith, less, long)) in
    let here = at_entry entries k d e (omega (arith, less, long)) in
    let next = at_entry entries (k + 1) d e (omega (arith, less, long)) in
    subst (λ (c : Counted). GoesBefore from c (get_or (map counted_of entries) (k + 1) d)) (sym here)
    (subst (λ (c : Counted). GoesBefore from (counted_of (get_or entries k e)) c) (sym next) (falls k e (omega (arith, less, long))))

-- the order of two pairs of numbers, in which the first numbers fall
not_less : (a b p q : ℕ) → is_lt (ordering_then (nat_cmp a b) (nat_cmp q p)) ≡ false → (b < a) ⊎ ((b ≡ a) × (p ≤ q))
not_less a b p q not = by (nat_cmp a b) refl
  where
    by : (o : Ordering) → nat_cmp a b ≡ o → (b < a) ⊎ ((b ≡ a) × (p ≤ q))
    by Less is = absurd (grind (arith, not, is))
    by Equal is = inr (grind (arith, is), grind (arith, not, is))
    by Greater is = inl (grind (arith, is))

pub falls_by : (from : ℕ) (entries : List Entry) → IsSortedBy (λ x y. is_lt (ordering_then (nat_cmp y.1.times x.1.times) (nat_cmp (place_of from x.1.first) (place_of from y.1.first)))) entries
    → (k : ℕ) (e : Entry) → k + 1 < length entries → GoesBefore from (counted_of (get_or entries k e)) (counted_of (get_or entries (k + 1) e))
falls_by from entries sorted k e less =
    let one = get_or entries k e in
    let next = get_or entries (k + 1) e in
    not_less one.1.times next.1.times (place_of from one.1.first) (place_of from next.1.first) (sorted k e (omega arith) less)
