-- Outcomes in the order of how often they came.
use Rattle.std.proofs.Common.{◌≡◌, ◌⊎◌, inl, inr, ℕ, zero, suc, ◌+◌, ◌<◌, ◌≤◌, List, [], ◌∷◌, length, map, get_or, nat_cmp, Ordering, Less, Equal, Greater, false, refl, sym, ap, subst, arith}
use Rattle.std.specs.Prelude.{IsSortedBy}
use Rattle.std.specs.Ordering.{is_lt, ordering_then}
use Rattle.std.proofs.lemmas.List.{length-map}
use Rattle.room_sample.specs.Samples.{AreMostFirst, Counted, GoesBefore, place_of}
use Rattle.room_sample.specs.Shown.{shown_of}
use Rattle.room_sample.specs.declared.examples.Example.{Example}
use Rattle.view_sum.specs.Files.{AreRising, Placed, first_number, parts_of, placed_of}
use Rattle.view_sum.specs.Sums.{counted_as}
use Rattle.view_sum.specs.declared.sum.SampleFile.{SampleFile}

abbrev pub counted : Example → Counted
counted one = counted_as (shown_of one)

module _ {A B : Type 0} (f : A → B) where
  pub at_mapped : (xs : List A) (k : ℕ) (d : B) (e : A) → k < length xs → get_or (map f xs) k d ≡ f (get_or xs k e)
  at_mapped [] k d e less = absurd (omega (arith, less))
  at_mapped (x ∷ xs) zero d e less = refl
  at_mapped (x ∷ xs) (suc k) d e less = at_mapped xs k d e (omega (arith, less))

first_of : {A : Type 0} (xs : List A) (k : ℕ) → k < length xs → A
first_of [] k less = absurd (omega (arith, less))
first_of (x ∷ xs) k less = x

-- what holds of each two neighbours holds of what they are mapped to
neighbours : {A B : Type 0} (f : A → B) (R : B → B → Type 0) (xs : List A) → ((k : ℕ) (e : A) → k + 1 < length xs → R (f (get_or xs k e)) (f (get_or xs (k + 1) e))) → (k : ℕ) (d : B) → k + 1 < length (map f xs) → R (get_or (map f xs) k d) (get_or (map f xs) (k + 1) d)
neighbours f R xs each k d less =
    let long = length-map xs f in
    let e = first_of xs k (omega (arith, less, long)) in
    subst (λ c. R c (get_or (map f xs) (k + 1) d)) (sym (at_mapped f xs k d e (omega (arith, less, long))))
    (subst (λ c. R (f (get_or xs k e)) c) (sym (at_mapped f xs (k + 1) d e (omega (arith, less, long)))) (each k e (omega (arith, less, long))))

-- the order of two pairs of numbers, in which the first numbers fall
not_less : (a b p q : ℕ) → is_lt (ordering_then (nat_cmp a b) (nat_cmp q p)) ≡ false → (b < a) ⊎ ((b ≡ a) × (p ≤ q))
not_less a b p q not = by (nat_cmp a b) refl
  where
    by : (o : Ordering) → nat_cmp a b ≡ o → (b < a) ⊎ ((b ≡ a) × (p ≤ q))
    by Less is = absurd (grind (arith, not, is))
    by Equal is = inr (grind (arith, is), grind (arith, not, is))
    by Greater is = inl (grind (arith, is))

map_map : (examples : List Example) → map counted_as (map shown_of examples) ≡ map counted examples
map_map [] = refl
map_map (one ∷ examples) = ap (λ (all : List Counted). counted one ∷ all) (map_map examples)

pub most_first : (from : ℕ) (examples : List Example) → IsSortedBy (λ x y. is_lt (ordering_then (nat_cmp y.times x.times) (nat_cmp (place_of from x.first) (place_of from y.first)))) examples → AreMostFirst from (map counted_as (map shown_of examples))
most_first from examples sorted =
    subst (λ (all : List Counted). AreMostFirst from all) (sym (map_map examples))
    (neighbours counted (GoesBefore from) examples (λ k e less. not_less (get_or examples k e).times (get_or examples (k + 1) e).times (place_of from (get_or examples k e).first) (place_of from (get_or examples (k + 1) e).first) (sorted k e (omega arith) less)))

-- ---- files in the order of their first schedules

less_or : (a b : ℕ) → is_lt (nat_cmp a b) ≡ false → b ≤ a
less_or a b not = grind (arith, not)

pub rising : (files : List SampleFile) → IsSortedBy (λ x y. is_lt (nat_cmp (first_number (parts_of x)) (first_number (parts_of y)))) files → AreRising (map placed_of files)
rising files sorted = neighbours placed_of (λ (one next : Placed). first_number one.samples ≤ first_number next.samples) files (λ k e less. less_or (first_number (parts_of (get_or files (k + 1) e))) (first_number (parts_of (get_or files k e))) (sorted k e (omega arith) less))
