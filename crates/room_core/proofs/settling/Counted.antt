-- How many numbers of a range pass a test.
use Rattle.std.proofs.Common.{◌≡◌, ◌≢◌, ◌⊎◌, ℕ, zero, suc, ◌+◌, ◌<◌, ◌≤◌, Bool, true, false, cond, eqb, map, List, [], ◌∷◌, length, Option, Some, None, inl, inr, refl, sym, ap, ◌∙◌, subst, arith}
use Rattle.std.specs.List.{range_with_len, list_any, filter, IsDistinct, AllByRecursion}
use Rattle.std.proofs.lemmas.Bool.{and_parts, or_cases, or_left, or_right, eq-eqb, eqb-true, ne_eqb}
use Rattle.std.proofs.lemmas.Cmp.{nat_eq_equiv}
use Rattle.std.proofs.lemmas.List.{length-map}
use Rattle.std.proofs.lemmas.Map.Made.{length-le_from_is_member, is_member-filter}
use mathlib.Core.Logic.{dite}
use native.Mathlib.Decide.{ℕ_discrete}
use Rattle.protocol_lang.specs.Meaning.{present}

range_apart : (n a b : ℕ) → b < a → AllByRecursion (λ y. eqb b y ≡ false) (range_with_len a n)
range_apart zero a b less = tt
range_apart (suc n) a b less = (ne_eqb b a (λ e. omega arith), range_apart n (a + 1) b (omega arith))

range_distinct : (n a : ℕ) → IsDistinct eqb (range_with_len a n)
unfolding IsDistinct
range_distinct zero a = tt
range_distinct (suc n) a = (range_apart n (a + 1) a (omega arith), range_distinct n (a + 1))

apart_kept : (b : Bool) (x y : ℕ) (rest : List ℕ) → eqb x y ≡ false → AllByRecursion (λ z. eqb x z ≡ false) rest → AllByRecursion (λ z. eqb x z ≡ false) (cond b (y ∷ rest) rest)
apart_kept true x y rest one more = (one, more)
apart_kept false x y rest one more = more

apart_filter : (p : ℕ → Bool) (x : ℕ) (xs : List ℕ) → AllByRecursion (λ z. eqb x z ≡ false) xs → AllByRecursion (λ z. eqb x z ≡ false) (filter p xs)
apart_filter p x [] all = tt
apart_filter p x (y ∷ ys) all = apart_kept (p y) x y (filter p ys) all.0 (apart_filter p x ys all.1)

distinct_kept : (b : Bool) (x : ℕ) (rest : List ℕ) → AllByRecursion (λ z. eqb x z ≡ false) rest → IsDistinct eqb rest → IsDistinct eqb (cond b (x ∷ rest) rest)
unfolding IsDistinct
distinct_kept true x rest one more = (one, more)
distinct_kept false x rest one more = more

distinct_filter : (p : ℕ → Bool) (xs : List ℕ) → IsDistinct eqb xs → IsDistinct eqb (filter p xs)
unfolding IsDistinct
distinct_filter p [] all = tt
distinct_filter p (x ∷ xs) all = distinct_kept (p x) x (filter p xs) (apart_filter p x xs all.0) (distinct_filter p xs all.1)

kept_or_not : (b : Bool) (q x : ℕ) (f : ℕ → ℕ) (rest : List ℕ) → list_any (eqb q) (map f rest) ≡ true → list_any (eqb q) (map f (cond b (x ∷ rest) rest)) ≡ true
kept_or_not true q x f rest has = or_right (eqb q (f x)) (list_any (eqb q) (map f rest)) has
kept_or_not false q x f rest has = has

kept_here : (b : Bool) (q x : ℕ) (f : ℕ → ℕ) (rest : List ℕ) → b ≡ true → eqb q (f x) ≡ true → list_any (eqb q) (map f (cond b (x ∷ rest) rest)) ≡ true
kept_here true q x f rest yes_it is = or_left (eqb q (f x)) (list_any (eqb q) (map f rest)) is
kept_here false q x f rest yes_it is = absurd cc

-- the image of a number of the range that passes
image_has : (p : ℕ → Bool) (f : ℕ → ℕ) (a n i q : ℕ) → a ≤ i → i < a + n → p i ≡ true → eqb q (f i) ≡ true → list_any (eqb q) (map f (filter p (range_with_len a n))) ≡ true
image_has p f a zero i q low high passes is = absurd (omega arith)
image_has p f a (suc n) i q low high passes is = dite (ℕ_discrete i a)
    (λ (e : i ≡ a). kept_here (p a) q a f (filter p (range_with_len (a + 1) n)) (subst (λ (x : ℕ). p x ≡ true) e passes) (subst (λ (x : ℕ). eqb q (f x) ≡ true) e is))
    (λ other. kept_or_not (p a) q a f (filter p (range_with_len (a + 1) n)) (image_has p f (a + 1) n i q (omega (arith, other)) (omega arith) passes is))

member_below : (n a j : ℕ) → list_any (eqb j) (range_with_len a n) ≡ true → j < a + n
member_below zero a j is = absurd cc
member_below (suc n) a j is = elim (or_cases (eqb j a) (list_any (eqb j) (range_with_len (a + 1) n)) is) [
  | inl here ↦ let same = eqb-true j a here in omega (arith, same)
  | inr later ↦ let less = member_below n (a + 1) j later in omega (arith, less)
]

-- Each number below n that passes the one test is the image of a number below m that passes the other: so no more pass the one.
pub no_more_pass : (p q : ℕ → Bool) (f : ℕ → ℕ) (n m : ℕ) → ((j : ℕ) → j < n → p j ≡ true → (i : ℕ) × (i < m) × (q i ≡ true) × (f i ≡ j)) → length (filter p (range_with_len 0 n)) ≤ length (filter q (range_with_len 0 m))
no_more_pass p q f n m each =
    let all = range_with_len 0 n in
    let passed = filter q (range_with_len 0 m) in
    let most : length (filter p all) ≤ length (map f passed) = length-le_from_is_member nat_eq_equiv (filter p all) (map f passed) (distinct_filter p all (range_distinct n 0))
    (λ j has.
    let both = and_parts _ _ (sym (is_member-filter nat_eq_equiv p j (λ x is. ap p (eqb-true j x is)) all) ∙ has) in
    let low = member_below n 0 j both.0 in
    let from = each j (omega (arith, low)) both.1 in
    image_has q f 0 m from.0 j (omega arith) (omega (arith, from.1)) from.2 (eq-eqb j (f from.0) (sym from.3))) in
    let long = length-map passed f in
    omega (arith, most, long)

kept_fewer : (b c : Bool) (x : ℕ) (rest others : List ℕ) → (b ≡ true → c ≡ true) → length rest ≤ length others → length (cond b (x ∷ rest) rest) ≤ length (cond c (x ∷ others) others)
kept_fewer true true x rest others also less = omega (arith, less)
kept_fewer true false x rest others also less = absurd (let wrong : false ≡ true = also refl in cc)
kept_fewer false true x rest others also less = omega (arith, less)
kept_fewer false false x rest others also less = less

either_counts : (b c : Bool) (n x : ℕ) (rest others : List ℕ) → (b ≡ true) ⊎ (c ≡ true) → n ≤ length rest + length others → suc n ≤ length (cond b (x ∷ rest) rest) + length (cond c (x ∷ others) others)
either_counts true true n x rest others is more = omega (arith, more)
either_counts true false n x rest others is more = omega (arith, more)
either_counts false true n x rest others is more = omega (arith, more)
either_counts false false n x rest others (inl is) more = absurd (let wrong : false ≡ true = is in cc)
either_counts false false n x rest others (inr is) more = absurd (let wrong : false ≡ true = is in cc)

-- each number of the range passes one test or the other
pub all_pass : (p q : ℕ → Bool) (a n : ℕ) → ((j : ℕ) → a ≤ j → j < a + n → (p j ≡ true) ⊎ (q j ≡ true)) → n ≤ length (filter p (range_with_len a n)) + length (filter q (range_with_len a n))
all_pass p q a zero each = omega arith
all_pass p q a (suc n) each =
    either_counts (p a) (q a) n a (filter p (range_with_len (a + 1) n)) (filter q (range_with_len (a + 1) n)) (each a (omega arith) (omega arith)) (all_pass p q (a + 1) n (λ j low high. each j (omega arith) (omega arith)))

-- whatever passes the one test passes the other
pub passes_too : (p q : ℕ → Bool) (a n : ℕ) → ((j : ℕ) → a ≤ j → j < a + n → p j ≡ true → q j ≡ true) → length (filter p (range_with_len a n)) ≤ length (filter q (range_with_len a n))
passes_too p q a zero also = omega arith
passes_too p q a (suc n) also =
    kept_fewer (p a) (q a) a (filter p (range_with_len (a + 1) n)) (filter q (range_with_len (a + 1) n)) (also a (omega arith) (omega arith)) (passes_too p q (a + 1) n (λ j low high. also j (omega arith) (omega arith)))

none_kept : (b : Bool) (x : ℕ) (rest : List ℕ) → b ≡ false → length rest ≡ 0 → length (cond b (x ∷ rest) rest) ≡ 0
none_kept true x rest fails none = absurd (let wrong : true ≡ false = fails in cc)
none_kept false x rest fails none = none

pub none_passes : (p : ℕ → Bool) (a n : ℕ) → ((j : ℕ) → a ≤ j → j < a + n → p j ≡ false) → length (filter p (range_with_len a n)) ≡ 0
none_passes p a zero fails = refl
none_passes p a (suc n) fails = none_kept (p a) a (filter p (range_with_len (a + 1) n)) (fails a (omega arith) (omega arith)) (none_passes p (a + 1) n (λ j low high. fails j (omega arith) (omega arith)))

present_more : (b : Bool) (entry : Option ℕ) (x : ℕ) (kept : List ℕ) (rest : List (Option ℕ)) → (b ≡ true → (v : ℕ) × (entry ≡ Some v)) → length kept ≤ length (present rest) → length (cond b (x ∷ kept) kept) ≤ length (present (entry ∷ rest))
present_more true (Some v) x kept rest some more = omega (arith, more)
present_more true None x kept rest some more = absurd (let wrong = (some refl).1 in cc)
present_more false (Some v) x kept rest some more = omega (arith, more)
present_more false None x kept rest some more = more

-- each number that passes has an entry
pub entries_of_all : (entries : ℕ → Option ℕ) (p : ℕ → Bool) (a n : ℕ) → ((j : ℕ) → a ≤ j → j < a + n → p j ≡ true → (v : ℕ) × (entries j ≡ Some v)) → length (filter p (range_with_len a n)) ≤ length (present (map entries (range_with_len a n)))
entries_of_all entries p a zero some = omega arith
entries_of_all entries p a (suc n) some =
    present_more (p a) (entries a) a (filter p (range_with_len (a + 1) n)) (map entries (range_with_len (a + 1) n)) (some a (omega arith) (omega arith)) (entries_of_all entries p (a + 1) n (λ j low high. some j (omega arith) (omega arith)))

-- if one of a range fails, fewer than all pass
kept_most : (b : Bool) (x : ℕ) (list : List ℕ) (n : ℕ) → length list ≤ n → length (cond b (x ∷ list) list) ≤ suc n
kept_most true x list n most = omega (arith, most)
kept_most false x list n most = omega (arith, most)

kept_less : (b : Bool) (x : ℕ) (list : List ℕ) (n : ℕ) → length list < n → length (cond b (x ∷ list) list) < suc n
kept_less true x list n less = omega (arith, less)
kept_less false x list n less = omega (arith, less)

left_out : (b : Bool) (x : ℕ) (list : List ℕ) (n : ℕ) → b ≡ false → length list ≤ n → length (cond b (x ∷ list) list) < suc n
left_out true x list n fails most = absurd (let wrong : true ≡ false = fails in cc)
left_out false x list n fails most = omega (arith, most)

most_all : (q : ℕ → Bool) (a n : ℕ) → length (filter q (range_with_len a n)) ≤ n
most_all q a zero = omega arith
most_all q a (suc n) = kept_most (q a) a (filter q (range_with_len (a + 1) n)) n (most_all q (a + 1) n)

pub one_fails : (q : ℕ → Bool) (a n i : ℕ) → a ≤ i → i < a + n → q i ≡ false → length (filter q (range_with_len a n)) < n
one_fails q a zero i low high fails = absurd (omega (arith, low, high))
one_fails q a (suc n) i low high fails = dite (ℕ_discrete i a)
    (λ (e : i ≡ a). left_out (q a) a (filter q (range_with_len (a + 1) n)) n (subst (λ (x : ℕ). q x ≡ false) e fails) (most_all q (a + 1) n))
    (λ (other : i ≢ a). kept_less (q a) a (filter q (range_with_len (a + 1) n)) n (one_fails q (a + 1) n i (omega (arith, low, other)) (omega (arith, high)) fails))
