-- What a loop that looks for the first that passes has found.
use Rattle.std.proofs.Common.{◌≡◌, ℕ, zero, suc, ◌+◌, ◌<◌, Bool, true, false, cond, ltb, List, [], ◌∷◌, ◌++◌, length, map, get_or, Some, None, refl, inl, inr, ap, ◌∙◌, arith}
use Rattle.std.proofs.lemmas.List.FromFn.{get_or-map-range_with_len, get_or-range_with_len, length-map-range_with_len, length-range_with_len}
use Rattle.std.proofs.lemmas.List.Elements.{filter-append}
use Rattle.std.proofs.lemmas.List.Sums.{position_or_len_is}
use Rattle.std.proofs.lemmas.Bool.{cases_Bool, lt-ltb, le-ltb}
use Rattle.std.specs.Prelude.{position}
use Rattle.std.specs.List.{filter, find, list_any, position_or_len, range_with_len}

-- ---- lists

pub find_is : {A : Type 0} (p : A → Bool) (xs : List A) (i : ℕ) (d : A) → i < length xs → ((k : ℕ) → k < i → p (get_or xs k d) ≡ false) → p (get_or xs i d) ≡ true → find p xs ≡ Some (get_or xs i d)
find_is p [] i d less before here = absurd (omega arith)
find_is p (x ∷ xs) zero d less before here = rw here refl
find_is p (x ∷ xs) (suc i) d less before here =
    let no : p x ≡ false = before 0 (omega arith) in
    rw no (find_is p xs i d (omega arith) (λ k below. before (suc k) (omega arith)) here)

pub find_none : {A : Type 0} (p : A → Bool) (xs : List A) (d : A) → ((k : ℕ) → k < length xs → p (get_or xs k d) ≡ false) → find p xs ≡ None
find_none p [] d all = refl
find_none p (x ∷ xs) d all =
    let no : p x ≡ false = all 0 (omega arith) in
    rw no (find_none p xs d (λ k below. all (suc k) (omega arith)))

pub any_is : {A : Type 0} (p : A → Bool) (xs : List A) (i : ℕ) (d : A) → i < length xs → p (get_or xs i d) ≡ true → list_any p xs ≡ true
any_is p [] i d less here = absurd (omega arith)
any_is p (x ∷ xs) zero d less here = rw here refl
any_is p (x ∷ xs) (suc i) d less here =
    elim (cases_Bool (p x)) [ inl yes_it ↦ rw yes_it refl | inr no_it ↦ rw no_it (any_is p xs i d (omega arith) here) ]

pub any_none : {A : Type 0} (p : A → Bool) (xs : List A) (d : A) → ((k : ℕ) → k < length xs → p (get_or xs k d) ≡ false) → list_any p xs ≡ false
any_none p [] d all = refl
any_none p (x ∷ xs) d all =
    let no : p x ≡ false = all 0 (omega arith) in
    rw no (any_none p xs d (λ k below. all (suc k) (omega arith)))

-- ---- what a function gives of the numbers from a on

pub finds : {A : Type 0} (p : A → Bool) (f : ℕ → A) (m i : ℕ) → i < m → ((k : ℕ) → k < i → p (f k) ≡ false) → p (f i) ≡ true → find p (map f (range_with_len 0 m)) ≡ Some (f i)
finds p f m i less before here =
    let long = length-map-range_with_len f 0 m in
    find_is p (map f (range_with_len 0 m)) i (f i) (omega arith)
    (λ k below. ap p (get_or-map-range_with_len f 0 m k k (f i) (omega arith) (omega arith)) ∙ before k below)
    (ap p (get_or-map-range_with_len f 0 m i i (f i) less (omega arith)) ∙ here)
    ∙ ap (λ x. Some x) (get_or-map-range_with_len f 0 m i i (f i) less (omega arith))

pub finds_none : {A : Type 0} (p : A → Bool) (f : ℕ → A) (m : ℕ) → ((k : ℕ) → k < m → p (f k) ≡ false) → find p (map f (range_with_len 0 m)) ≡ None
finds_none p f m all =
    let long = length-map-range_with_len f 0 m in
    find_none p (map f (range_with_len 0 m)) (f 0)
    (λ k below. ap p (get_or-map-range_with_len f 0 m k k (f 0) (omega arith) (omega arith)) ∙ all k (omega arith))

pub anys : {A : Type 0} (p : A → Bool) (f : ℕ → A) (m i : ℕ) → i < m → p (f i) ≡ true → list_any p (map f (range_with_len 0 m)) ≡ true
anys p f m i less here =
    let long = length-map-range_with_len f 0 m in
    any_is p (map f (range_with_len 0 m)) i (f i) (omega arith) (ap p (get_or-map-range_with_len f 0 m i i (f i) less (omega arith)) ∙ here)

pub anys_none : {A : Type 0} (p : A → Bool) (f : ℕ → A) (m : ℕ) → ((k : ℕ) → k < m → p (f k) ≡ false) → list_any p (map f (range_with_len 0 m)) ≡ false
anys_none p f m all =
    let long = length-map-range_with_len f 0 m in
    any_none p (map f (range_with_len 0 m)) (f 0)
    (λ k below. ap p (get_or-map-range_with_len f 0 m k k (f 0) (omega arith) (omega arith)) ∙ all k (omega arith))

-- ---- the numbers themselves, from a on

number : (m k : ℕ) → k < m → get_or (range_with_len 0 m) k 0 ≡ k
number m k less = let turned : 0 + k ≡ k = omega arith in get_or-range_with_len 0 m k 0 less ∙ turned

pub number_found : (p : ℕ → Bool) (m i : ℕ) → i < m → ((k : ℕ) → k < i → p k ≡ false) → p i ≡ true → find p (range_with_len 0 m) ≡ Some i
number_found p m i less before here =
    let long = length-range_with_len 0 m in
    find_is p (range_with_len 0 m) i 0 (omega arith)
    (λ k below. ap p (number m k (omega arith)) ∙ before k below)
    (ap p (number m i less) ∙ here)
    ∙ ap (λ (x : ℕ). Some x) (number m i less)

pub no_number : (p : ℕ → Bool) (m : ℕ) → ((k : ℕ) → k < m → p k ≡ false) → find p (range_with_len 0 m) ≡ None
no_number p m all =
    let long = length-range_with_len 0 m in
    find_none p (range_with_len 0 m) 0 (λ k below. ap p (number m k (omega arith)) ∙ all k (omega arith))

-- those from 1 on
pub round_any : (p : ℕ → Bool) (m i : ℕ) → i < m → p (i + 1) ≡ true → list_any p (range_with_len 1 m) ≡ true
round_any p m i less here =
    let long = length-range_with_len 1 m in
    let turned : 1 + i ≡ i + 1 = omega arith in
    any_is p (range_with_len 1 m) i 0 (omega arith) (ap p (get_or-range_with_len 1 m i 0 less ∙ turned) ∙ here)

pub no_round : (p : ℕ → Bool) (m : ℕ) → ((k : ℕ) → k < m → p (k + 1) ≡ false) → list_any p (range_with_len 1 m) ≡ false
no_round p m all =
    let long = length-range_with_len 1 m in
    any_none p (range_with_len 1 m) 0
    (λ k below. let turned : 1 + k ≡ k + 1 = omega arith in ap p (get_or-range_with_len 1 m k 0 (omega arith) ∙ turned) ∙ all k (omega arith))

-- ---- the place of the first

pub position_at : {A : Type 0} (p : A → Bool) (xs : List A) (i : ℕ) → position_or_len p xs ≡ i → i < length xs → position p xs ≡ Some i
position_at p xs i is less =
    ap (λ (j : ℕ). cond (ltb j (length xs)) (Some j) None) is ∙ ap (λ (b : Bool). cond b (Some i) None) (lt-ltb i (length xs) less)

pub no_position : {A : Type 0} (p : A → Bool) (xs : List A) → position_or_len p xs ≡ length xs → position p xs ≡ None
no_position p xs is =
    ap (λ (j : ℕ). cond (ltb j (length xs)) (Some j) None) is ∙ ap (λ (b : Bool). cond b (Some (length xs)) None) (le-ltb (length xs) (length xs) (omega arith))

pub places : {A : Type 0} (p : A → Bool) (f : ℕ → A) (m i : ℕ) → i < m → ((k : ℕ) → k < i → p (f k) ≡ false) → p (f i) ≡ true → position p (map f (range_with_len 0 m)) ≡ Some i
places p f m i less before here =
    let long = length-map-range_with_len f 0 m in
    position_at p (map f (range_with_len 0 m)) i
    (position_or_len_is p (map f (range_with_len 0 m)) i (f i) (omega arith)
    (λ k below. ap p (get_or-map-range_with_len f 0 m k k (f i) (omega arith) (omega arith)) ∙ before k below)
    (λ _. ap p (get_or-map-range_with_len f 0 m i i (f i) less (omega arith)) ∙ here))
    (omega arith)

pub no_place : {A : Type 0} (p : A → Bool) (f : ℕ → A) (m : ℕ) → ((k : ℕ) → k < m → p (f k) ≡ false) → position p (map f (range_with_len 0 m)) ≡ None
no_place p f m all =
    let long = length-map-range_with_len f 0 m in
    no_position p (map f (range_with_len 0 m))
    (position_or_len_is p (map f (range_with_len 0 m)) (length (map f (range_with_len 0 m))) (f 0) (omega arith)
    (λ k below. ap p (get_or-map-range_with_len f 0 m k k (f 0) (omega arith) (omega arith)) ∙ all k (omega arith))
    (λ less. absurd (omega arith)))

-- ---- a list that grows by one

range_more : (a n j : ℕ) → a + n ≡ j → range_with_len a (n + 1) ≡ range_with_len a n ++ j ∷ []
range_more a zero j is = let same : a ≡ j = omega arith in ap (λ (x : ℕ). x ∷ []) same
range_more a (suc n) j is =
    let one : suc n + 1 ≡ suc (n + 1) = omega arith in
    ap (range_with_len a) one ∙ ap (λ (l : List ℕ). a ∷ l) (range_more (a + 1) n j (omega arith))

pub filter_more : (p : ℕ → Bool) (n : ℕ) → filter p (range_with_len 0 (n + 1)) ≡ filter p (range_with_len 0 n) ++ cond (p n) (n ∷ []) []
filter_more p n = ap (filter p) (range_more 0 n n (omega arith)) ∙ filter-append p (range_with_len 0 n) (n ∷ [])
