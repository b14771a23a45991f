-- The passed snapshots as std's sort leaves them are in the order of the history: both lists are in order, and have the same elements
-- as often.
use Rattle.std.proofs.Common.{◌≡◌, ◌⊎◌, ℕ, suc, ◌+◌, ◌<◌, Bool, true, false, cond, eqb, ltb, List, [], ◌∷◌, length, map, get_or, fold, Contains, Ordering, Less, Equal, Greater, nat_cmp, refl, sym, ap, ◌∙◌, subst, arith, inl, inr}
use Rattle.std.specs.Prelude.{⊤}
use Rattle.std.specs.Cmp.{IsTotalOrder}
use Rattle.std.specs.Cmp.Lexicographic.{slice_cmp}
use Rattle.std.specs.List.{sum_by}
use Rattle.std.specs.List.Sorted.{IsPermutation, IsSorted, IsSortedBy}
use Rattle.std.specs.Ordering.{is_lt, on, ordering_reverse, ordering_then, then_cmp}
use Rattle.std.proofs.lemmas.Bool.{cases_Bool, le-ltb, ne_eqb, eq-eqb}
use Rattle.std.proofs.lemmas.Cmp.{nat_cmp_total, nat_list_cmp_total, on_total, ranked, then_total, tied_itself}
use Rattle.std.proofs.lemmas.List.Sorted.{ranks_by, sorted_far, sum_by-IsPermutation}
use Rattle.std.proofs.lemmas.List.Sums.{sum_by-cons}
use Rattle.room_core.specs.Calls.{RoomState}
use Rattle.room_core.specs.Agreements.{is_passed}
use Rattle.room_spec.specs.Rooms.{processes}
use Rattle.ws_history.specs.declared.snapshots.Agreed.{Agreed}
use Rattle.ws_history.specs.Histories.{Snapshot, Source, IsBefore, IsRising}
use Rattle.ws_history.specs.Orders.{inserted, in_order, is_before, all_passed}
use Rattle.ws_history.specs.Placing.{agreed_at}
use Rattle.ws_history.specs.Readings.{read_of}
use Rattle.ws_history.specs.Sources.{source_of}
use Rattle.ws_history.proofs.Order.{cons_first, cons_rest}
use Rattle.ws_history.proofs.Sorting.{AreApart, different_passed, rising_in_order}

-- ---- two lists in one order, with the same elements as often, are the same

-- whatever is counted or added up over the one is so over the other
abbrev HaveSame : {X : Type 0} → List X → List X → Type 0
HaveSame {X} xs ys = (f : X → ℕ) → sum_by f xs ≡ sum_by f ys

tied : (p q : Ordering) → p ≡ ordering_reverse q → is_lt p ≡ false → is_lt q ≡ false → p ≡ Equal
tied Less q is low high = absurd cc
tied Equal q is low high = refl
tied Greater Less is low high = absurd cc
tied Greater Equal is low high = absurd cc
tied Greater Greater is low high = absurd cc

module _ {X : Type 0} (R : X → X → Ordering) (total : IsTotalOrder R) (one : (x y : X) → R x y ≡ Equal → x ≡ y) where
  abbrev low : X → X → Bool
  low x y = is_lt (R x y)

  -- none of them goes before x
  abbrev NoneBefore : X → List X → Type 0
  NoneBefore x [] = ⊤
  NoneBefore x (u ∷ rest) = (low u x ≡ false) × NoneBefore x rest

  abbrev InOrder : List X → Type 0
  InOrder [] = ⊤
  InOrder (x ∷ rest) = NoneBefore x rest × InOrder rest

  abbrev before : X → X → ℕ
  before y u = cond (low u y) 1 0

  none_counted : (y : X) (xs : List X) → NoneBefore y xs → sum_by (before y) xs ≡ 0
  none_counted y [] none = refl
  none_counted y (u ∷ rest) none =
      let here : before y u ≡ 0 = ap (λ (b : Bool). cond b 1 0) none.0 in
      let more = none_counted y rest none.1 in
      let all = sum_by-cons (before y) u rest in
      omega arith

  not_low : (x y : X) (xs ys : List X) → HaveSame (x ∷ xs) (y ∷ ys) → NoneBefore y ys → low x y ≡ false
  not_low x y xs ys same none = elim (cases_Bool (low x y)) [
    | inr no_it ↦ no_it
    | inl is ↦
        let itself : low y y ≡ false = ap is_lt (tied_itself total y) in
        let other = none_counted y (y ∷ ys) (itself, none) in
        let here : before y x ≡ 1 = ap (λ (b : Bool). cond b 1 0) is in
        let all = sum_by-cons (before y) x xs in
        let both = same (before y) in
        absurd (omega arith)
  ]

  pub same_in_order : (xs ys : List X) → HaveSame xs ys → InOrder xs → InOrder ys → xs ≡ ys
  same_in_order [] [] same first second = refl
  same_in_order [] (y ∷ ys) same first second =
      let all = sum_by-cons (λ (u : X). 1) y ys in
      let none = same (λ u. 1) in
      absurd (omega arith)
  same_in_order (x ∷ xs) [] same first second =
      let all = sum_by-cons (λ (u : X). 1) x xs in
      let none = same (λ u. 1) in
      absurd (omega arith)
  same_in_order (x ∷ xs) (y ∷ ys) same first second =
      let is : x ≡ y = one x y (tied (R x y) (R y x) (total.antisymm x y) (not_low x y xs ys same second.0) (not_low y x ys xs (λ f. sym (same f)) first.0)) in
      let rest : HaveSame xs ys = λ f.
      let left = sum_by-cons f x xs in
      let right = sum_by-cons f y ys in
      let all = same f in
      let head : f x ≡ f y = ap f is in
      omega arith in
      ap (λ (u : X). u ∷ xs) is ∙ ap (λ (l : List X). y ∷ l) (same_in_order xs ys rest first.1 second.1)

  none_from : (x : X) (xs : List X) → ((i : ℕ) (d : X) → i < length xs → low (get_or xs i d) x ≡ false) → NoneBefore x xs
  none_from x [] each = tt
  none_from x (u ∷ rest) each = (each 0 u (omega arith), none_from x rest (λ i d less. each (suc i) d (omega arith)))

  -- as a sort says it
  pub from_sorted : (xs : List X) → IsSortedBy low xs → InOrder xs
  from_sorted [] sorted = tt
  from_sorted (x ∷ xs) sorted = (
    none_from x xs (λ i d less. sorted_far low (ranks_by total (λ u. u)) (x ∷ xs) sorted 0 (suc i) d (omega arith) (omega arith)),
    from_sorted xs (λ k d least less.
        let turned : suc k + 1 ≡ suc (k + 1) = omega arith in
        subst (λ (i : ℕ). low (get_or (x ∷ xs) i d) (get_or (x ∷ xs) (suc k) d) ≡ false) turned (sorted (suc k) d (omega arith) (omega arith))),
  )

-- ---- a snapshot's place by all of its numbers

abbrev agreed_cmp : Agreed → Agreed → Ordering
agreed_cmp = then_cmp (on (λ s. s.sum) nat_cmp) (then_cmp (on (λ s. s.process) nat_cmp) (then_cmp (on (λ s. s.round) nat_cmp) (on (λ s. s.row.items) (slice_cmp nat_cmp))))

agreed_total : IsTotalOrder agreed_cmp
agreed_total = then_total (on_total (λ (s : Agreed). s.sum) nat_cmp_total) (then_total (on_total (λ (s : Agreed). s.process) nat_cmp_total) (then_total (on_total (λ (s : Agreed). s.round) nat_cmp_total) (on_total (λ (s : Agreed). s.row.items) nat_list_cmp_total)))

then_tied : (p q : Ordering) → ordering_then p q ≡ Equal → (p ≡ Equal) × (q ≡ Equal)
then_tied Less q is = absurd cc
then_tied Equal q is = (refl, is)
then_tied Greater q is = absurd cc

nat_tied : (x y : ℕ) → nat_cmp x y ≡ Equal → x ≡ y
nat_tied x y is = ranked x y Equal (sym is)

list_tied : (xs ys : List ℕ) → slice_cmp nat_cmp xs ys ≡ Equal → xs ≡ ys
list_tied [] [] is = refl
list_tied [] (y ∷ ys) is = absurd cc
list_tied (x ∷ xs) [] is = absurd cc
list_tied (x ∷ xs) (y ∷ ys) is =
    let both = then_tied (nat_cmp x y) (slice_cmp nat_cmp xs ys) is in
    ap (λ (u : ℕ). u ∷ xs) (nat_tied x y both.0) ∙ ap (λ (l : List ℕ). y ∷ l) (list_tied xs ys both.1)

agreed_one : (s t : Agreed) → agreed_cmp s t ≡ Equal → s ≡ t
agreed_one s t is =
    let a = then_tied (nat_cmp s.sum t.sum) _ is in
    let b = then_tied (nat_cmp s.process t.process) _ a.1 in
    let sums = nat_tied s.sum t.sum a.0 in
    let all = nat_tied s.process t.process b.0 in
    let d = then_tied (nat_cmp s.round t.round) _ b.1 in
    let rounds = nat_tied s.round t.round d.0 in
    let rows = list_tied s.row.items t.row.items d.1 in
    ap (λ (x : ℕ). record s { sum = x }) sums
    ∙ ap (λ (x : ℕ). record s { sum = t.sum; process = x }) all
    ∙ ap (λ (x : ℕ). record s { sum = t.sum; process = t.process; round = x }) rounds
    ∙ ap (λ (l : List ℕ). record t { row = record { items = l } }) rows

behind_is_greater : (a b : ℕ) → a < b → nat_cmp b a ≡ Greater
behind_is_greater a b less =
    let no_it : ltb b a ≡ false = le-ltb b a (omega arith) in
    let other : eqb b a ≡ false = ne_eqb b a (λ e. absurd (omega arith)) in
    rw (no_it, other) refl

same_is_tied : (a b : ℕ) → a ≡ b → nat_cmp b a ≡ Equal
same_is_tied a b same =
    let no_it : ltb b a ≡ false = le-ltb b a (omega arith) in
    let is : eqb b a ≡ true = eq-eqb b a (sym same) in
    rw (no_it, is) refl

-- two of whom the first goes before the second by its sum, or by its process
not_low_then : (o p : Ordering) → (o ≡ Greater) ⊎ ((o ≡ Equal) × (p ≡ Greater)) → (q : Ordering) → is_lt (ordering_then o (ordering_then p q)) ≡ false
not_low_then Less p (inl greater) q = absurd cc
not_low_then Less p (inr parts) q = absurd (let other = parts.0 in cc)
not_low_then Equal Less (inl greater) q = absurd cc
not_low_then Equal Less (inr parts) q = absurd (let other = parts.1 in cc)
not_low_then Equal Equal (inl greater) q = absurd cc
not_low_then Equal Equal (inr parts) q = absurd (let other = parts.1 in cc)
not_low_then Equal Greater is q = refl
not_low_then Greater p is q = refl

not_behind : (s t : Agreed) → (s.sum < t.sum) ⊎ ((s.sum ≡ t.sum) × (s.process < t.process)) → is_lt (agreed_cmp t s) ≡ false
not_behind s t before = not_low_then (nat_cmp t.sum s.sum) (nat_cmp t.process s.process) (elim before [
  | inl less ↦ inl (behind_is_greater s.sum t.sum less)
  | inr same ↦ inr (same_is_tied s.sum t.sum same.0, behind_is_greater s.process t.process same.1)
]) _

-- ---- all are there as often as before

module _ (row : ℕ → ℕ → List ℕ) (g : Snapshot → ℕ) where
  counted_put : (s t : Snapshot) (rest behind : List Snapshot) (b : Bool) → sum_by g behind ≡ g s + sum_by g rest → sum_by g (cond b (s ∷ t ∷ rest) (t ∷ behind)) ≡ g s + sum_by g (t ∷ rest)
  counted_put s t rest behind true more = sum_by-cons g s (t ∷ rest)
  counted_put s t rest behind false more =
      let all = sum_by-cons g t behind in
      let old = sum_by-cons g t rest in
      omega arith

  counted_inserted : (xs : List Snapshot) (s : Snapshot) → sum_by g (inserted row xs s) ≡ g s + sum_by g xs
  counted_inserted [] s = sum_by-cons g s []
  counted_inserted (t ∷ rest) s = counted_put s t rest (inserted row rest s) (is_before row s t) (counted_inserted rest s)

  counted_fold : (xs done : List Snapshot) → sum_by g (fold (inserted row) done xs) ≡ sum_by g done + sum_by g xs
  counted_fold [] done = omega arith
  counted_fold (s ∷ xs) done =
      let now = counted_inserted done s in
      let more = counted_fold xs (inserted row done s) in
      let all = sum_by-cons g s xs in
      omega arith

  counted : (xs : List Snapshot) → sum_by g (in_order row xs) ≡ sum_by g xs
  counted xs =
      let all = counted_fold xs [] in
      omega arith

-- ---- the order of a room's history

over_map : {X Y : Type 0} (f : Y → ℕ) (h : X → Y) (xs : List X) → sum_by f (map h xs) ≡ sum_by (λ x. f (h x)) xs
over_map f h [] = refl
over_map f h (x ∷ xs) =
    let left = sum_by-cons f (h x) (map h xs) in
    let right = sum_by-cons (λ y. f (h y)) x xs in
    let more = over_map f h xs in
    omega arith

module _ (room : RoomState) where
  abbrev source : Source
  source = source_of room.spec (read_of room)

  abbrev passed : List Snapshot
  passed = all_passed (is_passed room.spec (read_of room)) (processes room.spec) room.spec.rounds

  none_behind : (s : Snapshot) (xs : List Snapshot) → ((t : Snapshot) → Contains xs t → IsBefore source s t) → NoneBefore agreed_cmp agreed_total agreed_one (agreed_at room s) (map (agreed_at room) xs)
  none_behind s [] each = tt
  none_behind s (t ∷ rest) each = (not_behind (agreed_at room s) (agreed_at room t) (each t (cons_first t rest)), none_behind s rest (λ u has. each u (cons_rest t rest u has)))

  from_rising : (xs : List Snapshot) → IsRising source xs → InOrder agreed_cmp agreed_total agreed_one (map (agreed_at room) xs)
  from_rising [] rising = tt
  from_rising (s ∷ xs) rising = (none_behind s xs rising.0, from_rising xs rising.1)

  pub sorted_is : (sorted : List Agreed) → AreApart source passed → IsPermutation (map (agreed_at room) passed) sorted → IsSorted agreed_cmp sorted → sorted ≡ map (agreed_at room) source.order
  sorted_is sorted apart moved rises =
      same_in_order agreed_cmp agreed_total agreed_one sorted (map (agreed_at room) source.order)
      (λ f.
      sum_by-IsPermutation f (map (agreed_at room) passed) sorted moved
      ∙ over_map f (agreed_at room) passed
      ∙ sym (over_map f (agreed_at room) source.order ∙ counted source.row (λ s. f (agreed_at room s)) passed))
      (from_sorted agreed_cmp agreed_total agreed_one sorted rises)
      (from_rising source.order (rising_in_order source passed apart (different_passed (is_passed room.spec (read_of room)) (processes room.spec) room.spec.rounds)))
