-- What is decided by a protocol that waits for all but f processes and takes the least value that it sees: at most f + 1 different
-- inputs (Chaudhuri 1993).
use Rattle.std.proofs.Common.{◌≡◌, ◌≢◌, ℕ, zero, suc, ◌+◌, ◌-◌, ◌<◌, ◌≤◌, not, min, Bool, true, false, cond, eqb, ltb, List, [], ◌∷◌, ◌++◌, length, get_or, take, Option, Some, None, refl, sym, ap, ◌∙◌, subst, arith, inl, inr, ◌⊎◌}
use Rattle.std.specs.Prelude.{slice_get, slice_index, slice_index_or, unwrap_or, IfSome, ⊤}
use Rattle.std.specs.List.{Contains, count_by, filter, filter_map, fold, reduce}
use Rattle.std.specs.Option.{option_or, option_map_or}
use Rattle.std.proofs.lemmas.Bool.{cases_lt, eq-eqb, eqb-true, ne_eqb, lt-ltb, ltb-true}
use Rattle.std.proofs.lemmas.List.{append-nil, take_all, take_more}
use Rattle.std.proofs.lemmas.List.Elements.{filter_map-append}
use Rattle.std.proofs.lemmas.List.Sums.{sum_by-cons, length-filter}
use Rattle.std.proofs.lemmas.Option.{slice_get-get_or, slice_get_within}
use Rattle.protocol_lang.specs.Meaning.{present, first_value, next_action}
use Rattle.protocol_lang.specs.Trees.{Tree}
use Rattle.protocol_lang.specs.Thresholds.{least_of}
use Rattle.protocol_lang.proofs.CallerLemmas.{decides_least_of, writes_again}
use Rattle.protocol_lang.specs.declared.meaning.Action.TheVariants as actions
use Rattle.room_spec.specs.Rooms.{IsCertified, RoomSpec, processes}
use Rattle.transcript.specs.declared.event.Event.{Event}
use Rattle.transcript.specs.declared.event.Event.TheVariants.{Write, Snap, Decide}
use Rattle.transcript.specs.Runs.{event_by, written_by, seen_by, is_snap_by, latest, last_write, IsWrite, IsEnabled, IsRun, MayWrite, MaySnap, MayDecide}
use Rattle.transcript.specs.Tasks.{decided_by, decided_in, different, IsInTask, KeepsTask}
use Rattle.transcript.proofs.Histories.{latest-push}

-- ---- elements

abbrev pub In : ℕ → List ℕ → Type 0
In v [] = ⊥
In v (x ∷ xs) = (x ≡ v) ⊎ In v xs

pub in_contains : (v : ℕ) (xs : List ℕ) → In v xs → Contains xs v
in_contains v [] at = absurd at
in_contains v (x ∷ xs) (inl e) = (0, omega arith, e)
in_contains v (x ∷ xs) (inr more) = let at = in_contains v xs more in let below = at.1 in (suc at.0, omega (arith, below), at.2)

in_at : (v : ℕ) (xs : List ℕ) (k : ℕ) → k < length xs → get_or xs k v ≡ v → In v xs
in_at v [] k below is = absurd (omega arith)
in_at v (x ∷ xs) zero below is = inl is
in_at v (x ∷ xs) (suc k) below is = inr (in_at v xs k (omega arith) is)

pub contains_in : (v : ℕ) (xs : List ℕ) → Contains xs v → In v xs
contains_in v xs at = in_at v xs at.0 at.1 at.2

-- ---- the least value

record IsLeast (x : ℕ) (xs : List ℕ) (least : ℕ) : Type 0 where
  pub first : least ≤ x
  pub each : (v : ℕ) → In v xs → least ≤ v
  pub one : (least ≡ x) ⊎ In least xs

least_more : (x y : ℕ) (xs : List ℕ) (least : ℕ) → IsLeast (min x y) xs least → IsLeast x (y ∷ xs) least
least_more x y xs least is = record { first = let l = is.first in omega (arith, l); each = each; one = by is.one }
  where
    each : (v : ℕ) → In v (y ∷ xs) → least ≤ v
    each v (inl e) = let l = is.first in omega (arith, l, e)
    each v (inr more) = is.each v more

    first : (x < y) ⊎ (y ≤ x) → least ≡ min x y → (least ≡ x) ⊎ In least (y ∷ xs)
    first (inl less) e = inl (omega (arith, e, less))
    first (inr more) e = inr (inl (omega (arith, e, more)))

    by : (least ≡ min x y) ⊎ In least xs → (least ≡ x) ⊎ In least (y ∷ xs)
    by (inl e) = first (cases_lt x y) e
    by (inr more) = inr (inr more)

least_from : (x : ℕ) (xs : List ℕ) → IsLeast x xs (fold min x xs)
least_from x [] = record { first = omega arith; each = λ v none. absurd none; one = inl refl }
least_from x (y ∷ xs) = least_more x y xs (fold min (min x y) xs) (least_from (min x y) xs)

-- of values that are there, the least is at most each, and one of them
least_among : (xs : List ℕ) → 1 ≤ length xs → ((v : ℕ) → In v xs → unwrap_or (reduce min xs) 0 ≤ v) × In (unwrap_or (reduce min xs) 0) xs
least_among [] some = absurd (omega arith)
least_among (x ∷ xs) some = (each, by (least_from x xs).one)
  where
    each : (v : ℕ) → In v (x ∷ xs) → fold min x xs ≤ v
    each v (inl e) = let l = (least_from x xs).first in omega (arith, l, e)
    each v (inr more) = (least_from x xs).each v more

    by : (fold min x xs ≡ x) ⊎ In (fold min x xs) xs → In (fold min x xs) (x ∷ xs)
    by (inl e) = inl (sym e)
    by (inr more) = inr more

-- ---- a snapshot in which each entry is nothing or the process's input

abbrev pub ShowsInputs : List (Option ℕ) → List ℕ → Type 0
ShowsInputs [] [] = ⊤
ShowsInputs [] (a ∷ inputs) = ⊥
ShowsInputs (e ∷ row) [] = ⊥
ShowsInputs (e ∷ row) (a ∷ inputs) = IfSome e (λ v. v ≡ a) × ShowsInputs row inputs

shows_from : (row : List (Option ℕ)) (inputs : List ℕ) → length row ≡ length inputs → ((q : ℕ) → q < length inputs → IfSome (slice_index_or row q None) (λ v. v ≡ slice_index inputs q)) → ShowsInputs row inputs
shows_from [] [] long each = tt
shows_from [] (a ∷ inputs) long each = absurd (omega arith)
shows_from (e ∷ row) [] long each = absurd (omega arith)
shows_from (e ∷ row) (a ∷ inputs) long each = (each 0 (omega arith), shows_from row inputs (omega arith) (λ q below. each (suc q) (omega arith)))

-- what is there is an input
shown_is_input : (row : List (Option ℕ)) (inputs : List ℕ) (v : ℕ) → ShowsInputs row inputs → In v (present row) → In v inputs
shown_is_input [] [] v shows at = at
shown_is_input [] (a ∷ inputs) v shows at = absurd shows
shown_is_input (e ∷ row) [] v shows at = absurd shows
shown_is_input (None ∷ row) (a ∷ inputs) v shows at = inr (shown_is_input row inputs v shows.1 at)
shown_is_input (Some x ∷ row) (a ∷ inputs) v shows (inl e) = inl (sym shows.0 ∙ e)
shown_is_input (Some x ∷ row) (a ∷ inputs) v shows (inr more) = inr (shown_is_input row inputs v shows.1 more)

below_or_not : (a v : ℕ) → v ≤ a → cond {A = ℕ} (ltb a v) 1 0 ≡ 0
below_or_not a v low = by (ltb a v) refl
  where
    by : (b : Bool) → ltb a v ≡ b → cond {A = ℕ} b 1 0 ≡ 0
    by true less = let is = ltb-true a v less in absurd (omega (arith, is, low))
    by false more = refl

one_at_most : (b : Bool) → cond b 1 0 ≤ 1
one_at_most true = omega arith
one_at_most false = omega arith

-- an input below all that is there is one that isn't there
few_below : (row : List (Option ℕ)) (inputs : List ℕ) (v : ℕ) → ShowsInputs row inputs → ((w : ℕ) → In w (present row) → v ≤ w) → count_by (λ a. ltb a v) inputs + length (present row) ≤ length inputs
few_below [] [] v shows low = omega arith
few_below [] (a ∷ inputs) v shows low = absurd shows
few_below (e ∷ row) [] v shows low = absurd shows
few_below (None ∷ row) (a ∷ inputs) v shows low =
    let rest = few_below row inputs v shows.1 low in
    let first = sum_by-cons (λ b. cond (ltb b v) 1 0) a inputs in
    let one = one_at_most (ltb a v) in
    omega (arith, rest, first, one)
few_below (Some x ∷ row) (a ∷ inputs) v shows low =
    let rest = few_below row inputs v shows.1 (λ w at. low w (inr at)) in
    let first = sum_by-cons (λ b. cond (ltb b v) 1 0) a inputs in
    let none = below_or_not a v (let l = low x (inl refl) in let e = shows.0 in omega (arith, l, e)) in
    omega (arith, rest, first, none)

-- an input, of which at most f are less
pub record IsLow (inputs : List ℕ) (f v : ℕ) : Type 0 where
  pub input : In v inputs
  pub few : count_by (λ a. ltb a v) inputs ≤ f

low_by : (row : List (Option ℕ)) (inputs : List ℕ) (f v : ℕ) → f < length inputs → length row ≡ length inputs → ShowsInputs row inputs → length row - f ≤ length (present row) → least_of row ≡ v → IsLow inputs f v
low_by row inputs f v fewer long shows enough is =
    let least = least_among (present row) (omega (arith, fewer, long, enough)) in
    let count = few_below row inputs v shows (λ w at. subst (λ (u : ℕ). u ≤ w) is (least.0 w at)) in
    record {
      input = shown_is_input row inputs v shows (subst (λ (u : ℕ). In u (present row)) is least.1);
      few = omega (arith, count, fewer, long, enough);
    }

-- ---- different values

-- without one value
abbrev without : ℕ → List ℕ → List ℕ
without x xs = filter (λ y. not (eqb y x)) xs

not_same : (x y : ℕ) → x ≢ y → not (eqb x y) ≡ true
not_same x y n = rw (ne_eqb x y n) refl

kept_in : (b : Bool) (v y : ℕ) (ys : List ℕ) → In v ys → In v (cond b (y ∷ ys) ys)
kept_in true v y ys at = inr at
kept_in false v y ys at = at

pub in_without : (x v : ℕ) (xs : List ℕ) → v ≢ x → In v xs → In v (without x xs)
in_without x v [] other at = absurd at
in_without x v (y ∷ xs) other (inl e) = subst (λ (b : Bool). In v (cond b (y ∷ without x xs) (without x xs))) (sym (not_same y x (λ s. other (sym e ∙ s)))) (inl e)
in_without x v (y ∷ xs) other (inr more) = kept_in (not (eqb y x)) v y (without x xs) (in_without x v xs other more)

at_most_more : (b : Bool) (y : ℕ) (ys : List ℕ) → length (cond b (y ∷ ys) ys) ≤ length ys + 1
at_most_more true y ys = omega arith
at_most_more false y ys = omega arith

without_most : (x : ℕ) (xs : List ℕ) → length (without x xs) ≤ length xs
without_most x [] = omega arith
without_most x (y ∷ xs) = let rest = without_most x xs in let one = at_most_more (not (eqb y x)) y (without x xs) in omega (arith, rest, one)

without_less : (x : ℕ) (xs : List ℕ) → In x xs → length (without x xs) < length xs
without_less x [] at = absurd at
without_less x (y ∷ xs) (inl e) =
    let rest = without_most x xs in
    subst (λ (b : Bool). length (cond b (y ∷ without x xs) (without x xs)) < length (y ∷ xs)) (sym (ap not (eq-eqb y x e))) (omega (arith, rest))
without_less x (y ∷ xs) (inr more) = let rest = without_less x xs more in let one = at_most_more (not (eqb y x)) y (without x xs) in omega (arith, rest, one)

kept_from : (b : Bool) (v y : ℕ) (ys : List ℕ) → In v (cond b (y ∷ ys) ys) → In v (y ∷ ys)
kept_from true v y ys at = at
kept_from false v y ys at = inr at

in_more : (v y : ℕ) (xs ys : List ℕ) → (In v xs → In v ys) → In v (y ∷ xs) → In v (y ∷ ys)
in_more v y xs ys on (inl e) = inl e
in_more v y xs ys on (inr more) = inr (on more)

from_without : (x v : ℕ) (xs : List ℕ) → In v (without x xs) → In v xs
from_without x v [] at = absurd at
from_without x v (y ∷ xs) at = in_more v y (without x xs) xs (λ more. from_without x v xs more) (kept_from (not (eqb y x)) v y (without x xs) at)

kept_other : (b : Bool) (x v y : ℕ) (ys : List ℕ) → not (eqb y x) ≡ b → (In v ys → v ≢ x) → In v (cond b (y ∷ ys) ys) → v ≢ x
kept_other true x v y ys is rest (inl e) = λ s. absurd (let wrong : eqb y x ≡ true = eq-eqb y x (e ∙ s) in let t = ap not wrong in cc)
kept_other true x v y ys is rest (inr more) = rest more
kept_other false x v y ys is rest at = rest at

other_than : (x v : ℕ) (xs : List ℕ) → In v (without x xs) → v ≢ x
other_than x v [] at = absurd at
other_than x v (y ∷ xs) at = kept_other (not (eqb y x)) x v y (without x xs) refl (other_than x v xs) at

pub different_in : (v : ℕ) (xs : List ℕ) → In v (different xs) → In v xs
different_in v [] at = at
different_in v (x ∷ xs) (inl e) = inl e
different_in v (x ∷ xs) (inr more) = inr (different_in v xs (from_without x v (different xs) more))

-- A list is at most as long as another that has all of its elements, where each stands in it once.
abbrev Once : List ℕ → Type 0
Once [] = ⊤
Once (x ∷ xs) = ((v : ℕ) → In v xs → v ≢ x) × Once xs

once_kept : (b : Bool) (y : ℕ) (ys : List ℕ) → ((v : ℕ) → In v ys → v ≢ y) → Once ys → Once (cond b (y ∷ ys) ys)
once_kept true y ys first rest = (first, rest)
once_kept false y ys first rest = rest

once_without : (x : ℕ) (xs : List ℕ) → Once xs → Once (without x xs)
once_without x [] once = tt
once_without x (y ∷ xs) once = once_kept (not (eqb y x)) y (without x xs) (λ v at. once.0 v (from_without x v xs at)) (once_without x xs once.1)

once_different : (xs : List ℕ) → Once (different xs)
once_different [] = tt
once_different (x ∷ xs) = ((λ v at. other_than x v (different xs) at), once_without x (different xs) (once_different xs))

once_within : (xs all : List ℕ) → Once xs → ((v : ℕ) → In v xs → In v all) → length xs ≤ length all
once_within [] all once within = omega arith
once_within (x ∷ xs) all once within =
    let rest = once_within xs (without x all) once.1 (λ v at. in_without x v all (once.0 v at) (within v (inr at))) in
    let less = without_less x all (within x (inl refl)) in
    omega (arith, rest, less)

pub few_different : (xs all : List ℕ) → ((v : ℕ) → In v xs → In v all) → length (different xs) ≤ length all
few_different xs all within = once_within (different xs) all (once_different xs) (λ v at. within v (different_in v xs at))

-- ---- low values are few

-- a greatest element
pub record IsGreatest (xs : List ℕ) (g : ℕ) : Type 0 where
  pub there : In g xs
  pub most : (v : ℕ) → In v xs → v ≤ g

greatest_more : (x g : ℕ) (xs : List ℕ) → IsGreatest xs g → (x < g) ⊎ (g ≤ x) → (h : ℕ) × IsGreatest (x ∷ xs) h
greatest_more x g xs is (inl less) = (g, record { there = inr is.there; most = each })
  where
    each : (v : ℕ) → In v (x ∷ xs) → v ≤ g
    each v (inl e) = omega (arith, less, e)
    each v (inr more) = is.most v more
greatest_more x g xs is (inr least) = (x, record { there = inl refl; most = each })
  where
    each : (v : ℕ) → In v (x ∷ xs) → v ≤ x
    each v (inl e) = omega (arith, e)
    each v (inr more) = let low = is.most v more in omega (arith, low, least)

greatest_of : (x : ℕ) (xs : List ℕ) → (g : ℕ) × IsGreatest (x ∷ xs) g
greatest_of x [] = (x, record { there = inl refl; most = each })
  where
    each : (v : ℕ) → In v (x ∷ []) → v ≤ x
    each v (inl e) = omega (arith, e)
    each v (inr none) = absurd none
greatest_of x (y ∷ xs) = let rest = greatest_of y xs in greatest_more x rest.0 (y ∷ xs) rest.1 (cases_lt x rest.0)

below_in : (v g : ℕ) (xs : List ℕ) → v < g → In v xs → In v (filter (λ a. ltb a g) xs)
below_in v g [] less at = absurd at
below_in v g (x ∷ xs) less (inl e) =
    subst (λ (b : Bool). In v (cond b (x ∷ filter (λ a. ltb a g) xs) (filter (λ a. ltb a g) xs)))
    (sym (lt-ltb x g (omega (arith, less, e))))
    (inl e)
below_in v g (x ∷ xs) less (inr more) = kept_in (ltb x g) v x (filter (λ a. ltb a g) xs) (below_in v g xs less more)

pub few_low : (inputs : List ℕ) (f : ℕ) (xs : List ℕ) → ((v : ℕ) → In v xs → IsLow inputs f v) → length (different xs) ≤ f + 1
few_low inputs f [] low = omega arith
few_low inputs f (x ∷ xs) low =
    let top = greatest_of x xs in
    let count = few_different (x ∷ xs) (top.0 ∷ filter (λ a. ltb a top.0) inputs) (λ v at. by top.0 v at (top.1.most v at) (cases_lt v top.0)) in
    let long = length-filter (λ a. ltb a top.0) inputs in
    let few = (low top.0 top.1.there).few in
    omega (arith, count, long, few)
  where
    by : (g v : ℕ) → In v (x ∷ xs) → v ≤ g → (v < g) ⊎ (g ≤ v) → In v (g ∷ filter (λ a. ltb a g) inputs)
    by g v at high (inl less) = inr (below_in v g inputs less (low v at).input)
    by g v at high (inr more) = inl (omega (arith, more, high))

-- ---- along a run

-- what holds after each part of a run: each process has written its input alone, so each snapshot shows inputs, and what has been decided is
-- an input with few below it
pub record IsTrue (spec : RoomSpec) (f : ℕ) (before : List Event) : Type 0 where
  pub writes : (q : ℕ) → q < processes spec → IfSome (last_write before q) (λ v. v ≡ slice_index spec.inputs q)
  pub wrote : (q : ℕ) → IsWrite (latest (event_by q) before) → (v : ℕ) × (last_write before q ≡ Some v)
  pub sees : (p : ℕ) (row : List (Option ℕ)) → p < processes spec → latest (seen_by p) before ≡ Some row → ShowsInputs row spec.inputs × (slice_index_or row p None ≡ Some (slice_index spec.inputs p))
  pub decides : (v : ℕ) → In v (decided_in before) → IsLow spec.inputs f v

pub no_more : (before : List Event) (event : Event) → decided_by event ≡ None → decided_in (before ++ event ∷ []) ≡ decided_in before
no_more before event none = filter_map-append decided_by before (event ∷ []) ∙ by (decided_by event) none
  where
    by : (o : Option ℕ) → o ≡ None → decided_in before ++ filter_map (λ (x : Option ℕ). x) (o ∷ []) ≡ decided_in before
    by None is = append-nil (decided_in before)
    by (Some v) is = absurd cc

pub one_more : (before : List Event) (p v : ℕ) → decided_in (before ++ Decide p v ∷ []) ≡ decided_in before ++ v ∷ []
one_more before p v = filter_map-append decided_by before (Decide p v ∷ [])

in_either : (w : ℕ) (xs : List ℕ) (v : ℕ) (P : ℕ → Type 0) → ((u : ℕ) → In u xs → P u) → P v → In w (xs ++ v ∷ []) → P w
in_either w [] v P all one (inl e) = subst P e one
in_either w [] v P all one (inr none) = absurd none
in_either w (x ∷ xs) v P all one (inl e) = all w (inl e)
in_either w (x ∷ xs) v P all one (inr more) = in_either w xs v P (λ u at. all u (inr at)) one more

shows_long : (row : List (Option ℕ)) (inputs : List ℕ) → ShowsInputs row inputs → length row ≡ length inputs
shows_long [] [] shows = refl
shows_long [] (a ∷ inputs) shows = absurd shows
shows_long (e ∷ row) [] shows = absurd shows
shows_long (e ∷ row) (a ∷ inputs) shows = ap suc (shows_long row inputs shows.1)

module _ (spec : RoomSpec) (f : ℕ) (certified : IsCertified spec f) (before : List Event) (so_far : IsTrue spec f before) where
  -- what a process writes is its input
  writes_input : (p v : ℕ) (seen : Option (List (Option ℕ))) → p < processes spec → latest (seen_by p) before ≡ seen
      → option_map_or (λ row. next_action spec.protocol (slice_index spec.inputs p) p (count_by (is_snap_by p) before) row) seen (actions.Write (first_value spec.protocol (slice_index spec.inputs p) p (processes spec))) ≡ actions.Write v → v ≡ slice_index spec.inputs p
  writes_input p v None below is value =
      let first : actions.Write (slice_index spec.inputs p) ≡ actions.Write v = subst (λ (tree : Tree). actions.Write (first_value tree (slice_index spec.inputs p) p (processes spec)) ≡ actions.Write v) certified.protocol value in cc
  writes_input p v (Some row) below is value =
      let own = writes_again f (slice_index spec.inputs p) p (count_by (is_snap_by p) before) row v (subst (λ (tree : Tree). next_action tree (slice_index spec.inputs p) p (count_by (is_snap_by p) before) row ≡ actions.Write v) certified.protocol value) in
      sym own ∙ ap (λ (e : Option ℕ). unwrap_or e 0) (so_far.sees p row below is).1

  decides_low : (p v : ℕ) (seen : Option (List (Option ℕ))) → p < processes spec → latest (seen_by p) before ≡ seen
      → option_map_or (λ row. next_action spec.protocol (slice_index spec.inputs p) p (count_by (is_snap_by p) before) row) seen (actions.Write (first_value spec.protocol (slice_index spec.inputs p) p (processes spec))) ≡ actions.Decide v → IsLow spec.inputs f v
  decides_low p v None below is value = absurd cc
  decides_low p v (Some row) below is value =
      let own = decides_least_of f (slice_index spec.inputs p) p (count_by (is_snap_by p) before) row v (subst (λ (tree : Tree). next_action tree (slice_index spec.inputs p) p (count_by (is_snap_by p) before) row ≡ actions.Decide v) certified.protocol value) in
      let shows = (so_far.sees p row below is).0 in
      low_by row spec.inputs f v certified.fewer (shows_long row spec.inputs shows) shows own.0 own.1

  by_written : (p q v : ℕ) (b : Bool) → eqb p q ≡ b → q < processes spec → v ≡ slice_index spec.inputs p → IfSome (option_or (cond b (Some v) None) (last_write before q)) (λ w. w ≡ slice_index spec.inputs q)
  by_written p q v true here below is = is ∙ ap (λ (k : ℕ). slice_index spec.inputs k) (eqb-true p q here)
  by_written p q v false other below is = so_far.writes q below

  by_event : (p q v : ℕ) (b : Bool) → IsWrite (option_or (cond b (Some (Write p v)) None) (latest (event_by q) before)) → (w : ℕ) × (option_or (cond b (Some v) None) (last_write before q) ≡ Some w)
  by_event p q v true is = (v, refl)
  by_event p q v false is = so_far.wrote q is

  after_write : (p v : ℕ) → MayWrite spec before p v → IsTrue spec f (before ++ Write p v ∷ [])
  after_write p v may = record {
    writes = λ q below. rw (latest-push (written_by q) before (Write p v)) (by_written p q v (eqb p q) refl below (writes_input p v (latest (seen_by p) before) may.process refl may.value));
    wrote = λ q is. rw (latest-push (written_by q) before (Write p v)) (by_event p q v (eqb p q) (subst IsWrite (latest-push (event_by q) before (Write p v)) is));
    sees = λ q row below is. so_far.sees q row below (sym (latest-push (seen_by q) before (Write p v)) ∙ is);
    decides = λ w at. so_far.decides w (subst (In w) (no_more before (Write p v) refl) at);
  }

  not_write : (p q : ℕ) (event : Event) (b : Bool) → (IsWrite (Some event) → ⊥) → IsWrite (option_or (cond b (Some event) None) (latest (event_by q) before)) → IsWrite (latest (event_by q) before)
  not_write p q event true not is = absurd (not is)
  not_write p q event false not is = is

  by_row : (p q : ℕ) (row seen : List (Option ℕ)) (b : Bool) → eqb p q ≡ b → q < processes spec → MaySnap spec before p row → option_or (cond b (Some row) None) (latest (seen_by q) before) ≡ Some seen → ShowsInputs seen spec.inputs × (slice_index_or seen q None ≡ Some (slice_index spec.inputs q))
  by_row p q row seen true here below may is =
      let same : row ≡ seen = cc in
      let one : p ≡ q = eqb-true p q here in
      let wrote = so_far.wrote p may.in_turn in
      let value : wrote.0 ≡ slice_index spec.inputs p = subst (λ (e : Option ℕ). IfSome e (λ w. w ≡ slice_index spec.inputs p)) wrote.1 (so_far.writes p may.process) in
      subst (λ (r : List (Option ℕ)). ShowsInputs r spec.inputs × (slice_index_or r q None ≡ Some (slice_index spec.inputs q))) same
      (subst (λ (k : ℕ). ShowsInputs row spec.inputs × (slice_index_or row k None ≡ Some (slice_index spec.inputs k))) one (
        shows_from row spec.inputs may.width (λ k low. subst (λ (e : Option ℕ). IfSome e (λ w. w ≡ slice_index spec.inputs k)) (sym (may.entries k low)) (so_far.writes k low)),
        may.entries p may.process ∙ wrote.1 ∙ ap Some value,
      ))
  by_row p q row seen false other below may is = so_far.sees q seen below is

  after_decide : (p v : ℕ) → MayDecide spec before p v → IsTrue spec f (before ++ Decide p v ∷ [])
  after_decide p v may = record {
    writes = λ q below. rw (latest-push (written_by q) before (Decide p v)) (so_far.writes q below);
    wrote = λ q is. rw (latest-push (written_by q) before (Decide p v)) (so_far.wrote q (not_write p q (Decide p v) (eqb p q) (λ w. w) (subst IsWrite (latest-push (event_by q) before (Decide p v)) is)));
    sees = λ q row below is. so_far.sees q row below (sym (latest-push (seen_by q) before (Decide p v)) ∙ is);
    decides = λ w at. in_either w (decided_in before) v (IsLow spec.inputs f) so_far.decides (decides_low p v (latest (seen_by p) before) may.process refl may.value) (subst (In w) (one_more before p v) at);
  }

  true_push : (event : Event) → IsEnabled spec before event → IsTrue spec f (before ++ event ∷ [])
  true_push (Write p v) may = after_write p v may
  true_push (Snap p row) may = record {
    writes = λ q below. rw (latest-push (written_by q) before (Snap p row)) (so_far.writes q below);
    wrote = λ q is. rw (latest-push (written_by q) before (Snap p row)) (so_far.wrote q (not_write p q (Snap p row) (eqb p q) (λ w. w) (subst IsWrite (latest-push (event_by q) before (Snap p row)) is)));
    sees = λ q seen below is. by_row p q row.items seen (eqb p q) refl below may (sym (latest-push (seen_by q) before (Snap p row)) ∙ is);
    decides = λ w at. so_far.decides w (subst (In w) (no_more before (Snap p row) refl) at);
  }
  true_push (Decide p v) may = after_decide p v may

true_nil : (spec : RoomSpec) (f : ℕ) → IsTrue spec f []
true_nil spec f = record { writes = λ q below. tt; wrote = λ q is. absurd is; sees = λ p row below is. absurd cc; decides = λ v at. absurd at }

true_at : (spec : RoomSpec) (f : ℕ) → IsCertified spec f → (events : List Event) → IsRun spec events → (t : ℕ) → t ≤ length events → IsTrue spec f (take t events)
true_at spec f certified events run zero within = subst (IsTrue spec f) refl (true_nil spec f)
true_at spec f certified events run (suc t) within =
    let d = Decide 0 0 in
    let event = get_or events t d in
    let there = slice_get-get_or events t d (omega arith) in
    subst (IsTrue spec f) (sym (take_more events t d (omega arith)) ∙ ap (λ (k : ℕ). take k events) (let e : t + 1 ≡ suc t = omega arith in e))
    (true_push spec f certified (take t events) (true_at spec f certified events run t (omega arith)) event (run t event there))

pub true_after : (spec : RoomSpec) (f : ℕ) → IsCertified spec f → (events : List Event) → IsRun spec events → IsTrue spec f events
true_after spec f certified events run = subst (IsTrue spec f) (take_all (length events) events (omega arith)) (true_at spec f certified events run (length events) (omega arith))

-- Chaudhuri's bound
pub decides_inputs : (spec : RoomSpec) (f : ℕ) (events : List Event) → IsCertified spec f → IsRun spec events → (v : ℕ) → Contains (decided_in events) v → Contains spec.inputs v
decides_inputs spec f events certified run v at = in_contains v spec.inputs ((true_after spec f certified events run).decides v (contains_in v (decided_in events) at)).input

pub decides_few : (spec : RoomSpec) (f : ℕ) (events : List Event) → IsCertified spec f → IsRun spec events → length (different (decided_in events)) ≤ f + 1
decides_few spec f events certified run = few_low spec.inputs f (decided_in events) (true_after spec f certified events run).decides

at_end : (w : ℕ) (xs : List ℕ) → In w (xs ++ w ∷ [])
at_end w [] = inl refl
at_end w (x ∷ xs) = inr (at_end w xs)

-- So it keeps each task that allows as many.
keeps_at : (spec : RoomSpec) (f most : ℕ) (events : List Event) → IsCertified spec f → IsRun spec events → f + 1 ≤ most → (t : ℕ) (event : Event) → slice_get events t ≡ Some event → IsInTask spec most (take t events) event
keeps_at spec f most events certified run enough t (Write p v) there = tt
keeps_at spec f most events certified run enough t (Snap p row) there = tt
keeps_at spec f most events certified run enough t (Decide p v) there =
    let within = slice_get_within events t (Decide p v) there in
    let before = true_at spec f certified events run t (omega (arith, within)) in
    let after = true_push spec f certified (take t events) before (Decide p v) (run t (Decide p v) there) in
    let few = few_low spec.inputs f (decided_in (take t events ++ Decide p v ∷ [])) after.decides in
    record {
      input = in_contains v spec.inputs (after.decides v (subst (In v) (sym (one_more (take t events) p v)) (at_end v (decided_in (take t events))))).input;
      few = let same = ap (λ (xs : List ℕ). length (different xs)) (one_more (take t events) p v) in omega (arith, few, same, enough);
    }

pub keeps_task : (spec : RoomSpec) (f most : ℕ) (events : List Event) → IsCertified spec f → IsRun spec events → f + 1 ≤ most → KeepsTask spec most events
keeps_task spec f most events certified run enough = keeps_at spec f most events certified run enough
