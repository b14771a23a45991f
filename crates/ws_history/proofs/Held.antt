-- At most as many processes are held as simulators have crashed.
use Rattle.std.proofs.Common.{◌≡◌, ◌≢◌, ℕ, zero, suc, ◌+◌, ◌-◌, ◌<◌, ◌≤◌, ◌&&◌, Bool, true, false, not, cond, eqb, is_some, map, List, [], ◌∷◌, length, Contains, Option, Some, None, inl, inr, refl, sym, subst, arith}
use Rattle.std.specs.Prelude.{◌||◌}
use Rattle.std.specs.Option.{option_map}
use Rattle.std.specs.List.{range_with_len, list_any, filter, find, count_by}
use Rattle.std.proofs.lemmas.Bool.{cases_Bool, and_parts, eqb-true, or_cases}
use Rattle.std.proofs.lemmas.List.Folds.{Any-from_list_any}
use Rattle.std.proofs.lemmas.List.Sums.{sum_by-cons}
use mathlib.Core.Logic.{dite}
use native.Mathlib.Decide.{ℕ_discrete}
use Rattle.room_spec.specs.Rooms.{RoomSpec, IsWithinLimits, is_reduction, processes}
use Rattle.room_core.specs.Calls.{RoomState}
use Rattle.room_core.specs.Fields.{Fields}
use Rattle.room_core.specs.Reading.{AreFieldsOf}
use Rattle.room_core.specs.Agreements.{decided_in, has_out, is_out, outs_at}
use Rattle.room_core.proofs.CallerLemmas.{fields_stand, no_more_pass, one_inside}
use Rattle.ws_history.specs.declared.states.ProcessState.TheVariants.{Held}
use Rattle.ws_history.proofs.Order.{cons_first, cons_rest}
use Rattle.room_core.specs.Settled.{crashed_in}
use Rattle.ws_history.specs.Reports.{is_held, is_inside, is_spent, held_by, held_in, state_by, state_of, states_of}

-- ---- lists

found_in_range : (p : ℕ → Bool) (a n i : ℕ) → find p (range_with_len a n) ≡ Some i → (a ≤ i) × (i < a + n) × (p i ≡ true)
found_in_range p a zero i is = absurd cc
found_in_range p a (suc n) i is = elim (cases_Bool (p a)) [
  | inl yes_it ↦
      let here : Some a ≡ Some i = rw yes_it at is in
      let same : a ≡ i = cc in
      (omega arith, omega arith, subst (λ (x : ℕ). p x ≡ true) same yes_it)
  | inr no_it ↦
      let more = found_in_range p (a + 1) n i (rw no_it at is) in
      let low = more.0 in
      let high = more.1 in
      (omega arith, omega arith, more.2)
]

length_of_kept : (b : Bool) (x : ℕ) (rest : List ℕ) → length (cond b (x ∷ rest) rest) ≡ cond b 1 0 + length rest
length_of_kept true x rest = omega arith
length_of_kept false x rest = omega arith

count_is_length : {A : Type 0} (p : A → Bool) (f : ℕ → A) (xs : List ℕ) → count_by p (map f xs) ≡ length (filter (λ x. p (f x)) xs)
count_is_length p f [] = refl
count_is_length p f (x ∷ xs) =
    let more = count_is_length p f xs in
    let first = sum_by-cons (λ y. cond (p y) 1 0) (f x) (map f xs) in
    let kept = length_of_kept (p (f x)) x (filter (λ y. p (f y)) xs) in
    omega (arith, more, first, kept)

-- ---- the processes that are held

holder_of : (out : Option ℕ) (spent : Bool) (holder : Option ℕ) → is_held (state_by out spent holder) ≡ true → (i : ℕ) × (holder ≡ Some i)
holder_of (Some v) spent holder is = absurd cc
holder_of None true holder is = absurd cc
holder_of None false (Some i) is = (i, refl)
holder_of None false None is = absurd cc

some_of : (holder : Option ℕ) → is_some holder ≡ true → (i : ℕ) × (holder ≡ Some i)
some_of (Some i) is = (i, refl)
some_of None is = absurd cc

-- ---- those that are held are among those with no decision inside whose agreements somebody has crashed

contains_kept : (b : Bool) (x q : ℕ) (rest : List ℕ) → Contains rest q → Contains (cond b (x ∷ rest) rest) q
contains_kept true x q rest has = cons_rest x rest q has
contains_kept false x q rest has = has

contains_here : (b : Bool) (x : ℕ) (rest : List ℕ) → b ≡ true → Contains (cond b (x ∷ rest) rest) x
contains_here true x rest is = cons_first x rest
contains_here false x rest is = absurd cc

passes_in_range : (p : ℕ → Bool) (a n q : ℕ) → a ≤ q → q < a + n → p q ≡ true → Contains (filter p (range_with_len a n)) q
passes_in_range p a zero q low high is = absurd (omega arith)
passes_in_range p a (suc n) q low high is = dite (ℕ_discrete q a)
    (λ (e : q ≡ a).
    subst (λ (x : ℕ). Contains (filter p (range_with_len a (suc n))) x) (sym e) (contains_here (p a) a (filter p (range_with_len (a + 1) n)) (subst (λ (x : ℕ). p x ≡ true) e is)))
    (λ (other : q ≢ a). contains_kept (p a) a q (filter p (range_with_len (a + 1) n)) (passes_in_range p (a + 1) n q (omega (arith, other)) (omega arith) is))

none_of : (b : Bool) (found : Option ℕ) (rest : Bool) (x : ℕ) → option_map (λ (out : ℕ). out - 1) (cond b (Some x) found) ≡ None → (option_map (λ (out : ℕ). out - 1) found ≡ None → rest ≡ false) → (b || rest) ≡ false
none_of true found rest x is more = absurd cc
none_of false found rest x is more = more is

none_found : (outs : List ℕ) → option_map (λ (out : ℕ). out - 1) (find is_out outs) ≡ None → list_any is_out outs ≡ false
none_found [] none = refl
none_found (x ∷ outs) none = none_of (is_out x) (find is_out outs) (list_any is_out outs) x none (none_found outs)

held_is : (out : Option ℕ) (spent : Bool) (holder : Option ℕ) (i : ℕ) → state_by out spent holder ≡ Held i → (out ≡ None) × (is_some holder ≡ true)
held_is (Some v) spent holder i is = absurd cc
held_is None true holder i is = absurd cc
held_is None false (Some h) i is = (refl, refl)
held_is None false None i is = absurd cc

pub held_among : (spec : RoomSpec) (fields : Fields) (j i : ℕ) → j < processes spec → state_of spec fields j ≡ Held i → Contains (held_in spec fields) j
held_among spec fields j i below is =
    let both = held_is (decided_in spec fields j) (is_spent spec fields j) (held_by spec fields j) i is in
    let open_yet : has_out spec fields j ≡ false = none_found (outs_at spec fields j) both.0 in
    passes_in_range (λ q. not (has_out spec fields q) && is_some (held_by spec fields q)) 0 (processes spec) j (omega arith) (omega arith) (rw (open_yet, both.1) refl)

-- who is inside an agreement of a process is at level 1 in one
pub level_one : (spec : RoomSpec) (fields : Fields) (i j : ℕ) → is_inside spec fields i j ≡ true → (k : ℕ) × (fields.level i j k ≡ 1)
level_one spec fields i j inside = elim (or_cases _ _ inside) [
  | inl first ↦ (0, eqb-true _ _ (and_parts (is_reduction spec) (eqb (fields.level i j 0) 1) first).1)
  | inr later ↦
      let some = Any-from_list_any (λ k. eqb (fields.level i j k) 1) (range_with_len 1 spec.rounds) later in
      (some.1, eqb-true _ _ some.4)
]

module _ (room : RoomState) (fields : Fields) (limits : IsWithinLimits room.spec) (are : AreFieldsOf room fields) where
  -- the process on which the open turn of a simulator works
  abbrev sweep_of : ℕ → ℕ
  sweep_of i = (fields.mind i).process

  -- whoever has crashed inside an agreement of a process works on it
  held_at : (j i : ℕ) → held_by room.spec fields j ≡ Some i → (i < room.spec.simulators) × (fields.crashed i ≡ true) × (sweep_of i ≡ j)
  held_at j i is =
      let at = found_in_range (λ a. fields.crashed a && is_inside room.spec fields a j) 0 room.spec.simulators i is in
      let parts = and_parts (fields.crashed i) (is_inside room.spec fields i j) at.2 in
      let one = level_one room.spec fields i j parts.1 in
      let low = at.1 in
      (omega (arith, low), parts.0, (one_inside room.spec fields (fields_stand room fields limits are).tracks i j one.0 one.1).process)

  -- processes on each of which one that has crashed works
  few : (p : ℕ → Bool) → ((j : ℕ) → p j ≡ true → (i : ℕ) × (held_by room.spec fields j ≡ Some i)) → length (filter p (range_with_len 0 (processes room.spec))) ≤ length (crashed_in room.spec fields)
  few p each = no_more_pass p fields.crashed sweep_of (processes room.spec) room.spec.simulators
      (λ j low is. let holder = each j is in let at = held_at j holder.0 holder.1 in (holder.0, at.0, at.1, at.2))

  pub held_at_most : count_by is_held (states_of room.spec fields) ≤ length (crashed_in room.spec fields)
  held_at_most =
      let count = count_is_length is_held (state_of room.spec fields) (range_with_len 0 (processes room.spec)) in
      let most = few (λ j. is_held (state_of room.spec fields j)) (λ j is. holder_of (decided_in room.spec fields j) (is_spent room.spec fields j) (held_by room.spec fields j) is) in
      omega (arith, most, count)

  pub inside_at_most : length (held_in room.spec fields) ≤ length (crashed_in room.spec fields)
  inside_at_most = few (λ j. not (has_out room.spec fields j) && is_some (held_by room.spec fields j))
      (λ j is. some_of (held_by room.spec fields j) (and_parts (not (has_out room.spec fields j)) (is_some (held_by room.spec fields j)) is).1)
