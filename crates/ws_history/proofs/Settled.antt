-- What has become of the processes of a room that has settled: at most as many as simulators have crashed are held, and all others
-- have decided or are spent.
use Rattle.std.proofs.Common.{◌≡◌, ℕ, zero, suc, ◌+◌, ◌-◌, ◌<◌, ◌≤◌, ◌&&◌, ◌||◌, Bool, true, false, cond, eqb, map, List, [], ◌∷◌, length, Option, Some, None, inl, inr, refl, sym, ap, ◌∙◌, arith}
use Rattle.std.specs.List.{count_by, find, list_any, range_with_len}
use Rattle.std.specs.Option.{option_map}
use Rattle.std.proofs.lemmas.Bool.{cases_Bool, and_from, eq-eqb, or_left, or_right}
use Rattle.std.proofs.lemmas.List.Sums.{sum_by-cons}
use mathlib.Core.Logic.{dite}
use native.Mathlib.Decide.{ℕ_discrete}
use Rattle.room_spec.specs.Rooms.{RoomSpec, IsWithinLimits, is_reduction, processes}
use Rattle.room_core.specs.Calls.{RoomState}
use Rattle.room_core.specs.Fields.{Fields}
use Rattle.room_core.specs.Reading.{AreFieldsOf}
use Rattle.room_core.specs.Agreements.{decided_in, is_resolved, is_out, outs_at}
use Rattle.room_core.specs.Settled.{IsSettledFor, decided, spent, held, held_input, crashed_in, is_write}
use Rattle.ws_history.specs.declared.states.ProcessState.{ProcessState}
use Rattle.ws_history.specs.Reports.{held_by, is_held, is_inside, is_over, is_spent, state_by, state_of, states_of}
use Rattle.ws_history.proofs.Held.{held_at_most}

pub any_found : (p : ℕ → Bool) (xs : List ℕ) → list_any p xs ≡ true → (x : ℕ) × (find p xs ≡ Some x)
any_found p [] has = absurd cc
any_found p (x ∷ xs) has = elim (cases_Bool (p x)) [
  | inl here ↦ (x, ap (λ (b : Bool). cond b (Some x) (find p xs)) here)
  | inr fails ↦
      let more = any_found p xs (ap (λ (b : Bool). b || list_any p xs) (sym fails) ∙ has) in
      (more.0, ap (λ (b : Bool). cond b (Some x) (find p xs)) fails ∙ more.1)
]

range_any : (p : ℕ → Bool) (a n i : ℕ) → a ≤ i → i < a + n → p i ≡ true → list_any p (range_with_len a n) ≡ true
range_any p a zero i low high is = absurd (omega arith)
range_any p a (suc n) i low high is = dite (ℕ_discrete i a)
    (λ (e : i ≡ a). or_left (p a) (list_any p (range_with_len (a + 1) n)) (ap p (sym e) ∙ is))
    (λ other. or_right (p a) (list_any p (range_with_len (a + 1) n)) (range_any p (a + 1) n i (omega (arith, other)) (omega arith) is))

-- held, decided or spent
abbrev IsPlain : ProcessState → Type 0
IsPlain state = (is_held state || is_over state) ≡ true

plain_out : (out : Option ℕ) (is_spent : Bool) (holder : Option ℕ) (v : ℕ) → out ≡ Some v → IsPlain (state_by out is_spent holder)
plain_out (Some w) is_spent holder v is = refl
plain_out None is_spent holder v is = absurd cc

plain_spent : (out : Option ℕ) (is_spent : Bool) (holder : Option ℕ) → is_spent ≡ true → IsPlain (state_by out is_spent holder)
plain_spent (Some v) is_spent holder is = refl
plain_spent None true holder is = refl
plain_spent None false holder is = absurd cc

plain_held : (out : Option ℕ) (is_spent : Bool) (holder : Option ℕ) (i : ℕ) → holder ≡ Some i → IsPlain (state_by out is_spent holder)
plain_held (Some v) is_spent holder i is = refl
plain_held None true holder i is = refl
plain_held None false (Some h) i is = refl
plain_held None false None i is = absurd cc

plain_inside : (spec : RoomSpec) (fields : Fields) (i j : ℕ) → i < spec.simulators → fields.crashed i ≡ true → is_inside spec fields i j ≡ true → IsPlain (state_of spec fields j)
plain_inside spec fields i j below crashed inside =
    let there = range_any (λ a. fields.crashed a && is_inside spec fields a j) 0 spec.simulators i (omega arith) (omega arith) (and_from (fields.crashed i) (is_inside spec fields i j) crashed inside) in
    let holder = any_found (λ a. fields.crashed a && is_inside spec fields a j) (range_with_len 0 spec.simulators) there in
    plain_held (decided_in spec fields j) (is_spent spec fields j) (held_by spec fields j) holder.0 holder.1

plain : (spec : RoomSpec) (fields : Fields) (j : ℕ) → IsSettledFor spec fields j → IsPlain (state_of spec fields j)
plain spec fields j (decided has) =
    let first = any_found is_out (outs_at spec fields j) has in
    plain_out (decided_in spec fields j) (is_spent spec fields j) (held_by spec fields j) (first.0 - 1) (ap (λ (out : Option ℕ). option_map (λ o. o - 1) out) first.1)
plain spec fields j (spent value resolved write) = plain_spent (decided_in spec fields j) (is_spent spec fields j) (held_by spec fields j) (and_from (is_resolved spec fields j spec.rounds) _ resolved (ap is_write write))
plain spec fields j (held i k below crashed first last one) =
    plain_inside spec fields i j below crashed (or_right _ _ (range_any (λ r. eqb (fields.level i j r) 1) 1 spec.rounds k first (omega arith) (eq-eqb (fields.level i j k) 1 one)))
plain spec fields j (held_input i is below crashed one) =
    plain_inside spec fields i j below crashed (or_left _ _ (and_from (is_reduction spec) _ is (eq-eqb (fields.level i j 0) 1 one)))

at_least_one : (a b : Bool) → (a || b) ≡ true → 1 ≤ cond a 1 0 + cond b 1 0
at_least_one true b is = omega arith
at_least_one false true is = omega arith
at_least_one false false is = absurd cc

all_counted : (f : ℕ → ProcessState) (a n : ℕ) → ((j : ℕ) → a ≤ j → j < a + n → IsPlain (f j)) → n ≤ count_by is_held (map f (range_with_len a n)) + count_by is_over (map f (range_with_len a n))
all_counted f a zero each = omega arith
all_counted f a (suc n) each =
    let rest = map f (range_with_len (a + 1) n) in
    let more = all_counted f (a + 1) n (λ j low high. each j (omega arith) (omega arith)) in
    let held_first = sum_by-cons (λ state. cond (is_held state) 1 0) (f a) rest in
    let over_first = sum_by-cons (λ state. cond (is_over state) 1 0) (f a) rest in
    let one = at_least_one (is_held (f a)) (is_over (f a)) (each a (omega arith) (omega arith)) in
    omega (arith, more, held_first, over_first, one)

pub most_are_over : (room : RoomState) (fields : Fields) → IsWithinLimits room.spec → AreFieldsOf room fields → ((j : ℕ) → j < processes room.spec → IsSettledFor room.spec fields j)
    → processes room.spec ≤ count_by is_over (states_of room.spec fields) + length (crashed_in room.spec fields)
most_are_over room fields limits are each =
    let counted = all_counted (state_of room.spec fields) 0 (processes room.spec) (λ j low high. plain room.spec fields j (each j (omega arith))) in
    let few = held_at_most room fields limits are in
    omega (arith, counted, few)
