-- States of rooms of a protocol by which a process waits for all but f.
use Rattle.std.proofs.Common.{◌≡◌, ◌≢◌, ◌⊎◌, ℕ, zero, suc, ◌+◌, ◌<◌, ◌≤◌, ◌&&◌, Bool, true, false, cond, map, length, List, ◌∷◌, Option, Some, None, inl, inr, refl, sym, ap, ◌∙◌, arith}
use Rattle.std.specs.List.{count_by, filter, range_with_len}
use Rattle.std.proofs.lemmas.Bool.{and_from, and_parts, or_left}
use Rattle.std.proofs.lemmas.List.Sums.{sum_by-cons}
use Rattle.protocol_lang.specs.declared.meaning.Action.{Action}
use Rattle.protocol_lang.specs.declared.meaning.Action.TheVariants as actions
use Rattle.room_spec.specs.Rooms.{IsCertified, IsWithinLimits, RoomSpec, is_reduction, processes}
use Rattle.room_core.specs.Agreements.{HasAgreed, asks, decided_in, is_resolved, is_fixed}
use Rattle.room_core.specs.Calls.{RoomState}
use Rattle.room_core.specs.Fields.{Fields}
use Rattle.room_core.specs.Reading.{AreFieldsOf}
use Rattle.room_core.specs.Settled.{IsSettledFor, crashed_in, is_out_of_rounds, is_write}
use Rattle.room_core.proofs.CallerLemmas.{few_out, none_spent, rooms_agree, test_of}
use Rattle.ws_history.specs.declared.states.ProcessState.{ProcessState}
use Rattle.ws_history.specs.declared.states.ProcessState.TheVariants.{Spent}
use Rattle.ws_history.specs.Reports.{held_by, is_decided, is_over, is_spent, state_by, state_of, states_of}
use Rattle.ws_history.proofs.Settled.{most_are_over}

unspent_by : (b : Bool) (action : Action) → (b ≡ true → (v : ℕ) → action ≡ actions.Write v → ⊥) → (b && is_write action) ≡ false
unspent_by true (actions.Write v) never = absurd (never refl v refl)
unspent_by true (actions.Decide v) _ = refl
unspent_by false action _ = refl

module _ (room : RoomState) (fields : Fields) (limits : IsWithinLimits room.spec) (are : AreFieldsOf room fields) (f : ℕ) (certified : IsCertified room.spec f) (which : (is_reduction room.spec ≡ false) ⊎ (room.spec.simulators ≤ f + 1)) where
  unspent : 2 ≤ room.spec.rounds → (j : ℕ) → j < processes room.spec → is_spent room.spec fields j ≡ false
  unspent two j within =
      unspent_by (is_resolved room.spec fields j room.spec.rounds) (asks room.spec fields j room.spec.rounds) (λ resolved v is. none_spent room fields limits are f certified which j v two within resolved is)

-- ---- states

not_spent_by : (out : Option ℕ) (spent : Bool) (holder : Option ℕ) → spent ≡ false → (state_by out spent holder ≢ Spent) × (is_over (state_by out spent holder) ≡ is_decided (state_by out spent holder))
not_spent_by (Some v) spent holder is = ((λ e. absurd cc), refl)
not_spent_by None true holder is = absurd cc
not_spent_by None false (Some i) is = ((λ e. absurd cc), refl)
not_spent_by None false None is = ((λ e. absurd cc), refl)

over_is_decided : (states : ℕ → ProcessState) (a n : ℕ) → ((j : ℕ) → a ≤ j → j < a + n → is_over (states j) ≡ is_decided (states j)) → count_by is_over (map states (range_with_len a n)) ≡ count_by is_decided (map states (range_with_len a n))
over_is_decided states a zero same = refl
over_is_decided states a (suc n) same =
    let rest = map states (range_with_len (a + 1) n) in
    let more = over_is_decided states (a + 1) n (λ j low high. same j (omega arith) (omega arith)) in
    sum_by-cons (λ state. cond (is_over state) 1 0) (states a) rest
    ∙ ap (λ (b : Bool). cond {A = ℕ} b 1 0 + count_by is_over rest) (same a (omega arith) (omega arith))
    ∙ ap (λ (k : ℕ). cond {A = ℕ} (is_decided (states a)) 1 0 + k) more
    ∙ sym (sum_by-cons (λ state. cond (is_decided state) 1 0) (states a) rest)

module _ (room : RoomState) (fields : Fields) (limits : IsWithinLimits room.spec) (are : AreFieldsOf room fields) (f : ℕ) (certified : IsCertified room.spec f) (which : (is_reduction room.spec ≡ false) ⊎ (room.spec.simulators ≤ f + 1)) (two : 2 ≤ room.spec.rounds) where
  pub not_spent : (j : ℕ) → j < processes room.spec → state_of room.spec fields j ≢ Spent
  not_spent j within = (not_spent_by (decided_in room.spec fields j) (is_spent room.spec fields j) (held_by room.spec fields j) (unspent room fields limits are f certified which two j within)).0

  pub most_are_decided : ((j : ℕ) → j < processes room.spec → IsSettledFor room.spec fields j) → processes room.spec ≤ count_by is_decided (states_of room.spec fields) + length (crashed_in room.spec fields)
  most_are_decided each =
      let over = most_are_over room fields limits are each in
      let same = over_is_decided (state_of room.spec fields) 0 (processes room.spec) (λ j low high. (not_spent_by (decided_in room.spec fields j) (is_spent room.spec fields j) (held_by room.spec fields j) (unspent room fields limits are f certified which two j (omega (arith, high)))).1) in
      omega (arith, over, same)

-- ---- also in a reduction, and in one round

-- one that is over has decided, or is out of rounds
over_by : (out : Option ℕ) (spent : Bool) (holder : Option ℕ) → is_over (state_by out spent holder) ≡ true → (is_decided (state_by out spent holder) ≡ true) ⊎ (spent ≡ true)
over_by (Some v) spent holder over = inl refl
over_by None true holder over = inr refl
over_by None false (Some i) over = absurd cc
over_by None false None over = absurd cc

spent_out : (spec : RoomSpec) (fields : Fields) → HasAgreed spec fields → 1 ≤ spec.rounds → (j : ℕ) → j < processes spec → is_spent spec fields j ≡ true → is_out_of_rounds spec fields j ≡ true
spent_out spec fields has some j low spent =
    let parts = and_parts (is_resolved spec fields j spec.rounds) (is_write (asks spec fields j spec.rounds)) spent in
    and_from (is_fixed spec fields j spec.rounds) _ (test_of spec fields j spec.rounds (has.passed_is_fixed j spec.rounds low some (or_left _ _ (or_left _ _ parts.0)))) parts.1

kept_length : (b : Bool) (x : ℕ) (rest : List ℕ) → length (cond b (x ∷ rest) rest) ≡ cond b 1 0 + length rest
kept_length true x rest = omega arith
kept_length false x rest = omega arith

at_most : (over decided out : Bool) → (over ≡ true → (decided ≡ true) ⊎ (out ≡ true)) → cond {A = ℕ} over 1 0 ≤ cond decided 1 0 + cond out 1 0
at_most false decided out each = omega arith
at_most true true out each = omega arith
at_most true false true each = omega arith
at_most true false false each = elim (each refl) [ inl is ↦ absurd cc | inr is ↦ absurd cc ]

over_at_most : (states : ℕ → ProcessState) (out : ℕ → Bool) (a n : ℕ) → ((j : ℕ) → a ≤ j → j < a + n → is_over (states j) ≡ true → (is_decided (states j) ≡ true) ⊎ (out j ≡ true))
    → count_by is_over (map states (range_with_len a n)) ≤ count_by is_decided (map states (range_with_len a n)) + length (filter out (range_with_len a n))
over_at_most states out a zero each = omega arith
over_at_most states out a (suc n) each =
    let rest = map states (range_with_len (a + 1) n) in
    let more = over_at_most states out (a + 1) n (λ j low high. each j (omega arith) (omega arith)) in
    let over_first = sum_by-cons (λ state. cond (is_over state) 1 0) (states a) rest in
    let decided_first = sum_by-cons (λ state. cond (is_decided state) 1 0) (states a) rest in
    let kept = kept_length (out a) a (filter out (range_with_len (a + 1) n)) in
    let first = at_most (is_over (states a)) (is_decided (states a)) (out a) (each a (omega arith) (omega arith)) in
    omega (arith, more, over_first, decided_first, kept, first)

module _ (room : RoomState) (fields : Fields) (limits : IsWithinLimits room.spec) (are : AreFieldsOf room fields) (f : ℕ) (certified : IsCertified room.spec f) where
  pub more_than_f : ((j : ℕ) → j < processes room.spec → IsSettledFor room.spec fields j) → f < count_by is_decided (states_of room.spec fields) + length (crashed_in room.spec fields)
  more_than_f each =
      let over = most_are_over room fields limits are each in
      let some = limits.shape.rounds_range.0 in
      let few = few_out room fields limits are f certified in
      let out = over_at_most (state_of room.spec fields) (is_out_of_rounds room.spec fields) 0 (processes room.spec) (λ j low high is. over_is j (omega (arith, high)) is) in
      omega (arith, over, few, out)
    where
      over_is : (j : ℕ) → j < processes room.spec → is_over (state_of room.spec fields j) ≡ true → (is_decided (state_of room.spec fields j) ≡ true) ⊎ (is_out_of_rounds room.spec fields j ≡ true)
      over_is j low is = elim (over_by (decided_in room.spec fields j) (is_spent room.spec fields j) (held_by room.spec fields j) is) [
        | inl decided ↦ inl decided
        | inr spent ↦ inr (spent_out room.spec fields (rooms_agree room fields limits are) (limits.shape.rounds_range.0) j low spent)
      ]
