-- Reductions of a protocol by which a process waits for all but f, with at most f + 1 simulators: with two rounds or more no process is
-- spent, since what was agreed on in a later round shows all but fewer processes than there are simulators.
use Rattle.std.proofs.Common.{◌≡◌, ◌≢◌, ◌⊎◌, inl, inr, ℕ, ◌+◌, ◌<◌, ◌≤◌, ◌&&◌, Bool, true, false, cond, eqb, ltb, get_or, length, Option, refl, sym, ap, ◌∙◌, subst, take, arith}
use Rattle.std.specs.Prelude.{slice_index, unwrap_or}
use Rattle.std.specs.List.{filter, range_with_len}
use Rattle.std.proofs.lemmas.Bool.{and_from, eq-eqb}
use Rattle.std.proofs.lemmas.List.FromFn.{get_or-range_with_len, length-range_with_len}
use Rattle.std.proofs.lemmas.List.Folds.{list_any_at}
use mathlib.Core.Logic.{dite}
use native.Mathlib.Decide.{ℕ_discrete}
use Rattle.protocol_lang.specs.Meaning.{present}
use Rattle.protocol_lang.specs.declared.meaning.Action.TheVariants as actions
use Rattle.room_spec.specs.Rooms.{IsCertified, RoomSpec, IsWithinLimits, is_reduction, processes}
use Rattle.sim_memory.specs.Steps.{merged_of}
use Rattle.sim_memory.proofs.CallerLemmas.{merged_at, merged_reached, row_at}
use Rattle.room_core.specs.Agreements.{IsFixedAt, asks, greatest_step, has_out, is_resolved, shown, shown_by, view_at}
use Rattle.room_core.specs.Agreements as agreed
use Rattle.room_core.specs.Calls.{RoomState}
use Rattle.room_core.specs.Fields.{StepMap, Fields, fields_after_settle, opening_fields, replay_fields}
use Rattle.room_core.specs.Reading.{AreFieldsOf}
use Rattle.room_core.specs.Rooms.{opening}
use Rattle.room_core.specs.Settled.{HasTurnLeft, IsSettledFor, decided, spent, held, held_input, crashed_in, is_blocked, is_inside_any}
use Rattle.room_core.proofs.agreements.Exact.{room_moments}
use Rattle.room_core.proofs.agreements.Fixing.{fixed_has_least}
use Rattle.room_core.proofs.agreements.Promises.{passed_fixed}
use Rattle.room_core.proofs.moments.Busy.{busy_run, is_uncounted}
use Rattle.room_core.proofs.moments.Visits.{legal_take}
use Rattle.room_core.proofs.settling.Blocked.{few_blocked}
use Rattle.room_core.proofs.settling.Certified.{never_spent, passed_by}
use Rattle.room_core.proofs.settling.Counted.{all_pass, entries_of_all}
use Rattle.room_core.proofs.settling.Ending.{settled_for}
use Rattle.room_core.proofs.settling.FewSpent.{few_present, shown_there}
use Rattle.room_core.proofs.settling.InOrder.{settled_over}

counted_or_not : (b : Bool) → (cond b false true ≡ true) ⊎ (b ≡ true)
counted_or_not true = inr refl
counted_or_not false = inl refl

some_counted : (most : ℕ) → cond (eqb most 0) false true ≡ true → 1 ≤ most
some_counted most is = dite (ℕ_discrete most 0)
    (λ (e : most ≡ 0). absurd (let wrong : false ≡ true = sym (ap (λ (b : Bool). cond b false true) (eq-eqb most 0 e)) ∙ is in cc))
    (λ (n : most ≢ 0). omega (arith, n))

-- a process inside one of whose agreements a simulator has crashed is blocked
inside_blocks : (spec : RoomSpec) (fields : Fields) (i j k : ℕ) → i < spec.simulators → fields.crashed i ≡ true → k ≤ spec.rounds → fields.level i j k ≡ 1 → is_blocked spec fields j ≡ true
inside_blocks spec fields i j k below crashed last one =
    let rounds = range_with_len 0 (spec.rounds + 1) in
    let simulators = range_with_len 0 spec.simulators in
    let low : k < spec.rounds + 1 = omega (arith, last) in
    let round : get_or rounds k 0 ≡ k = let e = get_or-range_with_len 0 (spec.rounds + 1) k 0 low in omega (arith, e) in
    let simulator : get_or simulators i 0 ≡ i = let e = get_or-range_with_len 0 spec.simulators i 0 below in omega (arith, e) in
    let inside : is_inside_any spec fields i j ≡ true = list_any_at (λ r. eqb (fields.level i j r) 1) rounds k 0 (let long = length-range_with_len 0 (spec.rounds + 1) in omega (arith, long, low))
    (ap (λ (r : ℕ). eqb (fields.level i j r) 1) round ∙ eq-eqb (fields.level i j k) 1 one) in
    list_any_at (λ a. fields.crashed a && is_inside_any spec fields a j) simulators i 0 (let long = length-range_with_len 0 spec.simulators in omega (arith, long, below))
    (ap (λ (a : ℕ). fields.crashed a && is_inside_any spec fields a j) simulator ∙ and_from (fields.crashed i) (is_inside_any spec fields i j) crashed inside)

module _ (room : RoomState) (fields : Fields) (limits : IsWithinLimits room.spec) (are : AreFieldsOf room fields) (kind : is_reduction room.spec ≡ true) where
  -- what was agreed on in a later round
  shows_most : (j k : ℕ) → j < processes room.spec → 2 ≤ k → IsFixedAt room.spec fields j k → processes room.spec < length (present (shown_by room.spec fields (agreed.row_at room.spec fields j k))) + room.spec.simulators
  shows_most j k within two fixed =
      let spec = room.spec in
      let m = spec.simulators in
      let n = processes spec in
      let least = fixed_has_least spec fields j k fixed in
      let h = least.0 in
      let moment = room_moments room fields limits are h j k least.1 (omega (arith, two)) least.3 in
      let then = replay_fields spec (opening_fields spec) (take moment.time are.run.schedule) in
      let few = ((busy_run spec limits (take moment.time are.run.schedule) (legal_take (opening spec) are.run.schedule moment.time are.run.legal)).1 kind).few h j least.1
      (let own = moment.own in let here = moment.same h j least.1 within in omega (arith, own, here, two)) in
      let row = agreed.row_at spec fields j k in
      let view : view_at spec fields j k ≡ fields.view h j k = ap (λ (o : Option ℕ). fields.view (unwrap_or o 0) j k) least.2 in
      let is_counted = λ (p : ℕ). cond (is_uncounted spec then p) false true in
      let all = all_pass is_counted (is_uncounted spec then) 0 n (λ p low high. counted_or_not (is_uncounted spec then p)) in
      let there = entries_of_all (λ p. shown spec fields p (slice_index row p)) is_counted 0 n
      (λ p low high is.
      let some = some_counted (merged_of m then.step p) is in
      let who = merged_reached m then.step p (let b = least.1 in omega (arith, b)) in
      let reached = who.2 in
      let same = moment.same who.0 p who.1 (omega (arith, high)) in
      let entry = row_at m n (view_at spec fields j k) p (omega (arith, high)) in
      let most = merged_at m (view_at spec fields j k) who.0 p who.1 in
      let shows : view_at spec fields j k who.0 p ≡ fields.view h j k who.0 p = ap (λ (map : StepMap). map who.0 p) view in
      shown_there spec fields p (slice_index row p) (omega (arith, some, reached, same, entry, most, shows))) in
      omega (arith, few, all, there)

  module _ (f : ℕ) (certified : IsCertified room.spec f) (few : room.spec.simulators ≤ f + 1) where
    pub unspent : (j v : ℕ) → 2 ≤ room.spec.rounds → j < processes room.spec → is_resolved room.spec fields j room.spec.rounds ≡ true → asks room.spec fields j room.spec.rounds ≡ actions.Write v → ⊥
    unspent j v two within resolved is =
        let k = room.spec.rounds in
        let fixed = passed_fixed room fields limits are j k within (omega (arith, two)) (passed_by (is_resolved room.spec fields j k) (ltb k (greatest_step room.spec fields j)) (has_out room.spec fields j && eqb (greatest_step room.spec fields j) k) resolved) in
        let most = shows_most j k within two fixed in
        let fewer = few_present room fields limits are f certified j k v is in
        absurd (omega (arith, most, fewer, few))

    -- so each process that has settled has decided or is blocked
    pub decided_or_blocked : (j : ℕ) → 2 ≤ room.spec.rounds → j < processes room.spec → IsSettledFor room.spec fields j → (has_out room.spec fields j ≡ true) ⊎ (is_blocked room.spec fields j ≡ true)
    decided_or_blocked j two within (decided out) = inl out
    decided_or_blocked j two within (spent v resolved is) = absurd (unspent j v two within resolved is)
    decided_or_blocked j two within (held i k below crashed first last one) = inr (inside_blocks room.spec fields i j k below crashed last one)
    decided_or_blocked j two within (held_input i kind' below crashed one) = inr (inside_blocks room.spec fields i j 0 below crashed (omega arith) one)

    -- and all but as many as have crashed have decided
    pub most_decide : 2 ≤ room.spec.rounds → ((j : ℕ) → j < processes room.spec → IsSettledFor room.spec fields j) → processes room.spec ≤ length (filter (λ j. has_out room.spec fields j) (range_with_len 0 (processes room.spec))) + length (crashed_in room.spec fields)
    most_decide two settled =
        let all = all_pass (λ j. has_out room.spec fields j) (is_blocked room.spec fields) 0 (processes room.spec) (λ j low high. let within : j < processes room.spec = omega (arith, high) in decided_or_blocked j two within (settled j within)) in
        let few = few_blocked room fields limits are in
        omega (arith, all, few)

-- So it is once the room has settled.
pub most_for : (room : RoomState) (fields : Fields) → IsWithinLimits room.spec → AreFieldsOf room fields → is_reduction room.spec ≡ true → (f : ℕ) → IsCertified room.spec f → room.spec.simulators ≤ f + 1 → 2 ≤ room.spec.rounds → HasTurnLeft room.spec (fields_after_settle room.spec fields)
    → processes room.spec ≤ length (filter (λ j. has_out room.spec (fields_after_settle room.spec fields) j) (range_with_len 0 (processes room.spec))) + length (crashed_in room.spec (fields_after_settle room.spec fields))
most_for room fields limits are kind f certified few two left =
    let spec = room.spec in
    let after = fields_after_settle spec fields in
    let has = settled_over spec limits room fields refl are in
    let back = sym has.is.same in
    subst (λ (s : RoomSpec). processes s ≤ length (filter (λ j. has_out s after j) (range_with_len 0 (processes s))) + length (crashed_in s after)) has.is.same
    (most_decide has.room after (subst IsWithinLimits back limits) has.is.are (subst (λ (s : RoomSpec). is_reduction s ≡ true) back kind) f (subst (λ (s : RoomSpec). IsCertified s f) back certified)
    (subst (λ (s : RoomSpec). s.simulators ≤ f + 1) back few) (subst (λ (s : RoomSpec). 2 ≤ s.rounds) back two)
    (subst (λ (s : RoomSpec). (j : ℕ) → j < processes s → IsSettledFor s after j) back (λ j low. settled_for room fields limits are left j low)))

-- In an ordinary room, and in a reduction with f + 1 simulators or fewer, no process is spent.
pub none_spent : (room : RoomState) (fields : Fields) → IsWithinLimits room.spec → AreFieldsOf room fields → (f : ℕ) → IsCertified room.spec f → (is_reduction room.spec ≡ false) ⊎ (room.spec.simulators ≤ f + 1)
    → (j v : ℕ) → 2 ≤ room.spec.rounds → j < processes room.spec → is_resolved room.spec fields j room.spec.rounds ≡ true → asks room.spec fields j room.spec.rounds ≡ actions.Write v → ⊥
none_spent room fields limits are f certified which = by_kind (is_reduction room.spec) refl which
  where
    by_kind : (b : Bool) → is_reduction room.spec ≡ b → (b ≡ false) ⊎ (room.spec.simulators ≤ f + 1)
        → (j v : ℕ) → 2 ≤ room.spec.rounds → j < processes room.spec → is_resolved room.spec fields j room.spec.rounds ≡ true → asks room.spec fields j room.spec.rounds ≡ actions.Write v → ⊥
    by_kind false kind which j v two within resolved is = never_spent room fields limits are f certified kind j v two within resolved is
    by_kind true kind (inl ordinary) j v two within resolved is = absurd (let wrong : true ≡ false = ordinary in cc)
    by_kind true kind (inr few) j v two within resolved is = unspent room fields limits are kind f certified few j v two within resolved is
