-- What becomes of each simulator's own decision once a room has settled.
use Rattle.std.proofs.Common.{◌≡◌, ◌≢◌, ◌⊎◌, ℕ, ◌+◌, ◌<◌, ◌≤◌, Bool, true, false, length, Option, Some, None, inl, inr, refl, sym, ap, ◌∙◌, subst, arith}
use Rattle.room_spec.specs.Rooms.{IsCertified, RoomSpec, IsWithinLimits, processes}
use Rattle.simulator.specs.declared.goal.Goal.TheVariants as goals
use Rattle.simulator.specs.Minds.{goal_at, is_unfinished}
use Rattle.simulator.specs.Ranges.{HasDecision}
use Rattle.room_core.specs.Calls.{RoomState}
use Rattle.room_core.specs.Fields.{Fields, decision_in, fields_after_settle}
use Rattle.room_core.specs.Reading.{AreFieldsOf}
use Rattle.room_core.specs.Settled.{HasTurnLeft, IsSettledInMind, crashed_in, is_out_of_rounds, mind_decided, mind_spent, mind_waits, mind_waits_for_input, unfinished_for}
use Rattle.room_core.proofs.agreements.Stages.{one_inside}
use Rattle.room_core.proofs.fields.FieldCalls.{fields_stand}
use Rattle.room_core.proofs.settling.Decisions.{mind_ranges}
use Rattle.room_core.proofs.settling.Counted.{all_pass, no_more_pass, one_fails}
use Rattle.room_core.proofs.settling.FewSpent.{few_out, spent_is_out}
use Rattle.room_core.proofs.settling.InOrder.{settled_over}

module _ (room : RoomState) (fields : Fields) (limits : IsWithinLimits room.spec) (are : AreFieldsOf room fields) where
  -- ---- a simulator that has nothing left to do

  module _ (i : ℕ) (below : i < room.spec.simulators) (each : (j : ℕ) → j < processes room.spec → IsSettledInMind room.spec fields i j) where
    abbrev is_left : ℕ → Bool
    is_left j = is_unfinished (goal_at (fields.mind i).goals j)

    blocker : (j : ℕ) → is_left j ≡ true → IsSettledInMind room.spec fields i j → (a : ℕ) × (a < room.spec.simulators) × (fields.crashed a ≡ true) × ((fields.mind a).process ≡ j)
    blocker j left (mind_decided is) = absurd (let wrong : true ≡ false = sym left ∙ ap is_unfinished is in cc)
    blocker j left (mind_spent is) = absurd (let wrong : true ≡ false = sym left ∙ ap is_unfinished is in cc)
    blocker j left (mind_waits_for_input a is within crashed one) = (a, within, crashed, (one_inside room.spec fields (fields_stand room fields limits are).tracks a j 0 one).process)
    blocker j left (mind_waits a k is within crashed first last one) = (a, within, crashed, (one_inside room.spec fields (fields_stand room fields limits are).tracks a j k one).process)

    pub few_wait : length (unfinished_for room.spec fields i) ≤ length (crashed_in room.spec fields)
    few_wait = no_more_pass is_left fields.crashed (λ a. (fields.mind a).process) (processes room.spec) room.spec.simulators (λ j low left. blocker j left (each j low))

    out_or_left : (j : ℕ) → j < processes room.spec → goal_at (fields.mind i).goals j ≢ goals.Done → IsSettledInMind room.spec fields i j → (is_out_of_rounds room.spec fields j ≡ true) ⊎ (is_left j ≡ true)
    out_or_left j low other (mind_decided is) = absurd (other is)
    out_or_left j low other (mind_spent is) = inl (spent_is_out room fields limits are i j below low is)
    out_or_left j low other (mind_waits a k is within crashed first last one) = inr (ap is_unfinished is)
    out_or_left j low other (mind_waits_for_input a is within crashed one) = inr (ap is_unfinished is)

    decides_by : (f : ℕ) (own : Option ℕ) → IsCertified room.spec f → length (crashed_in room.spec fields) ≤ f → decision_in fields i ≡ own → (decision : ℕ) × (own ≡ Some decision)
    decides_by f (Some decision) certified few is = (decision, refl)
    decides_by f None certified few is =
        let mind = mind_ranges room fields limits are i below in
        let never : HasDecision (fields.mind i).goals None = subst (HasDecision (fields.mind i).goals) is mind.decision in
        let all = all_pass (is_out_of_rounds room.spec fields) is_left 0 (processes room.spec) (λ j low high. out_or_left j (omega (arith, high)) (never j (omega (arith, high, mind.goals))) (each j (omega (arith, high)))) in
        let out = few_out room fields limits are f certified in
        absurd (omega (arith, all, out, few_wait, few))

    pub decides_there : (f : ℕ) → IsCertified room.spec f → length (crashed_in room.spec fields) ≤ f → (decision : ℕ) × (decision_in fields i ≡ Some decision)
    decides_there f certified few = decides_by f (decision_in fields i) certified few refl

-- ---- after settling

module _ (room : RoomState) (fields : Fields) (limits : IsWithinLimits room.spec) (are : AreFieldsOf room fields) (left : HasTurnLeft room.spec (fields_after_settle room.spec fields)) where
  pub each_settled : (j : ℕ) → j < processes room.spec → IsSettledInMind room.spec (fields_after_settle room.spec fields) left.simulator j
  each_settled j low = elim ((settled_over room.spec limits room fields refl are).is.holds.over left.simulator left.below left.alive) [
    | inl out ↦ absurd (omega (arith, out, left.turns))
    | inr settled ↦ settled j low
  ]

  pub few_waiting : length (unfinished_for room.spec (fields_after_settle room.spec fields) left.simulator) ≤ length (crashed_in room.spec (fields_after_settle room.spec fields))
  few_waiting =
      let after = fields_after_settle room.spec fields in
      let has = settled_over room.spec limits room fields refl are in
      let back = sym has.is.same in
      subst (λ (s : RoomSpec). length (unfinished_for s after left.simulator) ≤ length (crashed_in s after)) has.is.same
      (few_wait has.room after (subst IsWithinLimits back limits) has.is.are left.simulator (subst (λ (s : RoomSpec). left.simulator < s.simulators) back left.below)
      (subst (λ (s : RoomSpec). (j : ℕ) → j < processes s → IsSettledInMind s after left.simulator j) back each_settled))

  pub each_decides : (f : ℕ) → IsCertified room.spec f → length (crashed_in room.spec (fields_after_settle room.spec fields)) ≤ f → (decision : ℕ) × (decision_in (fields_after_settle room.spec fields) left.simulator ≡ Some decision)
  each_decides f certified few =
      let after = fields_after_settle room.spec fields in
      let has = settled_over room.spec limits room fields refl are in
      let back = sym has.is.same in
      decides_there has.room after (subst IsWithinLimits back limits) has.is.are left.simulator (subst (λ (s : RoomSpec). left.simulator < s.simulators) back left.below)
      (subst (λ (s : RoomSpec). (j : ℕ) → j < processes s → IsSettledInMind s after left.simulator j) back each_settled) f
      (subst (λ (s : RoomSpec). IsCertified s f) back certified) (subst (λ (s : RoomSpec). length (crashed_in s after) ≤ f) back few)

  -- at most f of f + 1 have crashed if one has not
  pub others_crash : (f : ℕ) → IsCertified room.spec f → room.spec.simulators ≤ f + 1 → (decision : ℕ) × (decision_in (fields_after_settle room.spec fields) left.simulator ≡ Some decision)
  others_crash f certified few =
      let low = left.below in
      let less = one_fails (fields_after_settle room.spec fields).crashed 0 room.spec.simulators left.simulator (omega arith) (omega (arith, low)) left.alive in
      each_decides f certified (omega (arith, less, few))
