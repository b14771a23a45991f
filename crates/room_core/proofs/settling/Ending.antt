-- What has become of each process after settling.
use Rattle.std.proofs.Common.{◌≡◌, ◌≢◌, inl, inr, ℕ, ◌<◌, ◌≤◌, true, false, not, get_or, length, refl, sym, ap, ◌∙◌, subst, arith}
use Rattle.std.proofs.lemmas.Bool.{ne_eqb}
use Rattle.std.proofs.lemmas.List.Folds.{list_any_at}
use Rattle.std.proofs.lemmas.List.FromFn.{get_or-map-range_with_len, length-map-range_with_len}
use Rattle.protocol_lang.specs.declared.meaning.Action.TheVariants as actions
use Rattle.room_spec.specs.Rooms.{RoomSpec, IsWithinLimits, processes}
use Rattle.room_spec.specs.Sizes.{sizes_in}
use Rattle.safe_agreement.specs.Levels.{has_level}
use Rattle.simulator.specs.declared.goal.Goal.TheVariants as goals
use Rattle.simulator.specs.Ranges.{IsGoal}
use Rattle.safe_agreement.proofs.CallerLemmas.{has_level_at, no_level_from}
use Rattle.room_core.specs.Calls.{RoomState}
use Rattle.room_core.specs.Fields.{Fields, levels_at, fields_after_settle}
use Rattle.room_core.specs.Reading.{AreFieldsOf}
use Rattle.room_core.specs.Agreements.{IsFixedAt, asks, is_out, outs_at, has_out, is_resolved}
use Rattle.room_core.specs.Settled.{HasTurnLeft, IsSettledFor, decided, spent, held, held_input, IsSettledInMind, mind_decided, mind_spent, mind_waits, mind_waits_for_input}
use Rattle.room_core.proofs.settling.Decisions.{mind_ranges}
use Rattle.room_core.proofs.settling.EachDecides.{each_settled}
use Rattle.room_core.proofs.settling.FewSpent.{spent_asks}
use Rattle.room_core.proofs.settling.Finishing.{fields_stored}
use Rattle.room_core.proofs.settling.Idling.{Rests, one_or_none, crashed_inside}
use Rattle.room_core.proofs.settling.InOrder.{settled_over}

out_there : (spec : RoomSpec) (fields : Fields) (j a : ℕ) → a < spec.simulators → fields.out a j ≢ 0 → has_out spec fields j ≡ true
out_there spec fields j a below out =
    let long = length-map-range_with_len (λ i. fields.out i j) 0 spec.simulators in
    let read : get_or (outs_at spec fields j) a 0 ≡ fields.out a j = get_or-map-range_with_len (λ i. fields.out i j) 0 spec.simulators a a 0 below (omega arith) in
    list_any_at is_out (outs_at spec fields j) a 0 (omega arith) (ap is_out read ∙ ap not (ne_eqb (fields.out a j) 0 out))

resolved_there : (spec : RoomSpec) (fields : Fields) (j k a : ℕ) → a < spec.simulators → fields.level a j k ≡ 2 → ((b : ℕ) → b < spec.simulators → fields.level b j k ≢ 1) → is_resolved spec fields j k ≡ true
resolved_there spec fields j k a below two none =
    let levels = levels_at spec fields j k in
    let long = length-map-range_with_len (λ i. fields.level i j k) 0 spec.simulators in
    let read : (b : ℕ) → b < spec.simulators → get_or levels b 0 ≡ fields.level b j k = λ b within. get_or-map-range_with_len (λ i. fields.level i j k) 0 spec.simulators b b 0 within (omega arith) in
    let some : has_level 2 levels ≡ true = has_level_at 2 levels a (omega arith) (read a below ∙ two) in
    let nobody : has_level 1 levels ≡ false = no_level_from 1 levels (λ b within one. let less : b < spec.simulators = omega arith in none b less (sym (read b less) ∙ one)) in
    rw (some, nobody) refl

passed_by : (spec : RoomSpec) (fields : Fields) (j value : ℕ) → ((a : ℕ) → a < spec.simulators → fields.level a j spec.rounds ≡ 1 → fields.crashed a ≡ true) → 1 ≤ spec.rounds → IsFixedAt spec fields j spec.rounds → asks spec fields j spec.rounds ≡ actions.Write value → IsSettledFor spec fields j
passed_by spec fields j value crashed low fixed action = elim (one_or_none spec.simulators (λ a. fields.level a j spec.rounds)) [
  | inl one ↦ held one.0 spec.rounds one.1 (crashed one.0 one.1 one.2) low (omega arith) one.2
  | inr none ↦ spent value (resolved_there spec fields j spec.rounds fixed.simulator fixed.below fixed.two none) action
]

-- as one simulator knows it, so it is
module _ (room : RoomState) (fields : Fields) (limits : IsWithinLimits room.spec) (are : AreFieldsOf room fields) (rests : (a : ℕ) → a < room.spec.simulators → Rests fields a) where
  as_known : (i j : ℕ) → i < room.spec.simulators → j < processes room.spec → IsSettledInMind room.spec fields i j → IsSettledFor room.spec fields j
  as_known i j below low (mind_decided is) =
      let long : j < length (fields.mind i).goals = omega (arith, low, (mind_ranges room fields limits are i below).goals) in
      decided (out_there room.spec fields j i below (fields_stored room fields limits are i j long is))
  as_known i j below low (mind_spent is) =
      let last = spent_asks room fields limits are i j below low is in
      passed_by room.spec fields j last.0 (λ a within one. crashed_inside room fields limits are a j room.spec.rounds (rests a within) one) limits.shape.rounds_range.0 last.1 last.2
  as_known i j below low (mind_waits a k is within crashed first last one) = held a k within crashed first last one
  as_known i j below low (mind_waits_for_input a is within crashed one) =
      let kind : IsGoal (sizes_in room.spec) goals.AskInput = subst (IsGoal (sizes_in room.spec)) is ((mind_ranges room fields limits are i below).rounds j low) in
      held_input a kind within crashed one

pub settled_for : (room : RoomState) (fields : Fields) → IsWithinLimits room.spec → AreFieldsOf room fields → HasTurnLeft room.spec (fields_after_settle room.spec fields) → (j : ℕ) → j < processes room.spec
    → IsSettledFor room.spec (fields_after_settle room.spec fields) j
settled_for room fields limits are left j low =
    let after = fields_after_settle room.spec fields in
    let has = settled_over room.spec limits room fields refl are in
    let back = sym has.is.same in
    subst (λ (s : RoomSpec). IsSettledFor s after j) has.is.same
    (as_known has.room after (subst IsWithinLimits back limits) has.is.are (subst (λ (s : RoomSpec). (a : ℕ) → a < s.simulators → Rests after a) back has.is.holds.rests) left.simulator j
    (subst (λ (s : RoomSpec). left.simulator < s.simulators) back left.below) (subst (λ (s : RoomSpec). j < processes s) back low)
    (subst (λ (s : RoomSpec). IsSettledInMind s after left.simulator j) back (each_settled room fields limits are left j low)))
