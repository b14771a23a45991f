-- What a simulator has decided, and that it stays so over every call.
use Rattle.std.proofs.Common.{◌≡◌, ◌≢◌, ℕ, ◌<◌, ◌≤◌, List, [], ◌∷◌, length, map, Option, Some, None, refl, sym, ap, ◌∙◌, subst, arith}
use Rattle.std.proofs.lemmas.List.{get_or_past, length-map}
use mathlib.Core.Logic.{dite}
use native.Mathlib.Decide.{ℕ_discrete}
use Rattle.protocol_lang.specs.Numbers.{greatest}
use Rattle.room_spec.specs.Rooms.{RoomSpec, IsWithinLimits, processes}
use Rattle.room_spec.specs.Sizes.{sizes_in}
use Rattle.simulator.specs.Minds.{MindState}
use Rattle.simulator.specs.Ranges.{HasDecision, IsMind}
use Rattle.simulator.specs.Sweeps.{SweepState, opening_sweep}
use Rattle.room_core.specs.Agreements.{IsDecisionOf, decided_in}
use Rattle.room_core.specs.Calls.{Call, RoomState, configuration_of, decision_at, room_after_call, room_after_calls}
use Rattle.room_core.specs.Fields.{Fields, decision_in, fields_after_call}
use Rattle.room_core.specs.Reading.{AreFieldsOf, worded}
use Rattle.room_core.specs.Rooms.{IsShaped}
use Rattle.room_core.proofs.agreements.Lasting.{agreements_stay, out_decided}
use Rattle.room_core.proofs.agreements.Sound.{fields_sound}
use Rattle.room_core.proofs.fields.FieldCalls.{call_in_fields, fields_stand}
use Rattle.room_core.proofs.fields.FieldReplays.{mind_is}
use Rattle.room_core.proofs.fields.Replays.{shapes}
use Rattle.room_core.proofs.fields.States.{mind_here}
use Rattle.room_core.proofs.settling.SpecKept.{same_spec}
use Rattle.room_core.proofs.values.Knowing.{fields_known}
use Rattle.room_core.proofs.values.LowValues.{out_low}

module _ (room : RoomState) (fields : Fields) (limits : IsWithinLimits room.spec) (are : AreFieldsOf room fields) where
  pub mind_ranges : (i : ℕ) → i < room.spec.simulators → IsMind room.spec (worded (sizes_in room.spec) (fields.mind i))
  mind_ranges i below = subst (IsMind room.spec) (mind_is (configuration_of room) fields i (fields_stand room fields limits are) below) ((shapes (configuration_of room) limits are.run).each i below)

  nothing_stored : (i : ℕ) → i < room.spec.simulators → decision_in fields i ≡ None → (j : ℕ) → j < processes room.spec → fields.out i j ≡ 0
  nothing_stored i below none j low =
      let mind = mind_ranges i below in
      let never : HasDecision (fields.mind i).goals None = subst (HasDecision (fields.mind i).goals) none mind.decision in
      dite (ℕ_discrete (fields.out i j) 0)
      (λ (e : fields.out i j ≡ 0). e)
      (λ (some : fields.out i j ≢ 0). absurd (never j (omega (arith, low, mind.goals)) ((fields_sound room fields limits are).outs i j some)))

  decision_by : (i : ℕ) (own : Option ℕ) → i < room.spec.simulators → decision_in fields i ≡ own → IsDecisionOf room.spec fields i own
  decision_by i (Some decision) below is = (fields_sound room fields limits are).own i decision is
  decision_by i None below is = nothing_stored i below is

  pub decision_of : (i : ℕ) → i < room.spec.simulators → IsDecisionOf room.spec fields i (decision_in fields i)
  decision_of i below = decision_by i (decision_in fields i) below refl

  pub same_decision : (i : ℕ) → i < room.spec.simulators → decision_at room i ≡ decision_in fields i
  same_decision i below =
      ap (λ (m : MindState). m.decision) (sym (mind_here room i)) ∙ ap (λ (m : MindState). m.decision) (mind_is (configuration_of room) fields i (fields_stand room fields limits are) below)

  -- a process has decided the same
  pub process_decided : (i decision : ℕ) → i < room.spec.simulators → decision_in fields i ≡ Some decision → (j : ℕ) × (j < processes room.spec) × (decided_in room.spec fields j ≡ Some decision)
  process_decided i decision below is =
      let at = (fields_sound room fields limits are).own i decision is in
      (at.0, at.1, out_decided room.spec fields i at.0 decision (fields_known room fields limits are) below at.1 at.2)

  pub decision_low : (i decision : ℕ) → i < room.spec.simulators → decision_in fields i ≡ Some decision → decision ≤ greatest
  decision_low i decision below is =
      let at = (fields_sound room fields limits are).own i decision is in
      omega (arith, at.2, out_low room fields limits are i at.0 below at.1)

-- over one call
pub stays_at_call : (room : RoomState) (fields : Fields) (limits : IsWithinLimits room.spec) (are : AreFieldsOf room fields) (call : Call) (i decision : ℕ) → i < room.spec.simulators → decision_at room i ≡ Some decision → decision_at (room_after_call room call) i ≡ Some decision
stays_at_call room fields limits are call i decision below is =
    let back = sym (same_spec room call) in
    same_decision (room_after_call room call) (fields_after_call room.spec fields call) (subst IsWithinLimits back limits) (call_in_fields room fields call limits are).1 i (subst (λ (s : RoomSpec). i < s.simulators) back below)
    ∙ (agreements_stay room fields call limits are).simulators i decision (sym (same_decision room fields limits are i below) ∙ is)

-- whatever is called
pub stays_over : (room : RoomState) (fields : Fields) (calls : List Call) (i decision : ℕ) → IsWithinLimits room.spec → AreFieldsOf room fields → i < room.spec.simulators → decision_at room i ≡ Some decision → decision_at (room_after_calls room calls) i ≡ Some decision
stays_over room fields [] i decision limits are below is = is
stays_over room fields (call ∷ calls) i decision limits are below is =
    let back = sym (same_spec room call) in
    stays_over (room_after_call room call) (fields_after_call room.spec fields call) calls i decision (subst IsWithinLimits back limits) (call_in_fields room fields call limits are).1
    (subst (λ (s : RoomSpec). i < s.simulators) back below) (stays_at_call room fields limits are call i decision below is)

-- a simulator that the room hasn't
pub absent_decision : (room : RoomState) (i : ℕ) → IsShaped (configuration_of room) → room.spec.simulators ≤ i → decision_at room i ≡ None
absent_decision room i shape above =
    let long : length (map (λ (sweep : SweepState). sweep.mind) room.sweeps) ≡ length room.sweeps = length-map room.sweeps (λ (sweep : SweepState). sweep.mind) in
    let minds : length (map (λ (sweep : SweepState). sweep.mind) room.sweeps) ≡ room.spec.simulators = shape.minds in
    ap (λ (sweep : SweepState). sweep.mind.decision) (get_or_past room.sweeps i (opening_sweep room.spec i) (omega (arith, long, minds, above)))
