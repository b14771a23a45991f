-- What becomes of each process while simulators run alone, one after the other.
use Rattle.std.proofs.Common.{◌≡◌, ◌≢◌, ℕ, ◌<◌, Bool, true, false, cond, leb, refl, sym, ap, ◌∙◌, subst}
use Rattle.std.proofs.lemmas.Bool.{leb-false}
use Rattle.room_spec.specs.Rooms.{RoomSpec, IsWithinLimits}
use Rattle.simulator.specs.declared.sweep.Ready.{Ready}
use Rattle.simulator.specs.declared.sweep.Ready.TheVariants as ready
use Rattle.simulator.specs.Minds.{MindOf, current_round, goal_at}
use Rattle.simulator.specs.Sweeps.{quiet_after}
use Rattle.simulator.specs.Turns.{counted}
use Rattle.room_core.specs.Rooms.{HasLine}
use Rattle.room_core.specs.Calls.{RoomState, configuration_of, has_crashed, ready_at}
use Rattle.room_core.specs.Fields.{StepMap, Fields, changed, line, ready_in, fields_when, fields_after_step, with_taken}
use Rattle.room_core.specs.Reading.{AreFieldsOf}
use Rattle.room_core.specs.Settled.{IsSettledInMind, mind_decided, mind_spent, mind_waits, mind_waits_for_input}
use Rattle.room_core.proofs.fields.Replays.{shapes}
use Rattle.room_core.proofs.fields.States.{has_line}
use Rattle.room_core.proofs.fields.Maps.{changed_here}
use Rattle.room_core.proofs.fields.FieldCalls.{fields_stand, same_ready}
use Rattle.room_core.proofs.fields.FieldLines.{is_store}
use Rattle.room_core.proofs.fields.FieldReplays.{line_is, stands_at}
use Rattle.room_core.proofs.fields.Lines.{stored_on, taken_on}
use Rattle.room_core.proofs.fields.Effects.{Own, line_effect}
use Rattle.room_core.proofs.settling.Marks.{IsBlockedCount, blocked_anew}
use Rattle.room_core.proofs.settling.Blocking.{unresolved, on_line}

-- ---- what a call of step makes of the fields

pub data IsStepOf (room : RoomState) (fields : Fields) (i : ℕ) : Fields → Type 0 where
  stands : IsStepOf room fields i fields
  wakes : IsStepOf room fields i (record fields { quiet = changed fields.quiet i 0 })
  moves : HasLine (configuration_of room) i → ready_at room i ≡ ready.Step → IsStepOf room fields i (line room.spec fields i)

by_test : (P : Fields → Type 0) (b : Bool) (x y : Fields) → P x → (b ≡ false → P y) → P (cond b x y)
by_test P true x y p q = p
by_test P false x y p q = q refl

module _ (room : RoomState) (fields : Fields) (i : ℕ) (limits : IsWithinLimits room.spec) (are : AreFieldsOf room fields) where
  when_ready : (answer : Ready) → i < room.spec.simulators → has_crashed room i ≡ false → ready_at room i ≡ answer → IsStepOf room fields i (fields_when answer room.spec fields i)
  when_ready ready.Step below alive is = moves (has_line room i (shapes (configuration_of room) limits are.run) below alive is) is
  when_ready ready.Idle below alive is = wakes
  when_ready ready.OutOfTurns below alive is = stands

  pub step_of : IsStepOf room fields i (fields_after_step room.spec fields i)
  step_of =
      by_test (IsStepOf room fields i) (leb room.spec.simulators i) fields (cond (fields.crashed i) fields (fields_when (ready_in room.spec fields i) room.spec fields i)) stands
      (λ present.
      let below : i < room.spec.simulators = leb-false room.spec.simulators i present in
      by_test (IsStepOf room fields i) (fields.crashed i) fields (fields_when (ready_in room.spec fields i) room.spec fields i) stands
      (λ alive. when_ready (ready_in room.spec fields i) below ((fields_stand room fields limits are).reads.crashed i below ∙ alive) (sym (same_ready room fields i limits below are))))

-- ---- what is settled in a mind stays so

-- after a step of simulator i: the others have the same in mind, nobody has crashed, and whoever had is at the levels at which it was
pub record IsKeptBut (i : ℕ) (fields after : Fields) : Type 0 where
  pub crashed : (a : ℕ) → after.crashed a ≡ fields.crashed a
  pub minds : (a : ℕ) → a ≢ i → after.mind a ≡ fields.mind a
  pub levels : (a j k : ℕ) → fields.crashed a ≡ true → after.level a j k ≡ fields.level a j k

-- a quiet count has no part in it
pub kept_quiet : (i : ℕ) (fields : Fields) (quiet : ℕ → ℕ) → IsKeptBut i fields (record fields { quiet = quiet })
kept_quiet i fields quiet = record { crashed = λ a. refl; minds = λ a other. refl; levels = λ a j k crashed. refl }

-- of a simulator that has the same in mind
pub settled_kept : (spec : RoomSpec) (i : ℕ) (fields after : Fields) (b j : ℕ) → IsKeptBut i fields after → after.mind b ≡ fields.mind b → IsSettledInMind spec fields b j → IsSettledInMind spec after b j
settled_kept spec i fields after b j kept same (mind_decided is) = mind_decided (ap (λ (m : MindOf StepMap). goal_at m.goals j) same ∙ is)
settled_kept spec i fields after b j kept same (mind_spent is) = mind_spent (ap (λ (m : MindOf StepMap). goal_at m.goals j) same ∙ is)
settled_kept spec i fields after b j kept same (mind_waits a k is below crashed first last one) =
    mind_waits a k (ap (λ (m : MindOf StepMap). goal_at m.goals j) same ∙ is) below (kept.crashed a ∙ crashed) first last (kept.levels a j k crashed ∙ one)
settled_kept spec i fields after b j kept same (mind_waits_for_input a is below crashed one) =
    mind_waits_for_input a (ap (λ (m : MindOf StepMap). goal_at m.goals j) same ∙ is) below (kept.crashed a ∙ crashed) (kept.levels a j 0 crashed ∙ one)

module _ (room : RoomState) (fields : Fields) (i : ℕ) (limits : IsWithinLimits room.spec) (are : AreFieldsOf room fields) where
  line_crashed : HasLine (configuration_of room) i → (a : ℕ) → (line room.spec fields i).crashed a ≡ fields.crashed a
  line_crashed may a =
      let mind = fields.mind i in
      let store = is_store mind.line room.spec fields i mind.process (current_round mind) (counted mind) in
      ap (λ (f : Fields). f.crashed a) (line_is (configuration_of room) fields i (shapes (configuration_of room) limits are.run) (fields_stand room fields limits are) may) ∙ ap (λ (c : ℕ → Bool). c a) store.crashed

  level_else : HasLine (configuration_of room) i → (a j k : ℕ) → a ≢ i → (line room.spec fields i).level a j k ≡ fields.level a j k
  level_else may a j k other =
      let effect = line_effect (configuration_of room) fields i (shapes (configuration_of room) limits are.run) (fields_stand room fields limits are) may in
      ap (λ (own : Own). own.level j k) (effect.others a other)

  alive_is : HasLine (configuration_of room) i → fields.crashed i ≡ false
  alive_is may = sym ((fields_stand room fields limits are).reads.crashed i may.alive.below) ∙ may.alive.alive

  levels_kept : HasLine (configuration_of room) i → (a j k : ℕ) → fields.crashed a ≡ true → (line room.spec fields i).level a j k ≡ fields.level a j k
  levels_kept may a j k crashed = level_else may a j k (λ e. let wrong : true ≡ false = sym crashed ∙ ap fields.crashed e ∙ alive_is may in cc)

  pub kept_by : (after : Fields) → IsStepOf room fields i after → IsKeptBut i fields after
  kept_by after stands = record { crashed = λ a. refl; minds = λ a other. refl; levels = λ a j k crashed. refl }
  kept_by after wakes = kept_quiet i fields (changed fields.quiet i 0)
  kept_by after (moves may is) =
      let effect = line_effect (configuration_of room) fields i (shapes (configuration_of room) limits are.run) (fields_stand room fields limits are) may in
      record { crashed = line_crashed may; minds = λ a other. ap (λ (own : Own). own.mind) (effect.others a other); levels = levels_kept may }

  pub kept_step : IsKeptBut i fields (fields_after_step room.spec fields i)
  kept_step = kept_by (fields_after_step room.spec fields i) (step_of room fields i limits are)

-- ---- the asks in vain stay so

module _ (room : RoomState) (fields : Fields) (i : ℕ) (limits : IsWithinLimits room.spec) (are : AreFieldsOf room fields) where
  abbrev Blocks : Fields → Type 0
  Blocks f = IsBlockedCount (unresolved room.spec f) (f.mind i) (f.quiet i)

  blocks_line : HasLine (configuration_of room) i → Blocks fields → Blocks (line room.spec fields i)
  blocks_line may counts =
      let spec = room.spec in
      let shape = shapes (configuration_of room) limits are.run in
      let for = fields_stand room fields limits are in
      let mind = fields.mind i in
      let stored_ = stored_on mind.line spec fields i mind.process (current_round mind) (counted mind) in
      let taken = taken_on mind.line spec fields mind.process (current_round mind) (counted mind) in
      let after = with_taken stored_ i taken in
      let store = is_store mind.line spec fields i mind.process (current_round mind) (counted mind) in
      let on = on_line spec fields i mind.line (stands_at (configuration_of room) fields i shape for may) counts in
      let mind_is : after.mind i ≡ taken.mind = changed_here stored_.mind i taken.mind i refl in
      let quiet_is : after.quiet i ≡ quiet_after taken.turn (fields.quiet i) = changed_here stored_.quiet i (quiet_after taken.turn (stored_.quiet i)) i refl ∙ ap (λ (q : ℕ → ℕ). quiet_after taken.turn (q i)) store.quiet in
      subst (λ (f : Fields). Blocks f) (sym (line_is (configuration_of room) fields i shape for may))
      (subst (λ (m : MindOf StepMap). IsBlockedCount (unresolved spec stored_) m (after.quiet i)) (sym mind_is)
      (subst (λ (q : ℕ). IsBlockedCount (unresolved spec stored_) taken.mind q) (sym quiet_is) on))

  blocks_by : (after : Fields) → IsStepOf room fields i after → Blocks fields → Blocks after
  blocks_by after stands counts = counts
  blocks_by after wakes counts = subst (λ (q : ℕ). IsBlockedCount (unresolved room.spec fields) (fields.mind i) q) (sym (changed_here fields.quiet i 0 i refl)) (blocked_anew (unresolved room.spec fields) (fields.mind i))
  blocks_by after (moves may is) counts = blocks_line may counts

  pub blocks_step : Blocks fields → Blocks (fields_after_step room.spec fields i)
  blocks_step counts = blocks_by (fields_after_step room.spec fields i) (step_of room fields i limits are) counts
