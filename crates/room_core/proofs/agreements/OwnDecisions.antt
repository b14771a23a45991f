-- What a simulator has decided it has stored as the decision of some process, and it stays so.
use Rattle.std.proofs.Common.{◌≡◌, ◌≢◌, ℕ, ◌+◌, ◌<◌, true, Option, Some, None, refl, sym, ap, ◌∙◌, arith}
use Rattle.room_spec.specs.Rooms.{RoomSpec, processes}
use Rattle.simulator.specs.Minds.{MindOf, current_goal, goal_at, is_unfinished, or_else}
use Rattle.room_core.specs.Fields.{StepMap, Fields, changed}
use Rattle.room_core.proofs.fields.Maps.{changed_here, changed_else}
use Rattle.room_core.proofs.fields.Effects.{Own, IsReading, Loads, loads_view, loads_value, Effect, stores, proposes, raises, collects_word, collects_again, scans, shows_word, shows, loads_word, enters, looks, leaves, asks_in_vain, finds, gets_input, gathers, goes_to, will_decide, decides}
use Rattle.room_core.proofs.agreements.Deciding.{HasDecided, not_done}

-- what a step makes of its own decision, and of those of processes that it has stored
data DecisionStep (spec : RoomSpec) (own after : Own) : Type 0 where
  keeps : after.mind.decision ≡ own.mind.decision → after.out ≡ own.out → DecisionStep spec own after
  adds : (decision : ℕ) → after.mind.decision ≡ or_else own.mind.decision (Some decision) → after.out ≡ changed own.out own.mind.process (decision + 1) → is_unfinished (current_goal own.mind) ≡ true → own.mind.process < processes spec
      → DecisionStep spec own after

-- its decision is one that it has stored
abbrev pub HasStoredOwn : RoomSpec → Own → Type 0
HasStoredOwn spec own = (decision : ℕ) → own.mind.decision ≡ Some decision → (p : ℕ) × (p < processes spec) × (own.out p ≡ decision + 1)

module _ (spec : RoomSpec) (fields : Fields) (own : Own) where
  loaded_same : (reading : MindOf StepMap) → Loads spec fields own reading → reading.decision ≡ own.mind.decision
  loaded_same reading (loads_view chosen turn less last words) = refl
  loaded_same reading (loads_value turn less shown) = refl

  read_same : (reading : MindOf StepMap) → IsReading spec fields own reading → reading.decision ≡ own.mind.decision
  read_same reading reads = loaded_same reading reads.loads

  step_of : (after : Own) → Effect spec fields own after → DecisionStep spec own after
  step_of after (stores j k value rest goal count process first last) = keeps refl refl
  step_of after (proposes j value rest goal none unentered within kind) = keeps refl refl
  step_of after (raises turn whole begun count) = keeps refl refl
  step_of after (collects_word turn count none more) = keeps refl refl
  step_of after (collects_again turn count none last several goes) = keeps refl refl
  step_of after (scans collects turn count none last ends) = keeps refl refl
  step_of after (gets_input chosen turn count less) = keeps refl refl
  step_of after (loads_word found turn less more) = keeps refl refl
  step_of after (shows_word turn count none more) = keeps refl refl
  step_of after (shows turn count none last) = keeps refl refl
  step_of after (enters turn count none) = keeps refl refl
  step_of after (looks turn count one) = keeps refl refl
  step_of after (leaves saw_two turn count one) = keeps refl refl
  step_of after (asks_in_vain asking asks is) = keeps asks.decision refl
  step_of after (finds asking chosen asks is) = keeps asks.decision refl
  step_of after (gathers reading reads more) = keeps (read_same reading reads) refl
  step_of after (goes_to reading value reads all is) = keeps (read_same reading reads) refl
  step_of after (will_decide reading decision reads all is) = keeps (read_same reading reads) refl
  step_of after (decides decision turn count) = adds decision refl refl turn.left turn.process

  kept_by : (after : Own) (decision : ℕ) → DecisionStep spec own after → own.mind.decision ≡ Some decision → after.mind.decision ≡ Some decision
  kept_by after decision (keeps same out) is = same ∙ is
  kept_by after decision (adds other same out left low) is = same ∙ ap (λ (had : Option ℕ). or_else had (Some other)) is

  -- what it has decided it has decided from now on
  pub decision_kept : (after : Own) (decision : ℕ) → Effect spec fields own after → own.mind.decision ≡ Some decision → after.mind.decision ≡ Some decision
  decision_kept after decision effect is = kept_by after decision (step_of after effect) is

  -- the first, or the one that it had
  added_by : (had : Option ℕ) (other decision : ℕ) → own.mind.decision ≡ had → or_else had (Some other) ≡ Some decision → is_unfinished (current_goal own.mind) ≡ true → own.mind.process < processes spec → ((p : ℕ) → HasDecided own p) → HasStoredOwn spec own
      → (p : ℕ) × (p < processes spec) × (changed own.out own.mind.process (other + 1) p ≡ decision + 1)
  added_by (Some first) other decision had is left low outs was =
      let same : first ≡ decision = cc in
      let at = was decision (had ∙ ap Some same) in
      let apart : at.0 ≢ own.mind.process = λ e. not_done (current_goal own.mind) left (ap (λ (q : ℕ). goal_at own.mind.goals q) (sym e) ∙ outs at.0 (λ none. omega (arith, none, at.2))) in
      (at.0, at.1, changed_else own.out own.mind.process (other + 1) at.0 apart ∙ at.2)
  added_by None other decision had is left low outs was =
      let same : other ≡ decision = cc in
      (own.mind.process, low, changed_here own.out own.mind.process (other + 1) own.mind.process refl ∙ ap (λ (d : ℕ). d + 1) same)

  stored_by : (after : Own) → DecisionStep spec own after → ((p : ℕ) → HasDecided own p) → HasStoredOwn spec own → HasStoredOwn spec after
  stored_by after (keeps same out) outs was decision is =
      let at = was decision (sym same ∙ is) in
      (at.0, at.1, ap (λ (outs : ℕ → ℕ). outs at.0) out ∙ at.2)
  stored_by after (adds other same out left low) outs was decision is =
      let at = added_by own.mind.decision other decision refl (sym same ∙ is) left low outs was in
      (at.0, at.1, ap (λ (outs : ℕ → ℕ). outs at.0) out ∙ at.2)

  pub own_stored_kept : (after : Own) → Effect spec fields own after → ((p : ℕ) → HasDecided own p) → HasStoredOwn spec own → HasStoredOwn spec after
  own_stored_kept after effect outs was = stored_by after (step_of after effect) outs was
