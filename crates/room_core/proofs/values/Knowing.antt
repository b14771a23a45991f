-- Each event keeps what is known of values, goals and open turns.
use Rattle.std.proofs.Common.{◌≡◌, ◌≢◌, ◌⊎◌, ℕ, zero, suc, ◌+◌, ◌<◌, ◌≤◌, Bool, true, false, cond, min, List, [], ◌∷◌, ◌++◌, length, map, replicate, Some, slice_index, inl, inr, refl, sym, ap, ◌∙◌, subst, arith}
use Rattle.std.specs.List.{range_with_len}
use Rattle.std.proofs.lemmas.List.{take_all}
use Rattle.std.proofs.lemmas.List.FromFn.{get_or-map-range_with_len}
use Rattle.room_core.specs.Calls.{RoomState, configuration_of}
use Rattle.room_core.specs.Reading.{AreFieldsOf}
use Rattle.room_core.specs.Moments.{fields_at}
use Rattle.room_core.proofs.values.SmallValues.{small_values}
use Rattle.room_core.proofs.fields.Prefixes.{over_run}
use Rattle.simulator.specs.declared.line.Line.TheVariants.{Show}
use Rattle.room_core.specs.Fields.{with_shown}
use Rattle.room_core.proofs.fields.Effects.{IsLastWord}
use Rattle.room_core.proofs.moments.Moments.{IsHistory, history_kept, opening_history, history_run}
use mathlib.Core.Logic.{dite}
use native.Mathlib.Decide.{ℕ_discrete}
use Rattle.protocol_lang.specs.declared.meaning.Action.TheVariants as actions
use Rattle.protocol_lang.specs.Numbers.{greatest}
use Rattle.protocol_lang.specs.Meaning.{first_value}
use Rattle.room_spec.specs.Rooms.{RoomSpec, IsWithinLimits, is_reduction, processes}
use Rattle.safe_agreement.proofs.CallerLemmas.{resolved_to, is_resolved_by, resolves_least}
use Rattle.sim_memory.specs.Steps.{AreAtMost}
use Rattle.simulator.specs.declared.goal.Goal.{Goal}
use Rattle.simulator.specs.declared.goal.Goal.TheVariants as goals
use Rattle.simulator.specs.declared.line.Line.{Line}
use Rattle.simulator.specs.declared.line.Line.TheVariants.{Rest, Raise, GetInput, GetView, Values, Out}
use Rattle.simulator.specs.Minds.{MindOf, goal_at, current_goal, current_input, current_round, has_input, round_of, first_goal, first_goals}
use Rattle.simulator.specs.Turns.{gets_in}
use Rattle.room_core.specs.Rooms.{Configuration, ScheduleEvent, steps, crashes, HasLine, MayHappen, IsShaped, IsOneInterleaving}
use Rattle.room_core.specs.Fields.{StepMap, Fields, levels_at, opening_fields, line, fields_after, replay_fields}
use Rattle.room_core.specs.Agreements.{IsFixedAt, input_at}
use Rattle.room_core.specs.Contents.{IsDue, first_write, next_write}
use Rattle.room_core.proofs.values.Entries.{HasSmallValues}
use Rattle.room_core.specs.Tracks.{Stage, Counts, Tells, stage_of, KeepsTrack, StandsFor}
use Rattle.room_core.specs.Tracks as stages
use Rattle.room_core.proofs.fields.Tracks.{at_sweep, stored_round}
use Rattle.room_core.proofs.fields.FieldReplays.{event_stands, stands_for}
use Rattle.room_core.proofs.fields.Effects.{gets_not, IsReading, Own, own_of, IsLineOf, line_effect, Effect, stores, proposes, raises, collects_word, collects_again, scans, shows_word, shows, loads_word, enters, looks, leaves, asks_in_vain, finds, gets_input, gathers, goes_to, will_decide, decides}
use Rattle.room_core.proofs.agreements.Sound.{IsSound, later_has, chosen_is_fixed, sound_kept, opening_sound}
use Rattle.room_core.proofs.agreements.Fixing.{fixed_at}
use Rattle.room_core.proofs.agreements.Staying.{LevelsStay, stay_line, with_others, stay_same}
use Rattle.room_core.proofs.agreements.Stages.{Scanned}
use Rattle.room_core.proofs.agreements.Inputs.{InputsStay, IsSettledInput, KnowsInputs, counted_has, fixed_settled, got_is, has_kept, input_is, input_low, input_of_mind, inputs_line, inputs_other, inputs_stay, known_by, loaded_inputs, opening_inputs_known, ordinary_input, settled_by, zero_kind}
use Rattle.room_core.proofs.moments.Shown.{HasShown, progress_own, own_shown, own_grows}
use Rattle.room_core.proofs.agreements.Exact.{at_two, scanned_level}
use Rattle.room_core.proofs.values.OwnValues.{IsNext, IsFirst, own_writes, own_counts, own_values, own_stored, own_decided, own_spent}
use Rattle.room_core.proofs.values.Known.{full, IsChosen, IsGathered, IsDeciding, IsKnown, ViewsWithin, loaded, word_loaded, IsLoaded, loaded_kept, acts, due_kept, chosen_kept, gathered_kept, deciding_kept}
use Rattle.room_core.proofs.fields.FieldCalls.{leads_of}

-- a turn at Raise has a write for its goal
pub write_of : (rounds : ℕ) (goal : Goal) (step : ℕ) → Counts rounds goal stages.Stored step → (value : ℕ) × (goal ≡ goals.Write (round_of goal) value)
write_of rounds (goals.Write k value) step counts = (value, refl)
write_of rounds (goals.Ask k) step counts = absurd counts
write_of rounds (goals.Propose value) step counts = absurd counts
write_of rounds goals.AskInput step counts = absurd counts
write_of rounds goals.Done step counts = absurd counts
write_of rounds goals.Spent step counts = absurd counts

-- ---- what a line makes of an open turn that reads

gets_view_is : (round found chosen : ℕ) → gets_in round found ≡ GetView chosen → (1 ≤ round) × (found ≡ chosen)
gets_view_is zero found chosen is = absurd cc
gets_view_is (suc round) found chosen is = (omega arith, cc)

module _ (spec : RoomSpec) (fields : Fields) (tracks : KeepsTrack spec fields) (small : HasSmallValues spec) (within : ViewsWithin spec fields) (known : IsKnown spec fields) (sound : IsSound spec fields) (knows : KnowsInputs spec fields) (i : ℕ) (below : i < spec.simulators) where
  -- who reads works with the input of its process
  reading_has : (reading : MindOf StepMap) → IsReading spec fields (own_of fields i) reading → has_input (goal_at (fields.mind i).goals reading.process) ≡ true
  reading_has reading reads = ap (λ (q : ℕ). has_input (goal_at (fields.mind i).goals q)) reads.same ∙ later_has (current_goal (fields.mind i)) reads.first

  has_given : (reading : MindOf StepMap) → IsReading spec fields (own_of fields i) reading → current_input spec reading ≡ input_at spec fields reading.process
  has_given reading reads =
      input_of_mind spec fields tracks sound knows i reading below (loaded_inputs spec fields (own_of fields i) 0 reading reads.loads) (let e = reads.same in let b = reads.process in omega arith) (reading_has reading reads)

  chosen_new : (after : Own) (chosen : ℕ) → Effect spec fields (own_of fields i) after → after.mind.line ≡ GetView chosen → IsChosen spec fields after.mind.process (current_round after.mind) chosen
  chosen_new after chosen (stores j k value rest goal count process first last) is = absurd cc
  chosen_new after chosen (proposes j value rest goal none unentered within kind) is = absurd cc
  chosen_new after chosen (raises turn whole begun count) is = absurd cc
  chosen_new after chosen (collects_word turn count none more) is = absurd cc
  chosen_new after chosen (collects_again turn count none last several goes) is = absurd cc
  chosen_new after chosen (scans collects turn count none last ends) is = absurd cc
  chosen_new after chosen (gets_input found turn count less) is = absurd cc
  chosen_new after chosen (loads_word found turn less more) is =
      let same : ◌≡◌ {A = ℕ} found chosen = cc in
      subst (λ (c : ℕ). IsChosen spec fields (fields.mind i).process (current_round (fields.mind i)) c) same (known.chosen i found below turn.stands)
  chosen_new after chosen (shows_word turn count none more) is = absurd cc
  chosen_new after chosen (shows turn count none last) is = absurd cc
  chosen_new after chosen (enters turn count none) is = absurd cc
  chosen_new after chosen (looks turn count one) is = absurd cc
  chosen_new after chosen (leaves saw_two turn count one) is = absurd cc
  chosen_new after chosen (asks_in_vain asking asks none) is = absurd cc
  chosen_new after chosen (finds asking found asks some) is =
      let at = gets_view_is (current_round asking) found chosen is in
      let same : ◌≡◌ {A = ℕ} found chosen = at.1 in
      let j = asking.process in
      let k = current_round asking in
      let resolved = is_resolved_by (levels_at spec fields j k) found (resolved_to (levels_at spec fields j k) found some) in
      record {
        fixed = fixed_at spec fields tracks j k (chosen_is_fixed spec fields j k found tracks some);
        first = at.0;
        is = sym (resolves_least (levels_at spec fields j k) resolved) ∙ some ∙ ap Some same;
      }
  chosen_new after chosen (gathers reading reads more) is = absurd cc
  chosen_new after chosen (goes_to reading given reads all action) is = absurd cc
  chosen_new after chosen (will_decide reading decision reads all action) is = absurd cc
  chosen_new after chosen (decides decision turn count) is = absurd cc

  loading_new : (after : Own) (chosen : ℕ) → Effect spec fields (own_of fields i) after → after.mind.line ≡ GetView chosen → IsLoaded spec fields after chosen
  loading_new after chosen (stores j k value rest goal count process first last) is = absurd cc
  loading_new after chosen (proposes j value rest goal none unentered within kind) is = absurd cc
  loading_new after chosen (raises turn whole begun count) is = absurd cc
  loading_new after chosen (collects_word turn count none more) is = absurd cc
  loading_new after chosen (collects_again turn count none last several goes) is = absurd cc
  loading_new after chosen (scans collects turn count none last ends) is = absurd cc
  loading_new after chosen (shows_word turn count none more) is = absurd cc
  loading_new after chosen (shows turn count none last) is = absurd cc
  loading_new after chosen (enters turn count none) is = absurd cc
  loading_new after chosen (looks turn count one) is = absurd cc
  loading_new after chosen (leaves saw_two turn count one) is = absurd cc
  loading_new after chosen (asks_in_vain asking asks none) is = absurd cc
  loading_new after chosen (finds asking found asks some) is = λ a q less less' early. let none = asks.fresh in absurd (omega arith)
  loading_new after chosen (gets_input found turn count less) is = absurd cc
  loading_new after chosen (loads_word found turn less more) is =
      let same : ◌≡◌ {A = ℕ} found chosen = cc in
      subst (λ (c : ℕ). IsLoaded spec fields after c) same (λ a q less' less'' early. word_loaded spec fields within known i below found a q turn.stands less' less'' early)
  loading_new after chosen (gathers reading reads more) is = absurd cc
  loading_new after chosen (goes_to reading given reads all action) is = absurd cc
  loading_new after chosen (will_decide reading decision reads all action) is = absurd cc
  loading_new after chosen (decides decision turn count) is = absurd cc

  reading_new : (after : Own) → Effect spec fields (own_of fields i) after → after.mind.line ≡ Values → IsGathered spec fields after.mind.process (current_round after.mind) after.mind.snapshot after.mind.entries
  reading_new after (stores j k value rest goal count process first last) is = absurd cc
  reading_new after (proposes j value rest goal none unentered within kind) is = absurd cc
  reading_new after (raises turn whole begun count) is = absurd cc
  reading_new after (collects_word turn count none more) is = absurd cc
  reading_new after (collects_again turn count none last several goes) is = absurd cc
  reading_new after (scans collects turn count none last ends) is = absurd cc
  reading_new after (gets_input found turn count less) is = absurd cc
  reading_new after (loads_word found turn less more) is = absurd cc
  reading_new after (shows_word turn count none more) is = absurd cc
  reading_new after (shows turn count none last) is = absurd cc
  reading_new after (enters turn count none) is = absurd cc
  reading_new after (looks turn count one) is = absurd cc
  reading_new after (leaves saw_two turn count one) is = absurd cc
  reading_new after (asks_in_vain asking asks none) is = absurd cc
  reading_new after (finds asking found asks some) is = absurd (gets_not (current_round asking) found Values refl is)
  reading_new after (gathers reading reads more) is = loaded spec fields within known i below reading reads
  reading_new after (goes_to reading given reads all action) is = absurd cc
  reading_new after (will_decide reading decision reads all action) is = absurd cc
  reading_new after (decides decision turn count) is = absurd cc

  deciding_new : (after : Own) (decision : ℕ) → Effect spec fields (own_of fields i) after → after.mind.line ≡ Out decision → IsDeciding spec fields after.mind.process (current_round after.mind) decision
  deciding_new after decision (stores j k value rest goal count process first last) is = absurd cc
  deciding_new after decision (proposes j value rest goal none unentered within kind) is = absurd cc
  deciding_new after decision (raises turn whole begun count) is = absurd cc
  deciding_new after decision (collects_word turn count none more) is = absurd cc
  deciding_new after decision (collects_again turn count none last several goes) is = absurd cc
  deciding_new after decision (scans collects turn count none last ends) is = absurd cc
  deciding_new after decision (gets_input found turn count less) is = absurd cc
  deciding_new after decision (loads_word found turn less more) is = absurd cc
  deciding_new after decision (shows_word turn count none more) is = absurd cc
  deciding_new after decision (shows turn count none last) is = absurd cc
  deciding_new after decision (enters turn count none) is = absurd cc
  deciding_new after decision (looks turn count one) is = absurd cc
  deciding_new after decision (leaves saw_two turn count one) is = absurd cc
  deciding_new after decision (asks_in_vain asking asks none) is = absurd cc
  deciding_new after decision (finds asking found asks some) is = absurd (gets_not (current_round asking) found (Out decision) refl is)
  deciding_new after decision (gathers reading reads more) is = absurd cc
  deciding_new after decision (goes_to reading given reads all action) is = absurd cc
  deciding_new after decision (will_decide reading given reads all action) is =
      let same : ◌≡◌ {A = ℕ} given decision = cc in
      let at = loaded spec fields within known i below reading reads in
      record { fixed = at.fixed; first = at.first; action = sym (acts spec fields within known i below reading reads all (has_given reading reads)) ∙ action ∙ ap (λ (d : ℕ). actions.Decide d) same }
  deciding_new after decision (decides given turn count) is = absurd cc

  next_due : (p k value : ℕ) → IsNext spec fields (own_of fields i) p k value → IsDue spec fields p k value
  next_due p k value next =
      let at = loaded spec fields within known i below next.reading next.reads in
      subst (λ (q : ℕ). IsDue spec fields q k value) (sym next.process)
      (next_write (current_round next.reading) at.first next.round at.fixed (sym (acts spec fields within known i below next.reading next.reads next.all (has_given next.reading next.reads)) ∙ next.action))

-- ---- a line

module _ (spec : RoomSpec) (fields after : Fields) (i : ℕ) (tracks : KeepsTrack spec fields) (tracks' : KeepsTrack spec after) (small : HasSmallValues spec) (within : ViewsWithin spec fields) (known : IsKnown spec fields)
    (effect : IsLineOf spec fields after i) (stay : LevelsStay spec fields after) (sound : IsSound spec fields) (knows : KnowsInputs spec fields) (inputs : InputsStay spec fields after)
    (got : (p chosen : ℕ) → p < processes spec → is_reduction spec ≡ true → has_input (goal_at (after.mind i).goals p) ≡ true → (fields.mind i).line ≡ GetInput chosen → p ≡ (fields.mind i).process → min (fields.value chosen (fields.mind i).process 0) greatest ≡ input_at spec after p)
    (low : (p : ℕ) → p < processes spec → input_at spec fields p ≤ greatest) where
  pub some_simulator : 0 < spec.simulators
  some_simulator = let b = effect.below in omega arith

  view_of : (p k : ℕ) → fields.level i p k ≡ 2 → (HasShown (progress_own (own_of fields i) p k) × (after.view i p k ≡ fields.view i p k)) ⊎ ((progress_own (own_of fields i) p k ≡ Scanned) × (after.view i p k ≡ with_shown spec (fields.view i p k) (fields.mind i)) × IsLastWord spec (own_of fields i) × (p ≡ (fields.mind i).process) × (k ≡ current_round (fields.mind i)) × ((fields.mind i).line ≡ Show) × (p < processes spec)) → after.view i p k ≡ fields.view i p k
  view_of p k two (inl kept) = kept.1
  view_of p k two (inr new) = absurd (scanned_level spec fields i p k tracks new.0 two)

  pub views : (h p k : ℕ) → h < spec.simulators → 1 ≤ k → IsFixedAt spec fields p k → fields.level h p k ≡ 2 → after.view h p k ≡ fields.view h p k
  views h p k below first at two = dite (ℕ_discrete h i)
      (λ (e : h ≡ i).
      let two' : fields.level i p k ≡ 2 = subst (λ (b : ℕ). fields.level b p k ≡ 2) e two in
      subst (λ (b : ℕ). after.view b p k ≡ fields.view b p k) (sym e)
      (view_of p k two' (own_shown spec fields (own_of fields i) p k (own_of after i) effect.own (at_two spec after i p k tracks' ((stay.twos p k i effect.below at).0 two')))))
      (λ (n : h ≢ i). ap (λ (own : Own). own.view p k) (effect.others h n))

  pub most : AreAtMost spec.simulators (processes spec) fields.step after.step
  most a p below below' = dite (ℕ_discrete a i)
      (λ (e : a ≡ i). subst (λ (b : ℕ). fields.step b p ≤ after.step b p) (sym e) (own_grows spec fields (own_of fields i) (own_of after i) p effect.own))
      (λ (n : a ≢ i). let same : after.step a p ≡ fields.step a p = ap (λ (own : Own). own.step p) (effect.others a n) in omega (arith, same))

  -- the write that a turn at Raise is about to count
  raise_write : (p r : ℕ) → (fields.mind i).line ≡ Raise → p ≡ (fields.mind i).process → r ≡ fields.step i p + 1 → (value : ℕ) × (fields.value i p r ≡ value) × (goal_at (fields.mind i).goals p ≡ goals.Write r value)
  raise_write p r is e new =
      let mind = fields.mind i in
      let tells = subst (λ (l : Line). Tells spec.rounds (current_goal mind) (stage_of l) (fields.step i mind.process) (fields.level i mind.process)) is (at_sweep spec.rounds mind (fields.step i) (fields.level i) (tracks.told i)) in
      let write = write_of spec.rounds (current_goal mind) (fields.step i mind.process) tells.counts in
      let round : r ≡ current_round mind = new ∙ ap (λ (q : ℕ). fields.step i q + 1) e ∙ stored_round spec.rounds (current_goal mind) (fields.step i mind.process) tells.counts in (
        write.0,
        ap (λ (q : ℕ). fields.value i q r) e ∙ ap (λ (k : ℕ). fields.value i mind.process k) round ∙ known.stored i (current_round mind) write.0 effect.below is write.1,
        ap (λ (q : ℕ). goal_at mind.goals q) e ∙ write.1 ∙ ap (λ (k : ℕ). goals.Write k write.0) (sym round),
      )

  raise_due : (p r : ℕ) → p < processes spec → (fields.mind i).line ≡ Raise → p ≡ (fields.mind i).process → r ≡ fields.step i p + 1 → IsDue spec fields p r (fields.value i p r)
  raise_due p r below' is e new =
      let at = raise_write p r is e new in
      subst (IsDue spec fields p r) (sym at.1) (known.writes i p r at.0 effect.below below' at.2)

  own_due : (p r : ℕ) → p < processes spec → 1 ≤ r → (r ≤ fields.step i p) ⊎ (((fields.mind i).line ≡ Raise) × (p ≡ (fields.mind i).process) × (r ≡ fields.step i p + 1)) → IsDue spec fields p r (after.value i p r)
  own_due p r below' first (inl counted) =
      subst (IsDue spec fields p r) (sym (own_values spec fields (own_of fields i) p (own_of after i) r effect.own first (inl counted))) (known.values i p r effect.below below' first counted)
  own_due p r below' first (inr new) =
      subst (IsDue spec fields p r) (sym (own_values spec fields (own_of fields i) p (own_of after i) r effect.own first (inr new.0))) (raise_due p r below' new.0 new.1 new.2)

  pub due_after : (a p r : ℕ) → a < spec.simulators → p < processes spec → 1 ≤ r → r ≤ after.step a p → IsDue spec fields p r (after.value a p r)
  due_after a p r below below' first counted = dite (ℕ_discrete a i)
      (λ (e : a ≡ i). subst (λ (b : ℕ). IsDue spec fields p r (after.value b p r)) (sym e) (own_due p r below' first (own_counts spec fields (own_of fields i) p (own_of after i) r effect.own (subst (λ (b : ℕ). r ≤ after.step b p) e counted))))
      (λ (n : a ≢ i).
      let same = effect.others a n in
      subst (IsDue spec fields p r) (sym (ap (λ (own : Own). own.value p r) same)) (known.values a p r below below' first (subst (λ (own : Own). r ≤ own.step p) same counted)))

  due : (p r value : ℕ) → p < processes spec → IsSettledInput spec fields p → IsDue spec fields p r value → IsDue spec after p r value
  due p r value within' settled is = due_kept spec fields after some_simulator stay within known views most due_after inputs p r value within' settled is

  -- a process of which a write is counted has its input
  settled_counted : (a p r : ℕ) → a < spec.simulators → 1 ≤ r → r ≤ after.step a p → IsSettledInput spec fields p
  settled_counted a p r below first counted = dite (ℕ_discrete a i)
      (λ (e : a ≡ i). elim (own_counts spec fields (own_of fields i) p (own_of after i) r effect.own (subst (λ (b : ℕ). r ≤ after.step b p) e counted)) [
        | inl was ↦ settled_by spec fields i p effect.below (counted_has spec fields i p tracks (omega (arith, first, was)))
        | inr new ↦ settled_by spec fields i p effect.below (ap has_input (raise_write p r new.0 new.1 new.2).2)
      ])
      (λ (n : a ≢ i). let same = ap (λ (own : Own). own.step p) (effect.others a n) in settled_by spec fields a p below (counted_has spec fields a p tracks (omega (arith, first, counted, same))))

  next_settled : (p k value : ℕ) → IsNext spec fields (own_of fields i) p k value → IsSettledInput spec fields p
  next_settled p k value next =
      settled_by spec fields i p effect.below (ap (λ (q : ℕ). has_input (goal_at (fields.mind i).goals q)) next.process ∙ reading_has spec fields tracks small within known sound knows i effect.below next.reading next.reads)

  -- the first write, by the input that was agreed on
  first_due : (p k value : ℕ) → p < processes spec → has_input (goal_at (after.mind i).goals p) ≡ true → IsFirst spec fields (own_of fields i) p k value → IsDue spec after p k value
  first_due p k value within' has first =
      let kind = zero_kind spec (current_goal (fields.mind i)) first.turn.goal first.turn.left first.turn.first in
      first_write first.round
      (first.is ∙ ap (λ (input : ℕ). first_value spec.protocol input (fields.mind i).process (processes spec)) (got p first.chosen within' kind has first.turn.stands first.process)
      ∙ ap (λ (q : ℕ). first_value spec.protocol (input_at spec after p) q (processes spec)) (sym first.process))

  by_write : (p k value : ℕ) → p < processes spec → has_input (goal_at (after.mind i).goals p) ≡ true → (goal_at (fields.mind i).goals p ≡ goals.Write k value) ⊎ (IsNext spec fields (own_of fields i) p k value ⊎ IsFirst spec fields (own_of fields i) p k value) → IsDue spec after p k value
  by_write p k value below' has (inl old) = due p k value below' (settled_by spec fields i p effect.below (ap has_input old)) (known.writes i p k value effect.below below' old)
  by_write p k value below' has (inr (inl next)) = due p k value below' (next_settled p k value next) (next_due spec fields tracks small within known sound knows i effect.below p k value next)
  by_write p k value below' has (inr (inr first)) = first_due p k value below' has first

  by_decided : (p decision : ℕ) → p < processes spec → ((fields.out i p ≡ decision + 1) × (after.step i p ≡ fields.step i p)) ⊎ (((fields.mind i).line ≡ Out decision) × (p ≡ (fields.mind i).process) × (after.step i p ≡ current_round (fields.mind i))) → IsDeciding spec fields p (after.step i p) decision
  by_decided p decision below' (inl old) = subst (λ (k : ℕ). IsDeciding spec fields p k decision) (sym old.1) (known.outs i p decision effect.below below' old.0)
  by_decided p decision below' (inr new) =
      subst (λ (k : ℕ). IsDeciding spec fields p k decision) (sym new.2) (subst (λ (q : ℕ). IsDeciding spec fields q (current_round (fields.mind i)) decision) (sym new.1) (known.deciding i decision effect.below new.0))

  by_spent : (p : ℕ) → p < processes spec → ((goal_at (fields.mind i).goals p ≡ goals.Spent) × (after.step i p ≡ fields.step i p)) ⊎ ((value : ℕ) × (after.step i p ≡ fields.step i p) × IsNext spec fields (own_of fields i) p (fields.step i p + 1) value)
      → (value : ℕ) × IsDue spec fields p (after.step i p + 1) value
  by_spent p below' (inl old) =
      let was = known.spent i p effect.below below' old.0 in
      (was.0, subst (λ (k : ℕ). IsDue spec fields p (k + 1) was.0) (sym old.1) was.1)
  by_spent p below' (inr new) = (new.0, subst (λ (k : ℕ). IsDue spec fields p (k + 1) new.0) (sym new.1) (next_due spec fields tracks small within known sound knows i effect.below p (fields.step i p + 1) new.0 new.2))

  spent_due : (a p : ℕ) → a < spec.simulators → p < processes spec → goal_at (after.mind a).goals p ≡ goals.Spent → (value : ℕ) × IsDue spec fields p (after.step a p + 1) value
  spent_due a p below below' is = dite (ℕ_discrete a i)
      (λ (e : a ≡ i). subst (λ (b : ℕ). (value : ℕ) × IsDue spec fields p (after.step b p + 1) value) (sym e) (by_spent p below' (own_spent spec fields (own_of fields i) p (own_of after i) effect.own (ap (λ (b : ℕ). goal_at (after.mind b).goals p) (sym e) ∙ is))))
      (λ (n : a ≢ i).
      let same = effect.others a n in
      subst (λ (own : Own). (value : ℕ) × IsDue spec fields p (own.step p + 1) value) (sym same) (known.spent a p below below' (ap (λ (own : Own). goal_at own.mind.goals p) (sym same) ∙ is)))

  spent_settled : (a p : ℕ) → a < spec.simulators → goal_at (after.mind a).goals p ≡ goals.Spent → IsSettledInput spec fields p
  spent_settled a p below is = dite (ℕ_discrete a i)
      (λ (e : a ≡ i). elim (own_spent spec fields (own_of fields i) p (own_of after i) effect.own (ap (λ (b : ℕ). goal_at (after.mind b).goals p) (sym e) ∙ is)) [
        | inl old ↦ settled_by spec fields i p effect.below (ap has_input old.0)
        | inr new ↦ next_settled p (fields.step i p + 1) new.0 new.2
      ])
      (λ (n : a ≢ i). settled_by spec fields a p below (ap has_input (ap (λ (own : Own). goal_at own.mind.goals p) (sym (effect.others a n)) ∙ is)))

  raise_low : (p r : ℕ) → p < processes spec → (fields.mind i).line ≡ Raise → p ≡ (fields.mind i).process → r ≡ fields.step i p + 1 → fields.value i p r ≤ greatest
  raise_low p r below' is e new =
      let at = raise_write p r is e new in
      subst (λ (v : ℕ). v ≤ greatest) (sym at.1) (known.low_writes i p r at.0 effect.below below' at.2)

  own_low : (p r : ℕ) → p < processes spec → 1 ≤ r → (r ≤ fields.step i p) ⊎ (((fields.mind i).line ≡ Raise) × (p ≡ (fields.mind i).process) × (r ≡ fields.step i p + 1)) → after.value i p r ≤ greatest
  own_low p r below' first (inl counted) =
      subst (λ (v : ℕ). v ≤ greatest) (sym (own_values spec fields (own_of fields i) p (own_of after i) r effect.own first (inl counted))) (known.low_values i p r effect.below below' first counted)
  own_low p r below' first (inr new) =
      subst (λ (v : ℕ). v ≤ greatest) (sym (own_values spec fields (own_of fields i) p (own_of after i) r effect.own first (inr new.0))) (raise_low p r below' new.0 new.1 new.2)

  low_after : (a p r : ℕ) → a < spec.simulators → p < processes spec → 1 ≤ r → r ≤ after.step a p → after.value a p r ≤ greatest
  low_after a p r below below' first counted = dite (ℕ_discrete a i)
      (λ (e : a ≡ i). subst (λ (b : ℕ). after.value b p r ≤ greatest) (sym e) (own_low p r below' first (own_counts spec fields (own_of fields i) p (own_of after i) r effect.own (subst (λ (b : ℕ). r ≤ after.step b p) e counted))))
      (λ (n : a ≢ i).
      let same = effect.others a n in
      subst (λ (v : ℕ). v ≤ greatest) (sym (ap (λ (own : Own). own.value p r) same)) (known.low_values a p r below below' first (subst (λ (own : Own). r ≤ own.step p) same counted)))

  next_low : (p k value : ℕ) → p < processes spec → IsNext spec fields (own_of fields i) p k value → value ≤ greatest
  next_low p k value below' next =
      let reading = next.reading in
      let at = loaded spec fields within known i effect.below reading next.reads in
      let long = full spec fields within known i effect.below reading next.reads next.all in
      let round : current_round reading ≡ current_round (fields.mind i) = ap (λ (l : List Goal). round_of (goal_at l reading.process)) next.reads.goals ∙ ap (λ (q : ℕ). round_of (goal_at (fields.mind i).goals q)) next.reads.same in
      let last = next.reads.last in
      let process : reading.process < processes spec = let e = next.process in omega arith in
      let input = has_given spec fields tracks small within known sound knows i effect.below reading next.reads in
      let low' = low reading.process process in
      small.next reading.process (current_input spec reading) (current_round reading) value reading.entries process (omega (arith, input, low')) (omega arith) long at.small next.action

  first_low : (p k value : ℕ) → IsFirst spec fields (own_of fields i) p k value → value ≤ greatest
  first_low p k value first =
      let input = min (fields.value first.chosen (fields.mind i).process 0) greatest in
      let is = first.is in
      let most = small.first (fields.mind i).process input first.turn.process (omega arith) in
      omega (arith, is, most)

  write_low : (p k value : ℕ) → p < processes spec → (goal_at (fields.mind i).goals p ≡ goals.Write k value) ⊎ (IsNext spec fields (own_of fields i) p k value ⊎ IsFirst spec fields (own_of fields i) p k value) → value ≤ greatest
  write_low p k value below' (inl old) = known.low_writes i p k value effect.below below' old
  write_low p k value below' (inr (inl next)) = next_low p k value below' next
  write_low p k value below' (inr (inr first)) = first_low p k value first

  pub known_line : IsKnown spec after
  known_line = record {
    values = λ a p r below below' first counted. due p r (after.value a p r) below' (settled_counted a p r below first counted) (due_after a p r below below' first counted);
    low_values = low_after;
    low_writes = λ a p k value below below' is. dite (ℕ_discrete a i)
        (λ (e : a ≡ i). write_low p k value below' (own_writes spec fields (own_of fields i) p (own_of after i) k value effect.own (ap (λ (b : ℕ). goal_at (after.mind b).goals p) (sym e) ∙ is)))
        (λ (n : a ≢ i). known.low_writes a p k value below below' (ap (λ (own : Own). goal_at own.mind.goals p) (sym (effect.others a n)) ∙ is));
    writes = λ a p k value below below' is. dite (ℕ_discrete a i)
        (λ (e : a ≡ i).
        let is' : goal_at (after.mind i).goals p ≡ goals.Write k value = ap (λ (b : ℕ). goal_at (after.mind b).goals p) (sym e) ∙ is in
        by_write p k value below' (ap has_input is') (own_writes spec fields (own_of fields i) p (own_of after i) k value effect.own is'))
        (λ (n : a ≢ i).
        let is' : goal_at (fields.mind a).goals p ≡ goals.Write k value = ap (λ (own : Own). goal_at own.mind.goals p) (sym (effect.others a n)) ∙ is in
        due p k value below' (settled_by spec fields a p below (ap has_input is')) (known.writes a p k value below below' is'));
    stored = λ a k value below is at. dite (ℕ_discrete a i)
        (λ (e : a ≡ i).
        subst (λ (b : ℕ). after.value b (after.mind b).process k ≡ value) (sym e)
        (own_stored spec fields (own_of fields i) 0 (own_of after i) k value effect.own (ap (λ (b : ℕ). (after.mind b).line) (sym e) ∙ is) (ap (λ (b : ℕ). current_goal (after.mind b)) (sym e) ∙ at)))
        (λ (n : a ≢ i).
        let same = effect.others a n in
        ap (λ (own : Own). own.value own.mind.process k) same ∙ known.stored a k value below (ap (λ (own : Own). own.mind.line) (sym same) ∙ is) (ap (λ (own : Own). current_goal own.mind) (sym same) ∙ at));
    chosen = λ a chosen below is. chosen_kept spec fields after some_simulator stay within known views most due_after inputs (after.mind a).process (current_round (after.mind a)) chosen (dite (ℕ_discrete a i)
        (λ (e : a ≡ i).
        subst (λ (b : ℕ). IsChosen spec fields (after.mind b).process (current_round (after.mind b)) chosen) (sym e)
        (chosen_new spec fields tracks small within known sound knows i effect.below (own_of after i) chosen effect.own (ap (λ (b : ℕ). (after.mind b).line) (sym e) ∙ is)))
        (λ (n : a ≢ i).
        let same = effect.others a n in
        subst (λ (own : Own). IsChosen spec fields own.mind.process (current_round own.mind) chosen) (sym same) (known.chosen a chosen below (ap (λ (own : Own). own.mind.line) (sym same) ∙ is))));
    loading = λ a chosen below is.
        let pair = dite (ℕ_discrete a i)
        (λ (e : a ≡ i).
        let is' = ap (λ (b : ℕ). (after.mind b).line) (sym e) ∙ is in
        subst (λ (b : ℕ). IsChosen spec fields (after.mind b).process (current_round (after.mind b)) chosen × IsLoaded spec fields (own_of after b) chosen) (sym e)
        (chosen_new spec fields tracks small within known sound knows i effect.below (own_of after i) chosen effect.own is', loading_new spec fields tracks small within known sound knows i effect.below (own_of after i) chosen effect.own is'))
        (λ (n : a ≢ i).
        let same = effect.others a n in
        let is' = ap (λ (own : Own). own.mind.line) (sym same) ∙ is in
        subst (λ (own : Own). IsChosen spec fields own.mind.process (current_round own.mind) chosen × IsLoaded spec fields own chosen) (sym same) (known.chosen a chosen below is', known.loading a chosen below is')) in
        loaded_kept spec fields after some_simulator stay within known views most due_after inputs (own_of after a) chosen pair.0 pair.1;
    reading = λ a below is. gathered_kept spec fields after some_simulator stay within known views most due_after inputs (after.mind a).process (current_round (after.mind a)) (after.mind a).snapshot (after.mind a).entries (dite (ℕ_discrete a i)
        (λ (e : a ≡ i).
        subst (λ (b : ℕ). IsGathered spec fields (after.mind b).process (current_round (after.mind b)) (after.mind b).snapshot (after.mind b).entries) (sym e)
        (reading_new spec fields tracks small within known sound knows i effect.below (own_of after i) effect.own (ap (λ (b : ℕ). (after.mind b).line) (sym e) ∙ is)))
        (λ (n : a ≢ i).
        let same = effect.others a n in
        subst (λ (own : Own). IsGathered spec fields own.mind.process (current_round own.mind) own.mind.snapshot own.mind.entries) (sym same) (known.reading a below (ap (λ (own : Own). own.mind.line) (sym same) ∙ is))));
    deciding = λ a decision below is. deciding_kept spec fields after some_simulator stay within known views most due_after inputs (after.mind a).process (current_round (after.mind a)) decision (dite (ℕ_discrete a i)
        (λ (e : a ≡ i).
        subst (λ (b : ℕ). IsDeciding spec fields (after.mind b).process (current_round (after.mind b)) decision) (sym e)
        (deciding_new spec fields tracks small within known sound knows i effect.below (own_of after i) decision effect.own (ap (λ (b : ℕ). (after.mind b).line) (sym e) ∙ is)))
        (λ (n : a ≢ i).
        let same = effect.others a n in
        subst (λ (own : Own). IsDeciding spec fields own.mind.process (current_round own.mind) decision) (sym same) (known.deciding a decision below (ap (λ (own : Own). own.mind.line) (sym same) ∙ is))));
    outs = λ a p decision below below' out. deciding_kept spec fields after some_simulator stay within known views most due_after inputs p (after.step a p) decision (dite (ℕ_discrete a i)
        (λ (e : a ≡ i).
        subst (λ (b : ℕ). IsDeciding spec fields p (after.step b p) decision) (sym e)
        (by_decided p decision below' (own_decided spec fields (own_of fields i) p (own_of after i) decision effect.own (sound.outs i p) (ap (λ (b : ℕ). after.out b p) (sym e) ∙ out))))
        (λ (n : a ≢ i).
        let same = effect.others a n in
        subst (λ (own : Own). IsDeciding spec fields p (own.step p) decision) (sym same) (known.outs a p decision below below' (ap (λ (own : Own). own.out p) (sym same) ∙ out))));
    spent = λ a p below below' is. let was = spent_due a p below below' is in (was.0, due p (after.step a p + 1) was.0 below' (spent_settled a p below is) was.1);
  }

-- ---- where only crashes and quiet counts change

known_other : (spec : RoomSpec) (fields : Fields) (quiet : ℕ → ℕ) (crashed : ℕ → Bool) → 0 < spec.simulators → KeepsTrack spec fields → ViewsWithin spec fields → KnowsInputs spec fields → IsKnown spec fields → IsKnown spec (record fields { quiet = quiet; crashed = crashed })
known_other spec fields quiet crashed some tracks within knows known =
    let after : Fields = record fields { quiet = quiet; crashed = crashed } in
    let stay = with_others spec fields quiet crashed (stay_same spec fields tracks) in
    let views : (h p k : ℕ) → h < spec.simulators → 1 ≤ k → IsFixedAt spec fields p k → fields.level h p k ≡ 2 → after.view h p k ≡ fields.view h p k = λ h p k below first at two. refl in
    let inputs : InputsStay spec fields after = record { kept = λ p within' settled. refl; settled = λ p k first at. fixed_settled spec fields p k tracks knows first at } in
    let most : AreAtMost spec.simulators (processes spec) fields.step after.step = λ a p below below'. omega arith in
    record {
      values = λ a p r below below' first counted. due_kept spec fields after some stay within known views most known.values inputs p r (fields.value a p r) below' (settled_by spec fields a p below (counted_has spec fields a p tracks (omega (arith, first, counted)))) (known.values a p r below below' first counted);
      writes = λ a p k value below below' is. due_kept spec fields after some stay within known views most known.values inputs p k value below' (settled_by spec fields a p below (ap has_input is)) (known.writes a p k value below below' is);
      low_values = known.low_values;
      low_writes = known.low_writes;
      stored = known.stored;
      chosen = λ a chosen below is. chosen_kept spec fields after some stay within known views most known.values inputs (fields.mind a).process (current_round (fields.mind a)) chosen (known.chosen a chosen below is);
      loading = known.loading;
      reading = λ a below is. gathered_kept spec fields after some stay within known views most known.values inputs (fields.mind a).process (current_round (fields.mind a)) (fields.mind a).snapshot (fields.mind a).entries (known.reading a below is);
      deciding = λ a decision below is. deciding_kept spec fields after some stay within known views most known.values inputs (fields.mind a).process (current_round (fields.mind a)) decision (known.deciding a decision below is);
      outs = λ a p decision below below' out. deciding_kept spec fields after some stay within known views most known.values inputs p (fields.step a p) decision (known.outs a p decision below below' out);
      spent = λ a p below below' is. let was = known.spent a p below below' is in (was.0, due_kept spec fields after some stay within known views most known.values inputs p (fields.step a p + 1) was.0 below' (settled_by spec fields a p below (ap has_input is)) was.1);
    }

-- ---- the opening

first_goal_is : (spec : RoomSpec) (p k value : ℕ) → p < processes spec → goal_at (map (first_goal spec) (range_with_len 0 (processes spec))) p ≡ goals.Write k value → (k ≡ 1) × (value ≡ first_value spec.protocol (slice_index spec.inputs p) p (processes spec))
first_goal_is spec p k value below is =
    let same : goals.Write 1 (first_value spec.protocol (slice_index spec.inputs p) p (processes spec)) ≡ goals.Write k value = sym (get_or-map-range_with_len (first_goal spec) 0 (processes spec) p p goals.Done below (omega arith)) ∙ is in
    (cc, cc)

-- in a reduction no process has a write to make
no_write : (n given p k value : ℕ) → goal_at (replicate n (goals.Propose given)) p ≡ goals.Write k value → ⊥
no_write zero given p k value is = cc
no_write (suc n) given zero k value is = cc
no_write (suc n) given (suc p) k value is = no_write n given p k value is

opening_write : (spec : RoomSpec) (b : Bool) (given p k value : ℕ) → goal_at (cond b (replicate (processes spec) (goals.Propose given)) (first_goals spec)) p ≡ goals.Write k value → (b ≡ false) × (goal_at (first_goals spec) p ≡ goals.Write k value)
opening_write spec true given p k value is = absurd (no_write (processes spec) given p k value is)
opening_write spec false given p k value is = (refl, is)

none_spent : (n given p : ℕ) → goal_at (replicate n (goals.Propose given)) p ≡ goals.Spent → ⊥
none_spent zero given p is = cc
none_spent (suc n) given zero is = cc
none_spent (suc n) given (suc p) is = none_spent n given p is

first_unspent : (spec : RoomSpec) (numbers : List ℕ) (p : ℕ) → goal_at (map (first_goal spec) numbers) p ≡ goals.Spent → ⊥
first_unspent spec [] p is = cc
first_unspent spec (q ∷ numbers) zero is = cc
first_unspent spec (q ∷ numbers) (suc p) is = first_unspent spec numbers p is

opening_unspent : (spec : RoomSpec) (b : Bool) (given p : ℕ) → goal_at (cond b (replicate (processes spec) (goals.Propose given)) (first_goals spec)) p ≡ goals.Spent → ⊥
opening_unspent spec true given p is = none_spent (processes spec) given p is
opening_unspent spec false given p is = first_unspent spec (range_with_len 0 (processes spec)) p is

pub opening_known : (spec : RoomSpec) → HasSmallValues spec → IsKnown spec (opening_fields spec)
opening_known spec small = record {
  values = λ a p r below below' first counted. absurd (omega arith);
  low_values = λ a p r below below' first counted. absurd (omega arith);
  low_writes = λ a p k value below below' is.
      let at = first_goal_is spec p k value below' (opening_write spec (is_reduction spec) (slice_index spec.own a) p k value is).1 in
      let low = small.first p (slice_index spec.inputs p) below' (small.inputs p) in
      let e = at.1 in
      omega arith;
  writes = λ a p k value below below' is.
      let write = opening_write spec (is_reduction spec) (slice_index spec.own a) p k value is in
      let at = first_goal_is spec p k value below' write.1 in
      first_write at.0 (at.1 ∙ ap (λ (input : ℕ). first_value spec.protocol input p (processes spec)) (sym (ordinary_input spec (opening_fields spec) p write.0)));
  stored = λ a k value below is at. absurd (no_raise is);
  chosen = λ a chosen below is. absurd (no_view chosen is);
  loading = λ a chosen below is. absurd (no_view chosen is);
  reading = λ a below is. absurd (no_values is);
  deciding = λ a decision below is. absurd (no_out decision is);
  outs = λ a p decision below below' out. absurd (omega arith);
  spent = λ a p below below' is. absurd (opening_unspent spec (is_reduction spec) (slice_index spec.own a) p is);
}
  where
    no_raise : Rest ≡ Raise → ⊥
    no_raise e = cc

    no_view : (chosen : ℕ) → Rest ≡ GetView chosen → ⊥
    no_view chosen e = cc

    no_values : Rest ≡ Values → ⊥
    no_values e = cc

    no_out : (decision : ℕ) → Rest ≡ Out decision → ⊥
    no_out decision e = cc

-- ---- each event

pub views_within : (spec : RoomSpec) (schedule : List ScheduleEvent) (fields : Fields) → KeepsTrack spec fields → IsHistory spec schedule fields → ViewsWithin spec fields
views_within spec schedule fields tracks history h p k below first two a q within within' =
    let moment = history.shown h p k below first (at_two spec fields h p k tracks two) in
    let at = moment.same a q within within' in
    let grown = history.grows moment.time (length schedule) moment.early (omega arith) a q within within' in
    let end : (fields_at spec schedule (length schedule)).step a q ≡ fields.step a q = ap (λ (prefix : List ScheduleEvent). (replay_fields spec (opening_fields spec) prefix).step a q) (take_all (length schedule) schedule (omega arith)) ∙ ap (λ (f : Fields). f.step a q) history.leads in
    omega (arith, at, grown, end)

abbrev pub KnownAfter : RoomSpec → List ScheduleEvent → Fields → Type 0
KnownAfter spec schedule fields = IsHistory spec schedule fields × IsSound spec fields × KnowsInputs spec fields × (HasSmallValues spec → IsKnown spec fields)

-- what the inputs of a line need
pub line_inputs : (room : Configuration) (fields : Fields) (i : ℕ) → IsShaped room → HasLine room i → StandsFor room fields → IsSound room.spec fields → KnowsInputs room.spec fields → KnowsInputs room.spec (line room.spec fields i)
line_inputs room fields i shape may for sound knows = inputs_line room.spec shape.limits fields (line room.spec fields i) i for.tracks sound (line_effect room fields i shape for may) (stay_line room fields i shape for may) knows

pub line_inputs_stay : (room : Configuration) (fields : Fields) (i : ℕ) → IsShaped room → HasLine room i → StandsFor room fields → IsSound room.spec fields → KnowsInputs room.spec fields → InputsStay room.spec fields (line room.spec fields i)
line_inputs_stay room fields i shape may for sound knows =
    let effect = line_effect room fields i shape for may in
    let stay = stay_line room fields i shape for may in
    inputs_stay room.spec fields (line room.spec fields i) for.tracks (event_stands room fields (steps i) shape may for).tracks sound (sound_kept room fields [] (steps i) shape may for sound) knows (line_inputs room fields i shape may for sound knows) stay
    (λ a q had. has_kept room.spec shape.limits fields (line room.spec fields i) i for.tracks sound effect stay knows a q had)

pub line_got : (room : Configuration) (fields : Fields) (i : ℕ) → IsShaped room → HasLine room i → StandsFor room fields → IsSound room.spec fields → KnowsInputs room.spec fields → (p chosen : ℕ) → p < processes room.spec → is_reduction room.spec ≡ true
    → has_input (goal_at ((line room.spec fields i).mind i).goals p) ≡ true → (fields.mind i).line ≡ GetInput chosen → p ≡ (fields.mind i).process → min (fields.value chosen (fields.mind i).process 0) greatest ≡ input_at room.spec (line room.spec fields i) p
line_got room fields i shape may for sound knows p chosen within kind has is e =
    let spec = room.spec in
    let after = line spec fields i in
    got_is spec shape.limits fields after i for.tracks sound (line_effect room fields i shape for may) (stay_line room fields i shape for may) knows p chosen within kind is e
    ∙ sym (input_is spec after (event_stands room fields (steps i) shape may for).tracks (sound_kept room fields [] (steps i) shape may for sound) (line_inputs room fields i shape may for sound knows) p within (known_by spec after i p may.alive.below kind has))

line_known : (room : Configuration) (fields : Fields) (i : ℕ) → IsShaped room → HasLine room i → StandsFor room fields → IsSound room.spec fields → KnowsInputs room.spec fields → HasSmallValues room.spec → ViewsWithin room.spec fields → IsKnown room.spec fields → IsKnown room.spec (line room.spec fields i)
line_known room fields i shape may for sound knows small within known =
    known_line room.spec fields (line room.spec fields i) i for.tracks (event_stands room fields (steps i) shape may for).tracks small within known (line_effect room fields i shape for may) (stay_line room fields i shape for may) sound knows
    (line_inputs_stay room fields i shape may for sound knows) (line_got room fields i shape may for sound knows) (λ p within'. input_low room.spec fields p shape.limits for.tracks sound knows within')

pub known_kept : (room : Configuration) (fields : Fields) (done : List ScheduleEvent) (event : ScheduleEvent) → IsShaped room → MayHappen room event → StandsFor room fields → KnownAfter room.spec done fields → KnownAfter room.spec (done ++ event ∷ []) (fields_after room.spec fields event)
known_kept room fields done (steps i) shape may for both = (
  history_kept room fields done (steps i) shape may for both.0,
  sound_kept room fields done (steps i) shape may for both.1,
  line_inputs room fields i shape may for both.1 both.2,
  λ small. line_known room fields i shape may for both.1 both.2 small (views_within room.spec done fields for.tracks both.0) (both.3 small),
)
known_kept room fields done (crashes i) shape may for both = (
  history_kept room fields done (crashes i) shape may for both.0,
  sound_kept room fields done (crashes i) shape may for both.1,
  inputs_other room.spec fields fields.quiet _ both.2,
  λ small. known_other room.spec fields fields.quiet _ (let b = may.below in omega arith) for.tracks (views_within room.spec done fields for.tracks both.0) both.2 (both.3 small),
)

pub known_run : (room : Configuration) → IsWithinLimits room.spec → (one : IsOneInterleaving room) → KnownAfter room.spec one.schedule (replay_fields room.spec (opening_fields room.spec) one.schedule)
known_run room limits one = over_run KnownAfter known_kept room limits one (opening_history room.spec, opening_sound room.spec, opening_inputs_known room.spec, λ small. opening_known room.spec small)

-- what the simulators know of inputs
pub fields_inputs : (room : RoomState) (fields : Fields) → IsWithinLimits room.spec → AreFieldsOf room fields → KnowsInputs room.spec fields
fields_inputs room fields limits are =
    let base = replay_fields room.spec (opening_fields room.spec) are.run.schedule in
    subst (KnowsInputs room.spec) (sym (leads_of room fields are)) (inputs_other room.spec base fields.quiet base.crashed (known_run (configuration_of room) limits are.run).2)

pub fields_known : (room : RoomState) (fields : Fields) → IsWithinLimits room.spec → AreFieldsOf room fields → IsKnown room.spec fields
fields_known room fields limits are =
    let base = replay_fields room.spec (opening_fields room.spec) are.run.schedule in
    let tracks = (stands_for (configuration_of room) limits are.run).tracks in
    let within = views_within room.spec are.run.schedule base tracks (history_run (configuration_of room) limits are.run) in
    let all = known_run (configuration_of room) limits are.run in
    subst (IsKnown room.spec) (sym (leads_of room fields are)) (known_other room.spec base fields.quiet base.crashed (let b = limits.shape.m_range.0 in omega arith) tracks within all.2 (all.3 (small_values room.spec limits)))
