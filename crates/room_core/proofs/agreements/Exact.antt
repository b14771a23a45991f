-- A proposal that stands shows of its own process exactly the round of its agreement.
use Rattle.std.proofs.Common.{◌≡◌, ◌≢◌, ◌⊎◌, ℕ, ◌<◌, ◌≤◌, List, [], ◌∷◌, ◌++◌, inl, inr, sym, ap, ◌∙◌, subst, arith}
use Rattle.std.proofs.lemmas.Bool.{cases_lt}
use mathlib.Core.Logic.{dite}
use native.Mathlib.Decide.{ℕ_discrete}
use Rattle.room_spec.specs.Rooms.{RoomSpec, IsWithinLimits, processes}
use Rattle.safe_agreement.specs.Phases.{phase_level, IsFixed}
use Rattle.sim_memory.specs.Steps.{merged_of, row_of, IsRowAtMost}
use Rattle.sim_memory.proofs.CallerLemmas.{merged_at, merged_reached, merged_below, row_grows}
use Rattle.room_core.specs.Rooms.{Configuration, ScheduleEvent, steps, crashes, MayHappen, IsShaped, IsOneInterleaving}
use Rattle.room_core.specs.Calls.{RoomState, configuration_of}
use Rattle.room_core.specs.Reading.{AreFieldsOf}
use Rattle.room_core.specs.Moments.{IsMoment, IsScan}
use Rattle.room_core.specs.Fields.{StepMap, Fields, opening_fields, line, with_crash, fields_after, replay_fields, entry_of_steps}
use Rattle.room_core.specs.Tracks.{KeepsTrack, StandsFor}
use Rattle.room_core.proofs.fields.FieldReplays.{event_stands, stands_for}
use Rattle.room_core.proofs.agreements.Stages.{Progress, Uncounted, Fresh, Scanned, Shown, Inside, Seen, Past, later, phase_of, phase_begun, has_to_propose, held_back, not_held_back, phases_in, level_is}
use Rattle.room_core.proofs.fields.Effects.{Own, own_of, IsLineOf, line_effect}
use Rattle.room_core.proofs.agreements.PhaseSteps.{advances}
use Rattle.room_core.proofs.fields.Prefixes.{over_run}
use Rattle.room_core.proofs.agreements.Sound.{IsSound, fixed_on, twos_on, sound_kept, opening_sound}
use Rattle.room_core.proofs.agreements.Fixing.{counted_is_fixed}
use Rattle.room_core.proofs.moments.Shown.{HasShown, progress_own, own_shown}
use Rattle.room_core.proofs.moments.Moments.{IsHistory, moments_compare, history_kept, history_run, opening_history, at_before, at_end, length-snoc, view_same}
use Rattle.std.proofs.Common.{length}
use Rattle.simulator.specs.declared.line.Line.TheVariants.{Show}
use Rattle.simulator.specs.Minds.{current_round}
use Rattle.room_core.specs.Fields.{with_shown}
use Rattle.room_core.specs.Moments.{fields_at}
use Rattle.room_core.proofs.fields.Effects.{IsLastWord}
use Rattle.room_core.proofs.fields.Prefixes.{replay_fields-snoc}
use Rattle.room_core.proofs.fields.FieldCalls.{leads_of, with_quiet}

-- the map shows at most r writes of process p
abbrev pub ShowsAtMost : RoomSpec → StepMap → ℕ → ℕ → Type 0
ShowsAtMost spec map p r = (a : ℕ) → a < spec.simulators → map a p ≤ r

-- A proposal shows no more than its round; or the agreement was fixed before it could stand.
-- And at no moment had anybody counted more than a round whose agreement isn't fixed by now.
pub record IsExact (spec : RoomSpec) (schedule : List ScheduleEvent) (fields : Fields) : Type 0 where
  pub shown : (i p r : ℕ) → i < spec.simulators → 1 ≤ r → HasShown (progress_own (own_of fields i) p r) → ShowsAtMost spec (fields.view i p r) p r ⊎ (IsFixed spec.simulators (phases_in fields p r) × (fields.level i p r ≢ 2))
  pub moments : (time p r : ℕ) → time ≤ length schedule → 1 ≤ r → ShowsAtMost spec (fields_at spec schedule time).step p r ⊎ IsFixed spec.simulators (phases_in fields p r)

-- who hasn't proposed isn't at level 2
pub scanned_level : (spec : RoomSpec) (fields : Fields) (i p r : ℕ) → KeepsTrack spec fields → progress_own (own_of fields i) p r ≡ Scanned → fields.level i p r ≢ 2
scanned_level spec fields i p r tracks is two =
    let zero : fields.level i p r ≡ 0 = level_is spec.rounds (fields.mind i) (fields.step i) (fields.level i) (tracks.told i) p r
    ∙ held_back (has_to_propose (fields.mind i) p) (phase_begun (fields.mind i) (fields.step i) (fields.level i) p r) (ap (λ (q : Progress). phase_level (phase_of q (fields.level i p r))) is) in
    omega (arith, zero, two)

two_shown : (progress : Progress) (level : ℕ) → phase_level (phase_of progress level) ≡ 2 → HasShown progress
two_shown Uncounted level two = absurd (omega arith)
two_shown Fresh level two = absurd (omega arith)
two_shown Scanned level two = absurd (omega arith)
two_shown Shown level two = tt
two_shown Inside level two = tt
two_shown (Seen saw) level two = tt
two_shown Past level two = tt

pub at_two : (spec : RoomSpec) (fields : Fields) (i p r : ℕ) → KeepsTrack spec fields → fields.level i p r ≡ 2 → HasShown (progress_own (own_of fields i) p r)
at_two spec fields i p r tracks two =
    two_shown (progress_own (own_of fields i) p r) (fields.level i p r) (not_held_back (has_to_propose (fields.mind i) p) (phase_begun (fields.mind i) (fields.step i) (fields.level i) p r) (sym (level_is spec.rounds (fields.mind i) (fields.step i) (fields.level i) (tracks.told i) p r) ∙ two))

-- nobody has counted more than this round, or its agreement is fixed already
most_or_fixed : (spec : RoomSpec) (fields : Fields) → 0 < spec.simulators → KeepsTrack spec fields → IsSound spec fields → (p r : ℕ) → 1 ≤ r → ShowsAtMost spec fields.step p r ⊎ IsFixed spec.simulators (phases_in fields p r)
most_or_fixed spec fields some tracks sound p r first = by_most (cases_lt r (merged_of spec.simulators fields.step p))
  where
    by_most : (r < merged_of spec.simulators fields.step p) ⊎ (merged_of spec.simulators fields.step p ≤ r) → ShowsAtMost spec fields.step p r ⊎ IsFixed spec.simulators (phases_in fields p r)
    by_most (inl more) =
        let who = merged_reached spec.simulators fields.step p some in
        inr (counted_is_fixed spec fields who.0 p r tracks sound who.1 first (let e = who.2 in omega arith))
    by_most (inr most) = inl (λ a below. let b = merged_at spec.simulators fields.step a p below in omega arith)

module _ (spec : RoomSpec) (limits : IsWithinLimits spec) (done : List ScheduleEvent) (event : ScheduleEvent) (fields after : Fields) (i : ℕ) (tracks : KeepsTrack spec fields) (tracks' : KeepsTrack spec after) (leads' : replay_fields spec (opening_fields spec) (done ++ event ∷ []) ≡ after) (effect : IsLineOf spec fields after i) (history : IsHistory spec done fields) (sound : IsSound spec fields)
    (sound' : IsSound spec after) (exact : IsExact spec done fields) where
  still_fixed : (p r : ℕ) → IsFixed spec.simulators (phases_in fields p r) → IsFixed spec.simulators (phases_in after p r)
  still_fixed p r fixed = fixed_on spec.simulators (phases_in fields p r) (phases_in after p r) (advances spec fields after i tracks effect p r) fixed

  -- nobody comes to level 2 in a fixed agreement
  still_out : (a p r : ℕ) → a < spec.simulators → IsFixed spec.simulators (phases_in fields p r) → fields.level a p r ≢ 2 → after.level a p r ≢ 2
  still_out a p r below fixed out two =
      let same = twos_on spec.simulators (phases_in fields p r) (phases_in after p r) (advances spec fields after i tracks effect p r) fixed in
      out (level_is spec.rounds (fields.mind a) (fields.step a) (fields.level a) (tracks.told a) p r
      ∙ (same a below).1 (sym (level_is spec.rounds (after.mind a) (after.step a) (after.level a) (tracks'.told a) p r) ∙ two))

  pass_on : (a p r : ℕ) (view : StepMap) → a < spec.simulators → ShowsAtMost spec view p r ⊎ (IsFixed spec.simulators (phases_in fields p r) × (fields.level a p r ≢ 2)) → ShowsAtMost spec view p r ⊎ (IsFixed spec.simulators (phases_in after p r) × (after.level a p r ≢ 2))
  pass_on a p r view below (inl most) = inl most
  pass_on a p r view below (inr late) = inr (still_fixed p r late.0, still_out a p r below late.0 late.1)

  with_level : (p r : ℕ) → progress_own (own_of fields i) p r ≡ Scanned → ShowsAtMost spec (fields.mind i).snapshot p r ⊎ IsFixed spec.simulators (phases_in fields p r)
      → ShowsAtMost spec (fields.mind i).snapshot p r ⊎ (IsFixed spec.simulators (phases_in fields p r) × (fields.level i p r ≢ 2))
  with_level p r is (inl most) = inl most
  with_level p r is (inr fixed) = inr (fixed, scanned_level spec fields i p r tracks is)

  -- the snapshot is of a moment
  scanned_most : (p r : ℕ) → progress_own (own_of fields i) p r ≡ Scanned → p < processes spec → 1 ≤ r → IsMoment spec done i p r (fields.mind i).snapshot → ShowsAtMost spec (fields.mind i).snapshot p r ⊎ IsFixed spec.simulators (phases_in fields p r)
  scanned_most p r is below first moment = elim (exact.moments moment.time p r moment.early first) [
    | inl most ↦ inl (λ a less. let e = moment.same a p less below in let b = most a less in omega (arith, e, b))
    | inr fixed ↦ inr fixed
  ]

  -- and so is the proposal, in range
  as_view : (p r : ℕ) → after.view i p r ≡ with_shown spec (fields.view i p r) (fields.mind i) → IsLastWord spec (own_of fields i) → p ≡ (fields.mind i).process → r ≡ current_round (fields.mind i) → (fields.mind i).line ≡ Show → p < processes spec
      → ShowsAtMost spec (fields.mind i).snapshot p r ⊎ (IsFixed spec.simulators (phases_in after p r) × (after.level i p r ≢ 2)) → ShowsAtMost spec (after.view i p r) p r ⊎ (IsFixed spec.simulators (phases_in after p r) × (after.level i p r ≢ 2))
  as_view p r is last e e' stands below (inl most) = inl (λ a less. let same = view_same spec limits done event fields after i tracks leads' effect history p r is last e e' stands a p less below in let b = most a less in omega (arith, same, b))
  as_view p r is last e e' stands below (inr late) = inr late

  by_shown : (p r : ℕ) → 1 ≤ r → (HasShown (progress_own (own_of fields i) p r) × (after.view i p r ≡ fields.view i p r)) ⊎ ((progress_own (own_of fields i) p r ≡ Scanned) × (after.view i p r ≡ with_shown spec (fields.view i p r) (fields.mind i)) × IsLastWord spec (own_of fields i) × (p ≡ (fields.mind i).process) × (r ≡ current_round (fields.mind i)) × ((fields.mind i).line ≡ Show) × (p < processes spec))
      → ShowsAtMost spec (after.view i p r) p r ⊎ (IsFixed spec.simulators (phases_in after p r) × (after.level i p r ≢ 2))
  by_shown p r first (inl kept) =
      subst (λ (view : StepMap). ShowsAtMost spec view p r ⊎ (IsFixed spec.simulators (phases_in after p r) × (after.level i p r ≢ 2))) (sym kept.1) (pass_on i p r (fields.view i p r) effect.below (exact.shown i p r effect.below first kept.0))
  by_shown p r first (inr new) =
      as_view p r new.1 new.2 new.3 new.4 new.5 new.6 (pass_on i p r (fields.mind i).snapshot effect.below (with_level p r new.0 (scanned_most p r new.0 new.6 first (history.scanned i p r effect.below first new.0))))

  fixed_after : (p r : ℕ) (map : StepMap) → ShowsAtMost spec map p r ⊎ IsFixed spec.simulators (phases_in fields p r) → ShowsAtMost spec map p r ⊎ IsFixed spec.simulators (phases_in after p r)
  fixed_after p r map (inl most) = inl most
  fixed_after p r map (inr fixed) = inr (still_fixed p r fixed)

  exact_line : IsExact spec (done ++ event ∷ []) after
  exact_line = record {
    shown = λ a p r below first shown. dite (ℕ_discrete a i)
        (λ (e : a ≡ i).
        subst (λ (b : ℕ). ShowsAtMost spec (after.view b p r) p r ⊎ (IsFixed spec.simulators (phases_in after p r) × (after.level b p r ≢ 2))) (sym e)
        (by_shown p r first (own_shown spec fields (own_of fields i) p r (own_of after i) effect.own (subst (λ (b : ℕ). HasShown (progress_own (own_of after b) p r)) e shown))))
        (λ (n : a ≢ i).
        let same = effect.others a n in
        subst (λ (view : StepMap). ShowsAtMost spec view p r ⊎ (IsFixed spec.simulators (phases_in after p r) × (after.level a p r ≢ 2))) (sym (ap (λ (own : Own). own.view p r) same))
        (pass_on a p r (fields.view a p r) below (exact.shown a p r below first (subst (λ (own : Own). HasShown (progress_own own p r)) same shown))));
    moments = λ time p r early first. by_time time p r early first (cases_lt (length done) time);
  }
    where
      by_time : (time p r : ℕ) → time ≤ length (done ++ event ∷ []) → 1 ≤ r → (length done < time) ⊎ (time ≤ length done) → ShowsAtMost spec (fields_at spec (done ++ event ∷ []) time).step p r ⊎ IsFixed spec.simulators (phases_in after p r)
      by_time time p r early first (inl late) =
          subst (λ (f : Fields). ShowsAtMost spec f.step p r ⊎ IsFixed spec.simulators (phases_in after p r)) (sym (at_end spec (done ++ event ∷ []) time (let long = length-snoc done event in omega (arith, long, late)) ∙ leads'))
          (most_or_fixed spec after (let b = effect.below in omega arith) tracks' sound' p r first)
      by_time time p r early first (inr before) =
          subst (λ (f : Fields). ShowsAtMost spec f.step p r ⊎ IsFixed spec.simulators (phases_in after p r)) (sym (at_before spec done event time before))
          (fixed_after p r (fields_at spec done time).step (exact.moments time p r before first))

exact_crash : (spec : RoomSpec) (done : List ScheduleEvent) (fields : Fields) (i : ℕ) → IsHistory spec done fields → IsExact spec done fields → IsExact spec (done ++ crashes i ∷ []) (with_crash fields i)
exact_crash spec done fields i history exact = record {
  shown = exact.shown;
  moments = λ time p r early first. by_time time p r early first (cases_lt (length done) time);
}
  where
    leads' : replay_fields spec (opening_fields spec) (done ++ crashes i ∷ []) ≡ with_crash fields i
    leads' = replay_fields-snoc spec (opening_fields spec) done (crashes i) ∙ ap (λ (f : Fields). with_crash f i) history.leads

    by_time : (time p r : ℕ) → time ≤ length (done ++ crashes i ∷ []) → 1 ≤ r → (length done < time) ⊎ (time ≤ length done) → ShowsAtMost spec (fields_at spec (done ++ crashes i ∷ []) time).step p r ⊎ IsFixed spec.simulators (phases_in fields p r)
    by_time time p r early first (inl late) =
        subst (λ (f : Fields). ShowsAtMost spec f.step p r ⊎ IsFixed spec.simulators (phases_in fields p r)) (sym (at_end spec (done ++ crashes i ∷ []) time (let long = length-snoc done (crashes i) in omega (arith, long, late)) ∙ leads'))
        (subst (λ (f : Fields). ShowsAtMost spec f.step p r ⊎ IsFixed spec.simulators (phases_in fields p r)) (at_end spec done (length done) (omega arith) ∙ history.leads) (exact.moments (length done) p r (omega arith) first))
    by_time time p r early first (inr before) =
        subst (λ (f : Fields). ShowsAtMost spec f.step p r ⊎ IsFixed spec.simulators (phases_in fields p r)) (sym (at_before spec done (crashes i) time before)) (exact.moments time p r before first)

abbrev pub ExactAfter : RoomSpec → List ScheduleEvent → Fields → Type 0
ExactAfter spec schedule fields = IsHistory spec schedule fields × IsSound spec fields × IsExact spec schedule fields

exact_kept : (room : Configuration) (fields : Fields) (done : List ScheduleEvent) (event : ScheduleEvent) → IsShaped room → MayHappen room event → StandsFor room fields → ExactAfter room.spec done fields → ExactAfter room.spec (done ++ event ∷ []) (fields_after room.spec fields event)
exact_kept room fields done (steps i) shape may for both =
    let sound' = sound_kept room fields done (steps i) shape may for both.1 in
    let leads' = replay_fields-snoc room.spec (opening_fields room.spec) done (steps i) ∙ ap (λ (f : Fields). line room.spec f i) (both.0).leads in (
      history_kept room fields done (steps i) shape may for both.0,
      sound',
      exact_line room.spec shape.limits done (steps i) fields (line room.spec fields i) i for.tracks (event_stands room fields (steps i) shape may for).tracks leads' (line_effect room fields i shape for may) both.0 both.1 sound' both.2,
    )
exact_kept room fields done (crashes i) shape may for both = (history_kept room fields done (crashes i) shape may for both.0, sound_kept room fields done (crashes i) shape may for both.1, exact_crash room.spec done fields i both.0 both.2)

opening_exact : (spec : RoomSpec) → IsExact spec [] (opening_fields spec)
opening_exact spec = record {
  shown = λ i p r below first shown. absurd (subst HasShown (later 0 r _ Past (omega arith)) shown);
  moments = λ time p r early first. inl (λ a below. let e : (fields_at spec [] time).step a p ≡ 0 = ap (λ (f : Fields). f.step a p) (at_end spec [] time (omega arith)) in omega (arith, e));
}

pub exact_run : (room : Configuration) → IsWithinLimits room.spec → (one : IsOneInterleaving room) → IsExact room.spec one.schedule (replay_fields room.spec (opening_fields room.spec) one.schedule)
exact_run room limits one = (over_run ExactAfter exact_kept room limits one (opening_history room.spec, opening_sound room.spec, opening_exact room.spec)).2

-- ---- what that gives

-- A proposal that stands shows of its own process as many writes as the agreement's round.
pub own_entry : (spec : RoomSpec) (schedule : List ScheduleEvent) (fields : Fields) → KeepsTrack spec fields → IsHistory spec schedule fields → IsExact spec schedule fields → (i j k : ℕ) → i < spec.simulators → 1 ≤ k → fields.level i j k ≡ 2 → entry_of_steps spec (fields.view i j k) j ≡ k
own_entry spec schedule fields tracks history exact i j k below first two = by_exact (exact.shown i j k below first shown)
  where
    shown : HasShown (progress_own (own_of fields i) j k)
    shown = at_two spec fields i j k tracks two

    by_exact : ShowsAtMost spec (fields.view i j k) j k ⊎ (IsFixed spec.simulators (phases_in fields j k) × (fields.level i j k ≢ 2)) → entry_of_steps spec (fields.view i j k) j ≡ k
    by_exact (inl most) =
        let own = (history.shown i j k below first shown).own in
        let up = merged_below spec.simulators (fields.view i j k) j k most in
        let least = merged_at spec.simulators (fields.view i j k) i j below in
        omega (arith, own, up, least)
    by_exact (inr late) = absurd (late.1 two)

-- Any two proposals that stand show rows of which one is at most the other.
pub rows_compare : (spec : RoomSpec) (schedule : List ScheduleEvent) (fields : Fields) → KeepsTrack spec fields → IsHistory spec schedule fields → (i j k i' j' k' : ℕ) → i < spec.simulators → i' < spec.simulators → 1 ≤ k → 1 ≤ k' → fields.level i j k ≡ 2 → fields.level i' j' k' ≡ 2
    → IsRowAtMost (row_of spec.simulators (processes spec) (fields.view i j k)) (row_of spec.simulators (processes spec) (fields.view i' j' k')) ⊎ IsRowAtMost (row_of spec.simulators (processes spec) (fields.view i' j' k')) (row_of spec.simulators (processes spec) (fields.view i j k))
rows_compare spec schedule fields tracks history i j k i' j' k' below below' first first' two two' =
    elim (moments_compare spec schedule i j k i' j' k' (fields.view i j k) (fields.view i' j' k') history.grows (history.shown i j k below first (at_two spec fields i j k tracks two)) (history.shown i' j' k' below' first' (at_two spec fields i' j' k' tracks two'))) [
      | inl most ↦ inl (row_grows spec.simulators (processes spec) (fields.view i j k) (fields.view i' j' k') most)
      | inr most ↦ inr (row_grows spec.simulators (processes spec) (fields.view i' j' k') (fields.view i j k) most)
    ]

-- ---- of every room with these fields

module _ (room : RoomState) (fields : Fields) (limits : IsWithinLimits room.spec) (are : AreFieldsOf room fields) where
  of_base : (P : Fields → Type 0) → P (with_quiet (replay_fields room.spec (opening_fields room.spec) are.run.schedule) fields.quiet) → P fields
  of_base P is = subst P (sym (leads_of room fields are)) is

  pub room_scans : (i : ℕ) → i < room.spec.simulators → (fields.mind i).line ≡ Show → IsScan room.spec are.run.schedule (length are.run.schedule) i (fields.mind i).process (current_round (fields.mind i)) (fields.mind i).before (fields.mind i).snapshot (fields.mind i).collects
  room_scans =
      of_base (λ (f : Fields). (i : ℕ) → i < room.spec.simulators → (f.mind i).line ≡ Show → IsScan room.spec are.run.schedule (length are.run.schedule) i (f.mind i).process (current_round (f.mind i)) (f.mind i).before (f.mind i).snapshot (f.mind i).collects)
      (let history = history_run (configuration_of room) limits are.run in history.scans)

  pub room_entry : (i j k : ℕ) → i < room.spec.simulators → 1 ≤ k → fields.level i j k ≡ 2 → entry_of_steps room.spec (fields.view i j k) j ≡ k
  room_entry =
      of_base (λ (f : Fields). (i j k : ℕ) → i < room.spec.simulators → 1 ≤ k → f.level i j k ≡ 2 → entry_of_steps room.spec (f.view i j k) j ≡ k)
      (own_entry room.spec are.run.schedule (replay_fields room.spec (opening_fields room.spec) are.run.schedule) (stands_for (configuration_of room) limits are.run).tracks (history_run (configuration_of room) limits are.run) (exact_run (configuration_of room) limits are.run))

  pub room_rows : (i j k i' j' k' : ℕ) → i < room.spec.simulators → i' < room.spec.simulators → 1 ≤ k → 1 ≤ k' → fields.level i j k ≡ 2 → fields.level i' j' k' ≡ 2
      → IsRowAtMost (row_of room.spec.simulators (processes room.spec) (fields.view i j k)) (row_of room.spec.simulators (processes room.spec) (fields.view i' j' k')) ⊎ IsRowAtMost (row_of room.spec.simulators (processes room.spec) (fields.view i' j' k')) (row_of room.spec.simulators (processes room.spec) (fields.view i j k))
  room_rows =
      of_base (λ (f : Fields). (i j k i' j' k' : ℕ) → i < room.spec.simulators → i' < room.spec.simulators → 1 ≤ k → 1 ≤ k' → f.level i j k ≡ 2 → f.level i' j' k' ≡ 2
      → IsRowAtMost (row_of room.spec.simulators (processes room.spec) (f.view i j k)) (row_of room.spec.simulators (processes room.spec) (f.view i' j' k')) ⊎ IsRowAtMost (row_of room.spec.simulators (processes room.spec) (f.view i' j' k')) (row_of room.spec.simulators (processes room.spec) (f.view i j k)))
      (rows_compare room.spec are.run.schedule (replay_fields room.spec (opening_fields room.spec) are.run.schedule) (stands_for (configuration_of room) limits are.run).tracks (history_run (configuration_of room) limits are.run))

  pub room_moments : (i j k : ℕ) → i < room.spec.simulators → 1 ≤ k → fields.level i j k ≡ 2 → IsMoment room.spec are.run.schedule i j k (fields.view i j k)
  room_moments =
      of_base (λ (f : Fields). (i j k : ℕ) → i < room.spec.simulators → 1 ≤ k → f.level i j k ≡ 2 → IsMoment room.spec are.run.schedule i j k (f.view i j k))
      (λ i j k below first two.
      (history_run (configuration_of room) limits are.run).shown i j k below first (at_two room.spec (replay_fields room.spec (opening_fields room.spec) are.run.schedule) i j k (stands_for (configuration_of room) limits are.run).tracks two))
