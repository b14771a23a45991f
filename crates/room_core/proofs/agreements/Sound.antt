-- What the agreements of a room keep over every event: whoever has left one has a 2 beside it, and each that a simulator has found
-- resolved is fixed. A simulator that has stored a decision has nothing more to do for the process.
use Rattle.std.proofs.Common.{◌≡◌, ◌≢◌, ◌⊎◌, ℕ, ◌<◌, ◌≤◌, ◌%◌, zero, suc, eqb, map, min, Bool, true, false, cond, ◌&&◌, ◌||◌, List, [], ◌∷◌, length, get_or, set, replicate, slice_index, Some, inl, inr, refl, sym, ap, ◌∙◌, subst, arith}
use Rattle.std.proofs.lemmas.Bool.{and_parts, eq-eqb, eqb-true}
use Rattle.std.proofs.lemmas.List.{get_or-set_same, get_or-set_other, get_or-replicate}
use Rattle.protocol_lang.specs.Numbers.{greatest}
use mathlib.Core.Logic.{dite}
use native.Mathlib.Decide.{ℕ_discrete}
use Rattle.room_spec.specs.Rooms.{RoomSpec, IsWithinLimits, is_reduction, processes}
use Rattle.safe_agreement.specs.Levels.{IsResolved}
use Rattle.safe_agreement.specs.Phases.{Phase, Before, before_all, IsFixed, HasTwoBeside, HaveSameTwos}
use Rattle.safe_agreement.proofs.CallerLemmas.{resolved_to, is_resolved_by, stays_fixed, keeps_twos, same_fixed, same_beside, stays_beside, beside_before, resolved_is_fixed, same_of_same}
use Rattle.std.specs.List.{range_with_len}
use Rattle.simulator.specs.declared.goal.Goal.{Goal}
use Rattle.simulator.specs.declared.goal.Goal.TheVariants as goals
use Rattle.simulator.specs.Minds.{MindOf, current_goal, current_round, goal_at, first_goal, first_goals, first_write, has_input, opening_goals, round_of}
use Rattle.simulator.specs.Turns.{after_write, asks_in, gets_in}
use Rattle.room_core.specs.Rooms.{Configuration, ScheduleEvent, steps, crashes, MayHappen, IsShaped, IsOneInterleaving}
use Rattle.room_core.specs.Calls.{RoomState, configuration_of}
use Rattle.room_core.specs.Reading.{AreFieldsOf}
use Rattle.room_core.proofs.fields.Prefixes.{over_run}
use Rattle.room_core.specs.Fields.{Fields, StepMap, levels_at, chosen_at, line, with_crash, fields_after, opening_fields, replay_fields}
use Rattle.room_core.specs.Tracks.{KeepsTrack, StandsFor}
use Rattle.room_core.proofs.agreements.Stages.{Progress, Past, phase_of, phase_by, has_to_propose, is_proposal, is_unproposed, later, phases_in, levels_are_phases}
use Rattle.room_core.proofs.fields.Tracks.{rest_stage_for}
use Rattle.room_core.proofs.fields.Effects.{Own, own_of, process_on, is_getting, Effect, IsLineOf, line_effect, stores, proposes, raises, collects_word, collects_again, scans, shows_word, shows, loads_word, enters, looks, leaves, asks_in_vain, finds, gets_input, gathers, goes_to, will_decide, decides}
use Rattle.room_core.proofs.agreements.PhaseSteps.{Advance, stays, steps_on, advances}
use Rattle.room_core.proofs.agreements.Deciding.{HasDecided, own_outs}
use Rattle.room_core.proofs.agreements.OwnDecisions.{HasStoredOwn, own_stored_kept}
use Rattle.room_core.proofs.agreements.Resolving.{resolved_by, resolved_own, IsFound, own_resolves}
use Rattle.room_core.proofs.fields.FieldCalls.{leads_of, with_quiet}

-- ---- one agreement

pub fixed_on : (m : ℕ) (before after : ℕ → Phase) → Advance m before after → IsFixed m before → IsFixed m after
fixed_on m before after (stays same) fixed = same_fixed m before after same fixed
fixed_on m before after (steps_on change step) fixed = stays_fixed m before change after step fixed

pub twos_on : (m : ℕ) (before after : ℕ → Phase) → Advance m before after → IsFixed m before → HaveSameTwos m before after
twos_on m before after (stays same) fixed = same_of_same m before after same
twos_on m before after (steps_on change step) fixed = keeps_twos m before change after step fixed

beside_on : (m : ℕ) (before after : ℕ → Phase) → Advance m before after → HasTwoBeside m before → HasTwoBeside m after
beside_on m before after (stays same) beside = same_beside m before after same beside
beside_on m before after (steps_on change step) beside = stays_beside m before change after step beside

-- an agreement with a choice is fixed
pub chosen_is_fixed : (spec : RoomSpec) (fields : Fields) (p r chosen : ℕ) → KeepsTrack spec fields → chosen_at spec fields p r ≡ Some chosen → IsFixed spec.simulators (phases_in fields p r)
chosen_is_fixed spec fields p r chosen tracks is =
    resolved_is_fixed spec.simulators (phases_in fields p r)
    (subst IsResolved (levels_are_phases spec fields tracks p r) (is_resolved_by (levels_at spec fields p r) chosen (resolved_to (levels_at spec fields p r) chosen is)))

-- ---- what is kept

-- the simulators agree on something of process p in round r: on a snapshot, or in the round 0 of a reduction on its input
abbrev pub IsAgreed : RoomSpec → ℕ → ℕ → Type 0
IsAgreed spec p r = (1 ≤ r) ⊎ ((is_reduction spec ≡ true) × (p < processes spec))

-- a simulator has the input of a process, or has found the agreement on it resolved and gets it
abbrev pub has_found_input : Own → ℕ → Bool
has_found_input own p = has_input (goal_at own.mind.goals p) || (is_getting own.mind.line && eqb p own.mind.process)

pub record IsSound (spec : RoomSpec) (fields : Fields) : Type 0 where
  pub beside : (p r : ℕ) → IsAgreed spec p r → HasTwoBeside spec.simulators (phases_in fields p r)
  pub resolved : (i p r : ℕ) → i < spec.simulators → 1 ≤ r → r ≤ resolved_own (own_of fields i) p → IsFixed spec.simulators (phases_in fields p r)
  pub inputs : (i p : ℕ) → i < spec.simulators → p < processes spec → is_reduction spec ≡ true → has_found_input (own_of fields i) p ≡ true → IsFixed spec.simulators (phases_in fields p 0)
  pub outs : (i p : ℕ) → HasDecided (own_of fields i) p
  pub own : (i : ℕ) → HasStoredOwn spec (own_of fields i)

-- ---- who has found an input

or_is : (a b : Bool) → (a || b) ≡ true → (a ≡ true) ⊎ (b ≡ true)
or_is true b is = inl refl
or_is false b is = inr is

pub or_first : (a b : Bool) → a ≡ true → (a || b) ≡ true
or_first true b is = refl
or_first false b is = absurd cc

or_second : (a b : Bool) → b ≡ true → (a || b) ≡ true
or_second true b is = refl
or_second false b is = is

and_is : (a b : Bool) → a ≡ true → b ≡ true → (a && b) ≡ true
and_is true b is is' = is'
and_is false b is is' = absurd cc

pub later_has : (goal : Goal) → 1 ≤ round_of goal → has_input goal ≡ true
later_has (goals.Write round value) first = refl
later_has (goals.Ask round) first = refl
later_has (goals.Propose value) first = absurd (omega (arith, first))
later_has goals.AskInput first = absurd (omega (arith, first))
later_has goals.Done first = refl
later_has goals.Spent first = refl

pub asks_has : (round : ℕ) → has_input (asks_in round) ≡ true → 1 ≤ round
asks_has zero has = absurd cc
asks_has (suc round) has = omega arith

gets_is : (round chosen : ℕ) → is_getting (gets_in round chosen) ≡ true → round ≡ 0
gets_is zero chosen is = refl
gets_is (suc round) chosen is = absurd cc

module _ (spec : RoomSpec) (fields : Fields) (own : Own) (p : ℕ) where
  abbrev HasFound : Own → Type 0
  HasFound after = (has_found_input own p ≡ true) ⊎ ((chosen : ℕ) × (chosen_at spec fields p 0 ≡ Some chosen))

  had : has_input (goal_at own.mind.goals p) ≡ true → has_found_input own p ≡ true
  had has = or_first (has_input (goal_at own.mind.goals p)) (is_getting own.mind.line && eqb p own.mind.process) has

  -- the goals are as they were, and no input is about to be got
  goes_found : (mind : MindOf StepMap) → mind.goals ≡ own.mind.goals → is_getting mind.line ≡ false → (has_input (goal_at mind.goals p) || (is_getting mind.line && eqb p mind.process)) ≡ true → has_found_input own p ≡ true
  goes_found mind same ungot has =
      let is = or_is (has_input (goal_at mind.goals p)) (is_getting mind.line && eqb p mind.process) has in
      elim is [
        | inl goal ↦ had (ap (λ (l : List Goal). has_input (goal_at l p)) (sym same) ∙ goal)
        | inr gets ↦ let e : (is_getting mind.line && eqb p mind.process) ≡ false = ap (λ (b : Bool). b && eqb p mind.process) ungot in let e' : true ≡ false = sym gets ∙ e in absurd cc
      ]

  -- the goal of a process has changed
  ends_found : (goal : Goal) (before after : List Goal) (j : ℕ) → j < length before → before ≡ own.mind.goals → after ≡ set before j goal → (p ≡ j → has_input goal ≡ true → has_found_input own p ≡ true) → (has_input (goal_at after p) || false) ≡ true → has_found_input own p ≡ true
  ends_found goal before after j below same new own_has has =
      let is : has_input (goal_at (set before j goal) p) ≡ true = elim (or_is (has_input (goal_at after p)) false has) [ inl it ↦ ap (λ (l : List Goal). has_input (goal_at l p)) (sym new) ∙ it | inr it ↦ absurd cc ] in
      dite (ℕ_discrete p j)
      (λ (e : p ≡ j). own_has e (sym (ap has_input (ap (λ (q : ℕ). get_or (set before j goal) q goals.Done) e ∙ get_or-set_same before j goal goals.Done below)) ∙ is))
      (λ (n : p ≢ j). had (ap (λ (l : List Goal). has_input (goal_at l p)) (sym same) ∙ sym (ap has_input (get_or-set_other before j p goal goals.Done n)) ∙ is))

  turn_found : 1 ≤ current_round own.mind → p ≡ own.mind.process → has_found_input own p ≡ true
  turn_found first e = had (ap (λ (q : ℕ). has_input (goal_at own.mind.goals q)) e ∙ later_has (current_goal own.mind) first)

  own_finds_input : (after : Own) → Effect spec fields own after → has_found_input after p ≡ true → (has_found_input own p ≡ true) ⊎ ((chosen : ℕ) × (chosen_at spec fields p 0 ≡ Some chosen))
  own_finds_input after (stores j k value rest goal count process first last) has = inl (goes_found after.mind refl refl has)
  own_finds_input after (proposes j value rest goal none unentered within kind) has = inl (goes_found after.mind refl refl has)
  own_finds_input after (raises turn whole begun count) has = inl (goes_found after.mind refl refl has)
  own_finds_input after (collects_word turn count none more) has = inl (goes_found after.mind refl refl has)
  own_finds_input after (collects_again turn count none last several goes) has = inl (goes_found after.mind refl refl has)
  own_finds_input after (scans collects turn count none last ends) has = inl (goes_found after.mind refl refl has)
  own_finds_input after (gets_input chosen turn count less) has =
      inl (ends_found (first_write spec (min (fields.value chosen (process_on own) 0) greatest) (process_on own)) own.mind.goals after.mind.goals (process_on own) (let l = turn.long in let b = turn.process in omega arith) refl refl
      (λ e _. or_second (has_input (goal_at own.mind.goals p)) (is_getting own.mind.line && eqb p own.mind.process) (and_is (is_getting own.mind.line) (eqb p own.mind.process) (ap is_getting turn.stands) (eq-eqb p own.mind.process e))) has)
  own_finds_input after (loads_word found turn less more) has = inl (goes_found after.mind refl refl has)
  own_finds_input after (shows_word turn count none more) has = inl (goes_found after.mind refl refl has)
  own_finds_input after (shows turn count none last) has = inl (goes_found after.mind refl refl has)
  own_finds_input after (enters turn count none) has = inl (goes_found after.mind refl refl has)
  own_finds_input after (looks turn count one) has = inl (goes_found after.mind refl refl has)
  own_finds_input after (leaves saw_two turn count one) has = inl (goes_found after.mind refl refl has)
  own_finds_input after (asks_in_vain asking asks is) has =
      inl (ends_found (asks_in (current_round asking)) asking.goals after.mind.goals asking.process (let l = asks.long in let b = asks.process in omega arith) asks.goals refl
      (λ e it. had (ap (λ (l : List Goal). has_input (goal_at l p)) (sym asks.goals) ∙ ap (λ (q : ℕ). has_input (goal_at asking.goals q)) e ∙ later_has (current_goal asking) (asks_has (current_round asking) it))) has)
  own_finds_input after (finds asking chosen asks is) has =
      elim (or_is (has_input (goal_at asking.goals p)) (is_getting (gets_in (current_round asking) chosen) && eqb p asking.process) has) [
        | inl goal ↦ inl (had (ap (λ (l : List Goal). has_input (goal_at l p)) (sym asks.goals) ∙ goal))
        | inr gets ↦
            let parts = and_parts (is_getting (gets_in (current_round asking) chosen)) (eqb p asking.process) gets in
            let same : p ≡ asking.process = eqb-true p asking.process parts.1 in
            let round : current_round asking ≡ 0 = gets_is (current_round asking) chosen parts.0 in
            inr (chosen, ap (λ (q : ℕ). chosen_at spec fields q 0) same ∙ ap (λ (k : ℕ). chosen_at spec fields asking.process k) (sym round) ∙ is)
      ]
  own_finds_input after (gathers reading reads more) has = inl (goes_found after.mind reads.goals refl has)
  own_finds_input after (goes_to reading value reads all is) has =
      inl (ends_found (after_write spec.rounds (current_round reading) value) reading.goals after.mind.goals reading.process (let l = ap length reads.goals in let l' = reads.long in let b = reads.process in let s = reads.same in omega arith) reads.goals refl
      (λ e _. turn_found reads.first (e ∙ reads.same)) has)
  own_finds_input after (will_decide reading decision reads all is) has = inl (goes_found after.mind reads.goals refl has)
  own_finds_input after (decides decision turn count) has =
      inl (ends_found goals.Done own.mind.goals after.mind.goals own.mind.process (let l = turn.long in let b = turn.process in omega arith) refl refl (λ e _. turn_found turn.first e) has)

-- one line of simulator i
module _ (spec : RoomSpec) (fields after : Fields) (i : ℕ) (tracks : KeepsTrack spec fields) (effect : IsLineOf spec fields after i) (sound : IsSound spec fields) where
  still_fixed : (p r : ℕ) → IsFixed spec.simulators (phases_in fields p r) → IsFixed spec.simulators (phases_in after p r)
  still_fixed p r fixed = fixed_on spec.simulators (phases_in fields p r) (phases_in after p r) (advances spec fields after i tracks effect p r) fixed

  found_by : (p r : ℕ) → 1 ≤ r → r ≤ resolved_own (own_of after i) p → (resolved_own (own_of after i) p ≡ resolved_own (own_of fields i) p) ⊎ IsFound spec fields p (resolved_own (own_of fields i) p) (resolved_own (own_of after i) p) → IsFixed spec.simulators (phases_in fields p r)
  found_by p r first last (inl same) = sound.resolved i p r effect.below first (omega arith)
  found_by p r first last (inr found) = dite (ℕ_discrete r (resolved_own (own_of after i) p))
      (λ (e : r ≡ resolved_own (own_of after i) p). chosen_is_fixed spec fields p r found.chosen tracks (ap (λ (k : ℕ). chosen_at spec fields p k) e ∙ found.is))
      (λ (n : r ≢ resolved_own (own_of after i) p). sound.resolved i p r effect.below first (let next = found.next in omega arith))

  found_input_by : (p : ℕ) → p < processes spec → is_reduction spec ≡ true → has_found_input (own_of after i) p ≡ true → (has_found_input (own_of fields i) p ≡ true) ⊎ ((chosen : ℕ) × (chosen_at spec fields p 0 ≡ Some chosen)) → IsFixed spec.simulators (phases_in fields p 0)
  found_input_by p below kind has (inl had) = sound.inputs i p effect.below below kind had
  found_input_by p below kind has (inr found) = chosen_is_fixed spec fields p 0 found.0 tracks found.1

  sound_line : IsSound spec after
  sound_line = record {
    beside = λ p r first. beside_on spec.simulators (phases_in fields p r) (phases_in after p r) (advances spec fields after i tracks effect p r) (sound.beside p r first);
    resolved = λ a p r below first last. still_fixed p r (dite (ℕ_discrete a i)
        (λ (e : a ≡ i). found_by p r first (subst (λ (b : ℕ). r ≤ resolved_own (own_of after b) p) e last) (own_resolves spec fields (own_of fields i) p (own_of after i) effect.own))
        (λ (n : a ≢ i). sound.resolved a p r below first (subst (λ (own : Own). r ≤ resolved_own own p) (effect.others a n) last)));
    inputs = λ a p below within kind has. still_fixed p 0 (dite (ℕ_discrete a i)
        (λ (e : a ≡ i).
        let has' : has_found_input (own_of after i) p ≡ true = subst (λ (b : ℕ). has_found_input (own_of after b) p ≡ true) e has in
        found_input_by p within kind has' (own_finds_input spec fields (own_of fields i) p (own_of after i) effect.own has'))
        (λ (n : a ≢ i). sound.inputs a p below within kind (subst (λ (own : Own). has_found_input own p ≡ true) (effect.others a n) has)));
    outs = λ a p. dite (ℕ_discrete a i)
        (λ (e : a ≡ i). subst (λ (b : ℕ). HasDecided (own_of after b) p) (sym e) (own_outs spec fields (own_of fields i) p (own_of after i) effect.own (sound.outs i p)))
        (λ (n : a ≢ i). subst (λ (own : Own). HasDecided own p) (sym (effect.others a n)) (sound.outs a p));
    own = λ a. dite (ℕ_discrete a i)
        (λ (e : a ≡ i). subst (λ (b : ℕ). HasStoredOwn spec (own_of after b)) (sym e) (own_stored_kept spec fields (own_of fields i) (own_of after i) effect.own (sound.outs i) (sound.own i)))
        (λ (n : a ≢ i). subst (HasStoredOwn spec) (sym (effect.others a n)) (sound.own a));
  }

-- a crash changes no mind and no row
sound_crash : (spec : RoomSpec) (fields : Fields) (i : ℕ) → IsSound spec fields → IsSound spec (with_crash fields i)
sound_crash spec fields i sound = record { beside = sound.beside; resolved = sound.resolved; inputs = sound.inputs; outs = sound.outs; own = sound.own }

abbrev pub SoundAfter : RoomSpec → List ScheduleEvent → Fields → Type 0
SoundAfter spec schedule fields = IsSound spec fields

pub sound_kept : (room : Configuration) (fields : Fields) (done : List ScheduleEvent) (event : ScheduleEvent) → IsShaped room → MayHappen room event → StandsFor room fields → IsSound room.spec fields → IsSound room.spec (fields_after room.spec fields event)
sound_kept room fields done (steps i) shape may for sound = sound_line room.spec fields (line room.spec fields i) i for.tracks (line_effect room fields i shape for may) sound
sound_kept room fields done (crashes i) shape may for sound = sound_crash room.spec fields i sound

-- ---- the opening

none_resolved : (spec : RoomSpec) (numbers : List ℕ) (p : ℕ) → resolved_by (goal_at (map (first_goal spec) numbers) p) false 0 ≡ 0
none_resolved spec [] p = refl
none_resolved spec (q ∷ numbers) zero = omega arith
none_resolved spec (q ∷ numbers) (suc p) = none_resolved spec numbers p

none_proposed : (value n p : ℕ) → resolved_by (goal_at (replicate n (goals.Propose value)) p) false 0 ≡ 0
none_proposed value zero p = refl
none_proposed value (suc n) zero = refl
none_proposed value (suc n) (suc p) = none_proposed value n p

opening_resolved : (spec : RoomSpec) (b : Bool) (value p : ℕ) → resolved_by (goal_at (cond b (replicate (processes spec) (goals.Propose value)) (first_goals spec)) p) false 0 ≡ 0
opening_resolved spec true value p = none_proposed value (processes spec) p
opening_resolved spec false value p = none_resolved spec (range_with_len 0 (processes spec)) p

-- in a reduction each process has an input to be proposed
pub opening_goal : (spec : RoomSpec) (i p : ℕ) → is_reduction spec ≡ true → p < processes spec → goal_at (opening_goals spec i) p ≡ goals.Propose (slice_index spec.own i)
opening_goal spec i p kind below =
    ap (λ (b : Bool). goal_at (cond b (replicate (processes spec) (goals.Propose (slice_index spec.own i))) (first_goals spec)) p) kind
    ∙ get_or-replicate (processes spec) p (goals.Propose (slice_index spec.own i)) goals.Done below

opening_phase : (spec : RoomSpec) (a p r : ℕ) → IsAgreed spec p r → phases_in (opening_fields spec) p r a ≡ Before
opening_phase spec a p r (inl first) =
    by_bool (has_to_propose ((opening_fields spec).mind a) p)
  where
    by_bool : (b : Bool) → cond b Before (phase_by 0 r (eqb p (a % processes spec)) Past 0) ≡ Before
    by_bool true = refl
    by_bool false = ap (λ (q : Progress). phase_of q 0) (later 0 r (eqb p (a % processes spec)) Past (omega (arith, first)))
opening_phase spec a p r (inr both) =
    ap (λ (b : Bool). cond b Before (phase_by 0 r (eqb p (a % processes spec)) Past 0))
    (ap (is_unproposed (goal_at (opening_goals spec a) p)) (rest_stage_for ((opening_fields spec).mind a) p refl) ∙ ap is_proposal (opening_goal spec a p both.0 both.1))

no_input_found : (spec : RoomSpec) (i p : ℕ) → is_reduction spec ≡ true → p < processes spec → has_found_input (own_of (opening_fields spec) i) p ≡ true → ⊥
no_input_found spec i p kind below has =
    let none : has_found_input (own_of (opening_fields spec) i) p ≡ false = ap (λ (goal : Goal). has_input goal || false) (opening_goal spec i p kind below) in
    let e : true ≡ false = sym has ∙ none in
    absurd cc

pub opening_sound : (spec : RoomSpec) → IsSound spec (opening_fields spec)
opening_sound spec = record {
  beside = λ p r agreed. same_beside spec.simulators before_all (phases_in (opening_fields spec) p r) (λ a below. opening_phase spec a p r agreed) (beside_before spec.simulators);
  resolved = λ i p r below first last. let none = opening_resolved spec (is_reduction spec) (slice_index spec.own i) p in absurd (omega arith);
  inputs = λ i p below within kind has. absurd (no_input_found spec i p kind within has);
  outs = λ i p out. absurd (out refl);
  own = λ i decision is. absurd cc;
}

-- ---- every room that is one interleaving

pub sound_run : (room : Configuration) → IsWithinLimits room.spec → (one : IsOneInterleaving room) → IsSound room.spec (replay_fields room.spec (opening_fields room.spec) one.schedule)
sound_run room limits one = over_run SoundAfter sound_kept room limits one (opening_sound room.spec)

sound_counts : (spec : RoomSpec) (fields : Fields) (quiet : ℕ → ℕ) → IsSound spec fields → IsSound spec (with_quiet fields quiet)
sound_counts spec fields quiet sound = record { beside = sound.beside; resolved = sound.resolved; inputs = sound.inputs; outs = sound.outs; own = sound.own }

pub fields_sound : (room : RoomState) (fields : Fields) → IsWithinLimits room.spec → AreFieldsOf room fields → IsSound room.spec fields
fields_sound room fields limits are =
    let base = replay_fields room.spec (opening_fields room.spec) are.run.schedule in
    subst (IsSound room.spec) (sym (leads_of room fields are)) (sound_counts room.spec base fields.quiet (sound_run (configuration_of room) limits are.run))
