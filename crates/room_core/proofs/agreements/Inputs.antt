-- What the simulators of a reduction know of the inputs of processes: each proposes its own, and all that have an input of a process have the
-- one that was agreed on.
use Rattle.std.proofs.Common.{◌≡◌, ◌≢◌, ◌⊎◌, ℕ, zero, suc, ◌+◌, ◌<◌, ◌≤◌, Bool, true, false, cond, eqb, ltb, min, ◌&&◌, List, [], ◌∷◌, length, map, get_or, set, replicate, slice_index, Contains, Option, Some, None, inl, inr, refl, sym, ap, ◌∙◌, subst, arith}
use Rattle.std.specs.Prelude.{unwrap_or}
use Rattle.std.specs.List.{range_with_len, list_any}
use Rattle.std.proofs.lemmas.Bool.{and_parts}
use Rattle.std.proofs.lemmas.List.{get_or-set_same, get_or-set_other, get_or-replicate, get_or_default, get_or_read, length-set}
use Rattle.std.proofs.lemmas.List.FromFn.{length-range_with_len, get_or-range_with_len}
use Rattle.std.proofs.lemmas.List.Folds.{Any-from_list_any, list_any_at}
use mathlib.Core.Logic.{dite}
use native.Mathlib.Decide.{ℕ_discrete}
use Rattle.protocol_lang.specs.Numbers.{greatest}
use Rattle.room_spec.specs.Rooms.{RoomSpec, AreOwn, IsWithinLimits, has_own, is_reduction, processes}
use Rattle.room_spec.specs.declared.version.Version.{Version}
use Rattle.std.proofs.lemmas.List.Elements.{Contains-get_or}
use Rattle.room_spec.specs.Sizes.{sizes_in}
use Rattle.room_spec.proofs.CallerLemmas.{input_small, own_input_small}
use Rattle.safe_agreement.specs.Levels.{least_two, left_level}
use Rattle.safe_agreement.specs.Phases.{Before, phase_level}
use Rattle.safe_agreement.proofs.CallerLemmas.{resolved_to, is_resolved_by, resolves_least}
use Rattle.simulator.specs.declared.goal.Goal.{Goal}
use Rattle.simulator.specs.declared.goal.Goal.TheVariants as goals
use Rattle.simulator.specs.declared.line.Line.TheVariants.{Rest, GetInput}
use Rattle.simulator.specs.Minds.{MindOf, current_goal, current_input, current_round, first_goal, first_goals, first_write, goal_at, has_input, is_unfinished, round_of}
use Rattle.simulator.specs.Ranges.{IsGoal}
use Rattle.simulator.specs.Turns.{after_write, asks_in, gets_in}
use Rattle.room_core.specs.Fields.{StepMap, Fields, chosen_at, changed_pair, levels_at, opening_fields}
use Rattle.room_core.specs.Agreements.{IsFixedAt, agreed_input, input_at, is_input_known, shown_of}
use Rattle.room_core.specs.Tracks.{KeepsTrack, Stage, Tells, stage_for}
use Rattle.room_core.specs.Tracks as stages
use Rattle.room_core.proofs.fields.Maps.{pair_else}
use Rattle.room_core.proofs.fields.Effects.{Own, own_of, process_on, Loads, loads_view, loads_value, is_getting, Effect, IsLineOf, stores, proposes, raises, collects_word, collects_again, scans, shows_word, shows, loads_word, enters, looks, leaves, asks_in_vain, finds, gets_input, gathers, goes_to, will_decide, decides}
use Rattle.room_core.proofs.agreements.Stages.{has_to_propose, is_proposal, phase_begun, level_is}
use Rattle.room_core.proofs.agreements.PhaseSteps.{IsProposing, asks_no_proposal, next_no_proposal, rest_is, to_propose}
use Rattle.room_core.proofs.agreements.Sound.{IsSound, chosen_is_fixed, later_has, asks_has, or_first, opening_goal}
use Rattle.room_core.proofs.agreements.Fixing.{fixed_at, fixed_has_least}
use Rattle.room_core.proofs.agreements.Staying.{LevelsStay}

-- the line after a choice has the proposal that was chosen
pub record IsChosenInput (spec : RoomSpec) (fields : Fields) (j chosen : ℕ) : Type 0 where
  pub fixed : IsFixedAt spec fields j 0
  pub is : least_two (levels_at spec fields j 0) ≡ Some chosen

-- Each simulator proposes its own input, and has stored it once it has begun to; and all that have an input have the one that was chosen.
-- No simulator has entered an agreement on a process that the room hasn't.
pub record KnowsInputs (spec : RoomSpec) (fields : Fields) : Type 0 where
  pub goals : (i p value : ℕ) → i < spec.simulators → goal_at (fields.mind i).goals p ≡ goals.Propose value → value ≡ slice_index spec.own i
  pub stored : (i p : ℕ) → i < spec.simulators → p < processes spec → is_reduction spec ≡ true → has_to_propose (fields.mind i) p ≡ false → fields.value i p 0 ≡ slice_index spec.own i
  pub chosen : (i chosen : ℕ) → i < spec.simulators → (fields.mind i).line ≡ GetInput chosen → IsChosenInput spec fields (fields.mind i).process chosen
  pub long : (i : ℕ) → i < spec.simulators → length (fields.mind i).inputs ≡ cond (is_reduction spec) (processes spec) 0
  pub inputs : (i p : ℕ) → i < spec.simulators → p < processes spec → is_reduction spec ≡ true → has_input (goal_at (fields.mind i).goals p) ≡ true → slice_index (fields.mind i).inputs p ≡ slice_index spec.own (shown_of spec fields p 0)
  pub inside : (i p k : ℕ) → i < spec.simulators → fields.level i p k ≢ 0 → p < processes spec

-- ---- what a line makes of what its simulator has

no_proposal : (goal : Goal) (value : ℕ) → is_proposal goal ≡ false → goal ≡ goals.Propose value → ⊥
no_proposal (goals.Write k value') value none is = cc
no_proposal (goals.Ask k) value none is = cc
no_proposal (goals.Propose value') value none is = absurd cc
no_proposal goals.AskInput value none is = cc
no_proposal goals.Done value none is = cc
no_proposal goals.Spent value none is = cc

gets_input_is : (round found chosen : ℕ) → gets_in round found ≡ GetInput chosen → (round ≡ 0) × (found ≡ chosen)
gets_input_is zero found chosen is = (refl, cc)
gets_input_is (suc round) found chosen is = absurd cc

-- a goal that is left to do, with its input, is of a round after the first
has_later : (spec : RoomSpec) (goal : Goal) → IsGoal (sizes_in spec) goal → is_unfinished goal ≡ true → has_input goal ≡ true → 1 ≤ round_of goal
has_later spec (goals.Write k value) range left has = range.0
has_later spec (goals.Ask k) range left has = range.0
has_later spec (goals.Propose value) range left has = absurd cc
has_later spec goals.AskInput range left has = absurd cc
has_later spec goals.Done range left has = absurd cc
has_later spec goals.Spent range left has = absurd cc

asks_have : (round : ℕ) → 1 ≤ round → has_input (asks_in round) ≡ true
asks_have zero first = absurd (omega arith)
asks_have (suc round) first = refl

next_has : (b : Bool) (round value : ℕ) → has_input (cond b (goals.Write (round + 1) value) goals.Spent) ≡ true
next_has true round value = refl
next_has false round value = refl

module _ (spec : RoomSpec) (fields : Fields) (own : Own) (p : ℕ) where
  -- the goal of one process was set
  set_goal : (P : Goal → Type 0) (list : List Goal) (j : ℕ) (goal : Goal) → list ≡ own.mind.goals → j < length list → P (goal_at (set list j goal) p) → ((p ≡ j) × P goal) ⊎ ((p ≢ j) × P (goal_at own.mind.goals p))
  set_goal P list j goal same below has = dite (ℕ_discrete p j)
      (λ (e : p ≡ j). inl (e, subst P (ap (λ (q : ℕ). get_or (set list j goal) q goals.Done) e ∙ get_or-set_same list j goal goals.Done below) has))
      (λ (n : p ≢ j). inr (n, subst P (get_or-set_other list j p goal goals.Done n ∙ ap (λ (l : List Goal). goal_at l p) same) has))

  set_proposal : (list : List Goal) (j value : ℕ) (goal : Goal) → list ≡ own.mind.goals → j < length list → is_proposal goal ≡ false → goal_at (set list j goal) p ≡ goals.Propose value → goal_at own.mind.goals p ≡ goals.Propose value
  set_proposal list j value goal same below none is = elim (set_goal (λ (g : Goal). g ≡ goals.Propose value) list j goal same below is) [ inl new ↦ absurd (no_proposal goal value none new.1) | inr old ↦ old.1 ]

  own_goals : (after : Own) (value : ℕ) → Effect spec fields own after → goal_at after.mind.goals p ≡ goals.Propose value → goal_at own.mind.goals p ≡ goals.Propose value
  own_goals after value (stores j k value' rest goal count process first last) is = is
  own_goals after value (proposes j value' rest goal none unentered within kind) is = is
  own_goals after value (raises turn whole begun count) is = is
  own_goals after value (collects_word turn count none more) is = is
  own_goals after value (collects_again turn count none last several goes) is = is
  own_goals after value (scans collects turn count none last ends) is = is
  own_goals after value (loads_word found turn less more) is = is
  own_goals after value (shows_word turn count none more) is = is
  own_goals after value (shows turn count none last) is = is
  own_goals after value (enters turn count none) is = is
  own_goals after value (looks turn count one) is = is
  own_goals after value (leaves saw_two turn count one) is = is
  own_goals after value (asks_in_vain asking asks none) is = set_proposal asking.goals asking.process value (asks_in (current_round asking)) asks.goals (let l = asks.long in let b = asks.process in omega arith) (asks_no_proposal (current_round asking)) is
  own_goals after value (finds asking chosen asks some) is = ap (λ (l : List Goal). goal_at l p) (sym asks.goals) ∙ is
  own_goals after value (gets_input chosen turn count less) is = set_proposal own.mind.goals own.mind.process value (first_write spec (min (fields.value chosen (process_on own) 0) greatest) (process_on own)) refl (let l = turn.long in let b = turn.process in omega arith) refl is
  own_goals after value (gathers reading reads more) is = ap (λ (l : List Goal). goal_at l p) (sym reads.goals) ∙ is
  own_goals after value (goes_to reading given reads all action) is =
      set_proposal reading.goals reading.process value (after_write spec.rounds (current_round reading) given) reads.goals (let l = ap length reads.goals in let l' = reads.long in let b = reads.process in let s = reads.same in omega arith)
      (next_no_proposal (ltb (current_round reading) spec.rounds) (current_round reading) given) is
  own_goals after value (will_decide reading decision reads all action) is = ap (λ (l : List Goal). goal_at l p) (sym reads.goals) ∙ is
  own_goals after value (decides decision turn count) is = set_proposal own.mind.goals own.mind.process value goals.Done refl (let l = turn.long in let b = turn.process in omega arith) refl is

  -- what it has proposed stays
  own_value : (after : Own) → Effect spec fields own after → has_to_propose own.mind p ≡ false → after.value p 0 ≡ own.value p 0
  own_value after (stores j k value rest goal count process first last) begun = pair_else own.value j k value p 0 (λ e e'. omega (arith, first, e'))
  own_value after (proposes j value rest goal none unentered within kind) begun =
      pair_else own.value j 0 value p 0 (λ e e'.
      let had : has_to_propose own.mind p ≡ true = rest_is own.mind p rest ∙ ap (λ (q : ℕ). is_proposal (goal_at own.mind.goals q)) e ∙ ap is_proposal goal in
      let wrong : true ≡ false = sym had ∙ begun in
      cc)
  own_value after (raises turn whole begun' count) begun = refl
  own_value after (collects_word turn count none more) begun = refl
  own_value after (collects_again turn count none last several goes) begun = refl
  own_value after (scans collects turn count none last ends) begun = refl
  own_value after (loads_word found turn less more) begun = refl
  own_value after (shows_word turn count none more) begun = refl
  own_value after (shows turn count none last) begun = refl
  own_value after (enters turn count none) begun = refl
  own_value after (looks turn count one) begun = refl
  own_value after (leaves saw_two turn count one) begun = refl
  own_value after (asks_in_vain asking asks none) begun = refl
  own_value after (finds asking chosen asks some) begun = refl
  own_value after (gets_input chosen turn count less) begun = refl
  own_value after (gathers reading reads more) begun = refl
  own_value after (goes_to reading given reads all action) begun = refl
  own_value after (will_decide reading decision reads all action) begun = refl
  own_value after (decides decision turn count) begun = refl

  -- who gets an input next has just found the agreement on it resolved
  own_chosen : (after : Own) (chosen : ℕ) → Effect spec fields own after → after.mind.line ≡ GetInput chosen → chosen_at spec fields after.mind.process 0 ≡ Some chosen
  own_chosen after chosen (stores j k value rest goal count process first last) is = absurd cc
  own_chosen after chosen (proposes j value rest goal none unentered within kind) is = absurd cc
  own_chosen after chosen (raises turn whole begun count) is = absurd cc
  own_chosen after chosen (collects_word turn count none more) is = absurd cc
  own_chosen after chosen (collects_again turn count none last several goes) is = absurd cc
  own_chosen after chosen (scans collects turn count none last ends) is = absurd cc
  own_chosen after chosen (loads_word found turn less more) is = absurd cc
  own_chosen after chosen (shows_word turn count none more) is = absurd cc
  own_chosen after chosen (shows turn count none last) is = absurd cc
  own_chosen after chosen (enters turn count none) is = absurd cc
  own_chosen after chosen (looks turn count one) is = absurd cc
  own_chosen after chosen (leaves saw_two turn count one) is = absurd cc
  own_chosen after chosen (asks_in_vain asking asks none) is = absurd cc
  own_chosen after chosen (finds asking found asks some) is =
      let at = gets_input_is (current_round asking) found chosen is in
      ap (λ (k : ℕ). chosen_at spec fields asking.process k) (sym at.0) ∙ some ∙ ap Some at.1
  own_chosen after chosen (gets_input found turn count less) is = absurd cc
  own_chosen after chosen (gathers reading reads more) is = absurd cc
  own_chosen after chosen (goes_to reading given reads all action) is = absurd cc
  own_chosen after chosen (will_decide reading decision reads all action) is = absurd cc
  own_chosen after chosen (decides decision turn count) is = absurd cc

  pub loaded_inputs : (reading : MindOf StepMap) → Loads spec fields own reading → reading.inputs ≡ own.mind.inputs
  loaded_inputs reading (loads_view chosen turn less last words) = refl
  loaded_inputs reading (loads_value turn less shown) = refl

  own_length : (after : Own) → Effect spec fields own after → length after.mind.inputs ≡ length own.mind.inputs
  own_length after (stores j k value rest goal count process first last) = refl
  own_length after (proposes j value rest goal none unentered within kind) = refl
  own_length after (raises turn whole begun count) = refl
  own_length after (collects_word turn count none more) = refl
  own_length after (collects_again turn count none last several goes) = refl
  own_length after (scans collects turn count none last ends) = refl
  own_length after (loads_word found turn less more) = refl
  own_length after (shows_word turn count none more) = refl
  own_length after (shows turn count none last) = refl
  own_length after (enters turn count none) = refl
  own_length after (looks turn count one) = refl
  own_length after (leaves saw_two turn count one) = refl
  own_length after (asks_in_vain asking asks none) = ap length asks.inputs
  own_length after (finds asking chosen asks some) = ap length asks.inputs
  own_length after (gets_input chosen turn count less) = length-set own.mind.inputs (process_on own) (min (fields.value chosen (process_on own) 0) greatest)
  own_length after (gathers reading reads more) = ap length (loaded_inputs reading reads.loads)
  own_length after (goes_to reading given reads all action) = ap length (loaded_inputs reading reads.loads)
  own_length after (will_decide reading decision reads all action) = ap length (loaded_inputs reading reads.loads)
  own_length after (decides decision turn count) = refl

  -- the input of process p that it has it had, or has just got
  abbrev HasKept : Own → Type 0
  HasKept after = (has_input (goal_at own.mind.goals p) ≡ true) × (slice_index after.mind.inputs p ≡ slice_index own.mind.inputs p)

  abbrev HasGot : Own → Type 0
  HasGot after = (chosen : ℕ) × (own.mind.line ≡ GetInput chosen) × (p ≡ process_on own) × (slice_index after.mind.inputs p ≡ min (fields.value chosen (process_on own) 0) greatest)

  turn_has : 1 ≤ current_round own.mind → p ≡ own.mind.process → has_input (goal_at own.mind.goals p) ≡ true
  turn_has first e = ap (λ (q : ℕ). has_input (goal_at own.mind.goals q)) e ∙ later_has (current_goal own.mind) first

  own_inputs : (after : Own) → p < length own.mind.inputs → Effect spec fields own after → has_input (goal_at after.mind.goals p) ≡ true → HasKept after ⊎ HasGot after
  own_inputs after below (stores j k value rest goal count process first last) has = inl (has, refl)
  own_inputs after below (proposes j value rest goal none unentered within kind) has = inl (has, refl)
  own_inputs after below (raises turn whole begun count) has = inl (has, refl)
  own_inputs after below (collects_word turn count none more) has = inl (has, refl)
  own_inputs after below (collects_again turn count none last several goes) has = inl (has, refl)
  own_inputs after below (scans collects turn count none last ends) has = inl (has, refl)
  own_inputs after below (loads_word found turn less more) has = inl (has, refl)
  own_inputs after below (shows_word turn count none more) has = inl (has, refl)
  own_inputs after below (shows turn count none last) has = inl (has, refl)
  own_inputs after below (enters turn count none) has = inl (has, refl)
  own_inputs after below (looks turn count one) has = inl (has, refl)
  own_inputs after below (leaves saw_two turn count one) has = inl (has, refl)
  own_inputs after below (asks_in_vain asking asks none) has =
      let same = ap (λ (l : List ℕ). slice_index l p) asks.inputs in
      inl (
        elim (set_goal (λ (g : Goal). has_input g ≡ true) asking.goals asking.process (asks_in (current_round asking)) asks.goals (let l = asks.long in let b = asks.process in omega arith) has) [
          | inl new ↦ ap (λ (l : List Goal). has_input (goal_at l p)) (sym asks.goals) ∙ ap (λ (q : ℕ). has_input (goal_at asking.goals q)) new.0 ∙ later_has (current_goal asking) (asks_has (current_round asking) new.1)
          | inr old ↦ old.1
        ],
        same,
      )
  own_inputs after below (finds asking chosen asks some) has = inl (ap (λ (l : List Goal). has_input (goal_at l p)) (sym asks.goals) ∙ has, ap (λ (l : List ℕ). slice_index l p) asks.inputs)
  own_inputs after below (gets_input chosen turn count less) has =
      let input = min (fields.value chosen (process_on own) 0) greatest in
      elim (set_goal (λ (g : Goal). has_input g ≡ true) own.mind.goals own.mind.process (first_write spec input (process_on own)) refl (let l = turn.long in let b = turn.process in omega arith) has) [
        | inl new ↦ inr (chosen, turn.stands, new.0, ap (λ (q : ℕ). get_or (set own.mind.inputs (process_on own) input) q 0) new.0 ∙ get_or-set_same own.mind.inputs (process_on own) input 0 (let e = new.0 in omega arith))
        | inr old ↦ inl (old.1, get_or-set_other own.mind.inputs (process_on own) p input 0 old.0)
      ]
  own_inputs after below (gathers reading reads more) has = inl (ap (λ (l : List Goal). has_input (goal_at l p)) (sym reads.goals) ∙ has, ap (λ (l : List ℕ). slice_index l p) (loaded_inputs reading reads.loads))
  own_inputs after below (goes_to reading given reads all action) has =
      inl (
        elim (set_goal (λ (g : Goal). has_input g ≡ true) reading.goals reading.process (after_write spec.rounds (current_round reading) given) reads.goals (let l = ap length reads.goals in let l' = reads.long in let b = reads.process in let s = reads.same in omega arith) has) [
          | inl new ↦ turn_has reads.first (new.0 ∙ reads.same)
          | inr old ↦ old.1
        ],
        ap (λ (l : List ℕ). slice_index l p) (loaded_inputs reading reads.loads),
      )
  own_inputs after below (will_decide reading decision reads all action) has = inl (ap (λ (l : List Goal). has_input (goal_at l p)) (sym reads.goals) ∙ has, ap (λ (l : List ℕ). slice_index l p) (loaded_inputs reading reads.loads))
  own_inputs after below (decides decision turn count) has =
      inl (
        elim (set_goal (λ (g : Goal). has_input g ≡ true) own.mind.goals own.mind.process goals.Done refl (let l = turn.long in let b = turn.process in omega arith) has) [
          | inl new ↦ turn_has turn.first new.0
          | inr old ↦ old.1
        ],
        refl,
      )

  -- it never loses one
  set_has : (list : List Goal) (j : ℕ) (goal : Goal) → list ≡ own.mind.goals → j < length list → (p ≡ j → has_input goal ≡ true) → has_input (goal_at own.mind.goals p) ≡ true → has_input (goal_at (set list j goal) p) ≡ true
  set_has list j goal same below new had = dite (ℕ_discrete p j)
      (λ (e : p ≡ j). ap has_input (ap (λ (q : ℕ). get_or (set list j goal) q goals.Done) e ∙ get_or-set_same list j goal goals.Done below) ∙ new e)
      (λ (n : p ≢ j). ap has_input (get_or-set_other list j p goal goals.Done n ∙ ap (λ (l : List Goal). goal_at l p) same) ∙ had)

  own_keeps_input : (after : Own) → Effect spec fields own after → has_input (goal_at own.mind.goals p) ≡ true → has_input (goal_at after.mind.goals p) ≡ true
  own_keeps_input after (stores j k value rest goal count process first last) had = had
  own_keeps_input after (proposes j value rest goal none unentered within kind) had = had
  own_keeps_input after (raises turn whole begun count) had = had
  own_keeps_input after (collects_word turn count none more) had = had
  own_keeps_input after (collects_again turn count none last several goes) had = had
  own_keeps_input after (scans collects turn count none last ends) had = had
  own_keeps_input after (loads_word found turn less more) had = had
  own_keeps_input after (shows_word turn count none more) had = had
  own_keeps_input after (shows turn count none last) had = had
  own_keeps_input after (enters turn count none) had = had
  own_keeps_input after (looks turn count one) had = had
  own_keeps_input after (leaves saw_two turn count one) had = had
  own_keeps_input after (asks_in_vain asking asks none) had =
      set_has asking.goals asking.process (asks_in (current_round asking)) asks.goals (let l = asks.long in let b = asks.process in omega arith)
      (λ e. asks_have (current_round asking) (has_later spec (current_goal asking) asks.goal asks.left (ap (λ (q : ℕ). has_input (goal_at asking.goals q)) (sym e) ∙ ap (λ (l : List Goal). has_input (goal_at l p)) asks.goals ∙ had))) had
  own_keeps_input after (finds asking chosen asks some) had = ap (λ (l : List Goal). has_input (goal_at l p)) asks.goals ∙ had
  own_keeps_input after (gets_input chosen turn count less) had = set_has own.mind.goals own.mind.process (first_write spec (min (fields.value chosen (process_on own) 0) greatest) (process_on own)) refl (let l = turn.long in let b = turn.process in omega arith) (λ e. refl) had
  own_keeps_input after (gathers reading reads more) had = ap (λ (l : List Goal). has_input (goal_at l p)) reads.goals ∙ had
  own_keeps_input after (goes_to reading given reads all action) had =
      set_has reading.goals reading.process (after_write spec.rounds (current_round reading) given) reads.goals (let l = ap length reads.goals in let l' = reads.long in let b = reads.process in let s = reads.same in omega arith)
      (λ e. next_has (ltb (current_round reading) spec.rounds) (current_round reading) given) had
  own_keeps_input after (will_decide reading decision reads all action) had = ap (λ (l : List Goal). has_input (goal_at l p)) reads.goals ∙ had
  own_keeps_input after (decides decision turn count) had = set_has own.mind.goals own.mind.process goals.Done refl (let l = turn.long in let b = turn.process in omega arith) (λ e. refl) had

  -- it enters and leaves agreements on processes of the room only
  level_else : (k entry : ℕ) → process_on own < processes spec → changed_pair own.level (process_on own) (current_round own.mind) entry p k ≢ 0 → (own.level p k ≢ 0) ⊎ (p < processes spec)
  level_else k entry low is = dite (ℕ_discrete p (process_on own))
      (λ (e : p ≡ process_on own). inr (omega (arith, e, low)))
      (λ (n : p ≢ process_on own). inl (λ zero. is (pair_else own.level (process_on own) (current_round own.mind) entry p k (λ e _. n e) ∙ zero)))

  own_inside : (after : Own) (k : ℕ) → Effect spec fields own after → after.level p k ≢ 0 → (own.level p k ≢ 0) ⊎ (p < processes spec)
  own_inside after k (stores j k' value rest goal count process first last) is = inl is
  own_inside after k (proposes j value rest goal none unentered within kind) is = inl is
  own_inside after k (raises turn whole begun count) is = inl is
  own_inside after k (collects_word turn count none more) is = inl is
  own_inside after k (collects_again turn count none last several goes) is = inl is
  own_inside after k (scans collects turn count none last ends) is = inl is
  own_inside after k (loads_word found turn less more) is = inl is
  own_inside after k (shows_word turn count none more) is = inl is
  own_inside after k (shows turn count none last) is = inl is
  own_inside after k (enters turn count none) is = level_else k (own.level (process_on own) (current_round own.mind) + 1) turn.process is
  own_inside after k (looks turn count one) is = inl is
  own_inside after k (leaves saw_two turn count one) is = level_else k (left_level saw_two) turn.process is
  own_inside after k (asks_in_vain asking asks none) is = inl is
  own_inside after k (finds asking chosen asks some) is = inl is
  own_inside after k (gets_input chosen turn count less) is = inl is
  own_inside after k (gathers reading reads more) is = inl is
  own_inside after k (goes_to reading given reads all action) is = inl is
  own_inside after k (will_decide reading decision reads all action) is = inl is
  own_inside after k (decides decision turn count) is = inl is

-- ---- inside one moment

-- a simulator that has entered the agreement on an input has begun to propose
pub entered_begun : (spec : RoomSpec) (fields : Fields) (i p k : ℕ) → KeepsTrack spec fields → fields.level i p k ≢ 0 → has_to_propose (fields.mind i) p ≡ false
entered_begun spec fields i p k tracks other = by_bool (has_to_propose (fields.mind i) p) refl
  where
    by_bool : (b : Bool) → has_to_propose (fields.mind i) p ≡ b → b ≡ false
    by_bool true is =
        absurd (other (level_is spec.rounds (fields.mind i) (fields.step i) (fields.level i) (tracks.told i) p k
        ∙ ap (λ (b : Bool). phase_level (cond b Before (phase_begun (fields.mind i) (fields.step i) (fields.level i) p k))) is))
    by_bool false is = refl

some_same : {x y : ℕ} → Some x ≡ Some y → x ≡ y
some_same e = cc

module _ (spec : RoomSpec) (fields : Fields) (tracks : KeepsTrack spec fields) (knows : KnowsInputs spec fields) where
  -- what is chosen is the own input of a simulator, which it has stored
  pub chosen_stored : (p chosen : ℕ) → p < processes spec → is_reduction spec ≡ true → IsChosenInput spec fields p chosen → (chosen < spec.simulators) × (fields.value chosen p 0 ≡ slice_index spec.own chosen)
  chosen_stored p chosen within kind at =
      let least = fixed_has_least spec fields p 0 at.fixed in
      let same : least.0 ≡ chosen = some_same (sym least.2 ∙ at.is) in
      let below : chosen < spec.simulators = let b = least.1 in omega arith in
      let two : fields.level chosen p 0 ≡ 2 = subst (λ (h : ℕ). fields.level h p 0 ≡ 2) same least.3 in
      (below, knows.stored chosen p below within kind (entered_begun spec fields chosen p 0 tracks (λ none. omega (arith, none, two))))

  pub fixed_chosen : (p : ℕ) → IsFixedAt spec fields p 0 → IsChosenInput spec fields p (shown_of spec fields p 0)
  fixed_chosen p at =
      let least = fixed_has_least spec fields p 0 at in
      record { fixed = at; is = least.2 ∙ sym (ap (λ (o : Option ℕ). Some (unwrap_or o 0)) least.2) }

-- ---- a line

module _ (spec : RoomSpec) (limits : IsWithinLimits spec) (fields after : Fields) (i : ℕ) (tracks : KeepsTrack spec fields) (sound : IsSound spec fields) (effect : IsLineOf spec fields after i) (stay : LevelsStay spec fields after) (knows : KnowsInputs spec fields) where
  shown_kept : (p : ℕ) → IsFixedAt spec fields p 0 → shown_of spec after p 0 ≡ shown_of spec fields p 0
  shown_kept p at = ap (λ (o : Option ℕ). unwrap_or o 0) (sym (stay.least p 0 at))

  chosen_kept : (p chosen : ℕ) → IsChosenInput spec fields p chosen → IsChosenInput spec after p chosen
  chosen_kept p chosen at = record { fixed = stay.fixed p 0 at.fixed; is = sym (stay.least p 0 at.fixed) ∙ at.is }

  chosen_new : (p chosen : ℕ) → chosen_at spec fields p 0 ≡ Some chosen → IsChosenInput spec fields p chosen
  chosen_new p chosen some =
      let levels = levels_at spec fields p 0 in
      record {
        fixed = fixed_at spec fields tracks p 0 (chosen_is_fixed spec fields p 0 chosen tracks some);
        is = sym (resolves_least levels (is_resolved_by levels chosen (resolved_to levels chosen some))) ∙ some;
      }

  has_fixed : (a p : ℕ) → a < spec.simulators → p < processes spec → is_reduction spec ≡ true → has_input (goal_at (fields.mind a).goals p) ≡ true → IsFixedAt spec fields p 0
  has_fixed a p below within kind has = fixed_at spec fields tracks p 0 (sound.inputs a p below within kind (or_first (has_input (goal_at (fields.mind a).goals p)) (is_getting (fields.mind a).line && eqb p (fields.mind a).process) has))

  inputs_kept : (a p : ℕ) → a < spec.simulators → p < processes spec → is_reduction spec ≡ true → has_input (goal_at (fields.mind a).goals p) ≡ true → slice_index (fields.mind a).inputs p ≡ slice_index spec.own (shown_of spec after p 0)
  inputs_kept a p below within kind has = knows.inputs a p below within kind has ∙ ap (slice_index spec.own) (sym (shown_kept p (has_fixed a p below within kind has)))

  stored_by : (p : ℕ) → p < processes spec → is_reduction spec ≡ true → has_to_propose (after.mind i) p ≡ false → (has_to_propose (after.mind i) p ≡ has_to_propose (fields.mind i) p) ⊎ IsProposing (own_of fields i) p (own_of after i) → after.value i p 0 ≡ slice_index spec.own i
  stored_by p within kind begun (inl same) =
      let had = sym same ∙ begun in
      own_value spec fields (own_of fields i) p (own_of after i) effect.own had ∙ knows.stored i p effect.below within kind had
  stored_by p within kind begun (inr new) = new.stored ∙ knows.goals i p new.value effect.below new.goal

  -- what it gets was agreed on
  pub got_is : (p chosen : ℕ) → p < processes spec → is_reduction spec ≡ true → (fields.mind i).line ≡ GetInput chosen → p ≡ (fields.mind i).process → min (fields.value chosen (fields.mind i).process 0) greatest ≡ slice_index spec.own (shown_of spec after p 0)
  got_is p chosen within kind is e =
      let at : IsChosenInput spec fields p chosen = subst (λ (q : ℕ). IsChosenInput spec fields q chosen) (sym e) (knows.chosen i chosen effect.below is) in
      let stored = chosen_stored spec fields tracks knows p chosen within kind at in
      let value : fields.value chosen (fields.mind i).process 0 ≡ slice_index spec.own chosen = ap (λ (q : ℕ). fields.value chosen q 0) (sym e) ∙ stored.1 in
      let small : slice_index spec.own chosen ≤ greatest = own_input_small spec chosen limits in
      let shown : shown_of spec after p 0 ≡ chosen = ap (λ (o : Option ℕ). unwrap_or o 0) (chosen_kept p chosen at).is in
      let least : min (fields.value chosen (fields.mind i).process 0) greatest ≡ slice_index spec.own chosen = omega (arith, value, small) in
      least ∙ ap (slice_index spec.own) (sym shown)

  inputs_by : (p : ℕ) → p < processes spec → is_reduction spec ≡ true → HasKept spec fields (own_of fields i) p (own_of after i) ⊎ HasGot spec fields (own_of fields i) p (own_of after i) → slice_index (after.mind i).inputs p ≡ slice_index spec.own (shown_of spec after p 0)
  inputs_by p within kind (inl kept) = kept.1 ∙ inputs_kept i p effect.below within kind kept.0
  inputs_by p within kind (inr got) = got.3 ∙ got_is p got.0 within kind got.1 got.2

  long_is : length (fields.mind i).inputs ≡ cond (is_reduction spec) (processes spec) 0
  long_is = knows.long i effect.below

  pub inputs_line : KnowsInputs spec after
  inputs_line = record {
    goals = λ a p value below is. dite (ℕ_discrete a i)
        (λ (e : a ≡ i). subst (λ (b : ℕ). value ≡ slice_index spec.own b) (sym e) (knows.goals i p value effect.below (own_goals spec fields (own_of fields i) p (own_of after i) value effect.own (ap (λ (b : ℕ). goal_at (after.mind b).goals p) (sym e) ∙ is))))
        (λ (n : a ≢ i). knows.goals a p value below (ap (λ (own : Own). goal_at own.mind.goals p) (sym (effect.others a n)) ∙ is));
    stored = λ a p below within kind begun. dite (ℕ_discrete a i)
        (λ (e : a ≡ i).
        subst (λ (b : ℕ). after.value b p 0 ≡ slice_index spec.own b) (sym e)
        (stored_by p within kind (ap (λ (b : ℕ). has_to_propose (after.mind b) p) (sym e) ∙ begun) (to_propose spec fields (own_of fields i) p (own_of after i) effect.own)))
        (λ (n : a ≢ i). ap (λ (own : Own). own.value p 0) (effect.others a n) ∙ knows.stored a p below within kind (ap (λ (own : Own). has_to_propose own.mind p) (sym (effect.others a n)) ∙ begun));
    chosen = λ a chosen below is. dite (ℕ_discrete a i)
        (λ (e : a ≡ i).
        let is' = ap (λ (b : ℕ). (after.mind b).line) (sym e) ∙ is in
        subst (λ (b : ℕ). IsChosenInput spec after (after.mind b).process chosen) (sym e)
        (chosen_kept (after.mind i).process chosen (chosen_new (after.mind i).process chosen (own_chosen spec fields (own_of fields i) 0 (own_of after i) chosen effect.own is'))))
        (λ (n : a ≢ i).
        let same = effect.others a n in
        subst (λ (own : Own). IsChosenInput spec after own.mind.process chosen) (sym same) (chosen_kept (fields.mind a).process chosen (knows.chosen a chosen below (ap (λ (own : Own). own.mind.line) (sym same) ∙ is))));
    long = λ a below. dite (ℕ_discrete a i)
        (λ (e : a ≡ i). ap (λ (b : ℕ). length (after.mind b).inputs) e ∙ own_length spec fields (own_of fields i) 0 (own_of after i) effect.own ∙ long_is)
        (λ (n : a ≢ i). ap (λ (own : Own). length own.mind.inputs) (effect.others a n) ∙ knows.long a below);
    inputs = λ a p below within kind has. dite (ℕ_discrete a i)
        (λ (e : a ≡ i).
        let many : p < length (fields.mind i).inputs = let long = long_is ∙ ap (λ (b : Bool). cond b (processes spec) 0) kind in omega (arith, long, within) in
        ap (λ (b : ℕ). slice_index (after.mind b).inputs p) e
        ∙ inputs_by p within kind (own_inputs spec fields (own_of fields i) p (own_of after i) many effect.own (ap (λ (b : ℕ). has_input (goal_at (after.mind b).goals p)) (sym e) ∙ has)))
        (λ (n : a ≢ i).
        let same = effect.others a n in
        ap (λ (own : Own). slice_index own.mind.inputs p) same ∙ inputs_kept a p below within kind (ap (λ (own : Own). has_input (goal_at own.mind.goals p)) (sym same) ∙ has));
    inside = λ a p k below is. dite (ℕ_discrete a i)
        (λ (e : a ≡ i). elim (own_inside spec fields (own_of fields i) p (own_of after i) k effect.own (λ zero. is (ap (λ (b : ℕ). after.level b p k) e ∙ zero))) [ inl was ↦ knows.inside i p k effect.below was | inr low ↦ low ])
        (λ (n : a ≢ i). knows.inside a p k below (λ zero. is (ap (λ (own : Own). own.level p k) (effect.others a n) ∙ zero)));
  }

  -- a simulator that has an input has it from now on
  pub has_kept : (a p : ℕ) → has_input (goal_at (fields.mind a).goals p) ≡ true → has_input (goal_at (after.mind a).goals p) ≡ true
  has_kept a p had = dite (ℕ_discrete a i)
      (λ (e : a ≡ i). ap (λ (b : ℕ). has_input (goal_at (after.mind b).goals p)) e ∙ own_keeps_input spec fields (own_of fields i) p (own_of after i) effect.own (ap (λ (b : ℕ). has_input (goal_at (fields.mind b).goals p)) (sym e) ∙ had))
      (λ (n : a ≢ i). ap (λ (own : Own). has_input (goal_at own.mind.goals p)) (effect.others a n) ∙ had)

-- ---- where only crashes and quiet counts change

pub inputs_other : (spec : RoomSpec) (fields : Fields) (quiet : ℕ → ℕ) (crashed : ℕ → Bool) → KnowsInputs spec fields → KnowsInputs spec (record fields { quiet = quiet; crashed = crashed })
inputs_other spec fields quiet crashed knows = record {
  goals = knows.goals;
  stored = knows.stored;
  chosen = λ a chosen below is.
      let at = knows.chosen a chosen below is in
      let fixed = at.fixed in
      record { fixed = record { simulator = fixed.simulator; below = fixed.below; two = fixed.two; seen = λ b low blind. fixed.seen b low (record { process = blind.process; round = blind.round; line = blind.line }) }; is = at.is };
  long = knows.long;
  inputs = knows.inputs;
  inside = knows.inside;
}

-- ---- the opening

proposed_value : (n p value given : ℕ) → goal_at (replicate n (goals.Propose given)) p ≡ goals.Propose value → value ≡ given
proposed_value zero p value given is = absurd cc
proposed_value (suc n) zero value given is = cc
proposed_value (suc n) (suc p) value given is = proposed_value n p value given is

no_first_proposal : (spec : RoomSpec) (numbers : List ℕ) (p value : ℕ) → goal_at (map (first_goal spec) numbers) p ≡ goals.Propose value → ⊥
no_first_proposal spec [] p value is = cc
no_first_proposal spec (q ∷ numbers) zero value is = cc
no_first_proposal spec (q ∷ numbers) (suc p) value is = no_first_proposal spec numbers p value is

opening_value : (spec : RoomSpec) (b : Bool) (given p value : ℕ) → goal_at (cond b (replicate (processes spec) (goals.Propose given)) (first_goals spec)) p ≡ goals.Propose value → value ≡ given
opening_value spec true given p value is = proposed_value (processes spec) p value given is
opening_value spec false given p value is = absurd (no_first_proposal spec (range_with_len 0 (processes spec)) p value is)

opening_long : (spec : RoomSpec) (b : Bool) → length (cond b spec.inputs []) ≡ cond b (processes spec) 0
opening_long spec true = refl
opening_long spec false = refl

pub opening_inputs_known : (spec : RoomSpec) → KnowsInputs spec (opening_fields spec)
opening_inputs_known spec = record {
  goals = λ i p value below is. opening_value spec (is_reduction spec) (slice_index spec.own i) p value is;
  stored = λ i p below within kind begun.
      let had : has_to_propose ((opening_fields spec).mind i) p ≡ true = rest_is ((opening_fields spec).mind i) p refl ∙ ap is_proposal (opening_goal spec i p kind within) in
      let wrong : true ≡ false = sym had ∙ begun in
      absurd cc;
  chosen = λ i chosen below is. absurd (no_line chosen is);
  long = λ i below. opening_long spec (is_reduction spec);
  inputs = λ i p below within kind has. let wrong : true ≡ false = sym has ∙ ap has_input (opening_goal spec i p kind within) in absurd cc;
  inside = λ i p k below is. absurd (is refl);
}
  where
    no_line : (chosen : ℕ) → Rest ≡ GetInput chosen → ⊥
    no_line chosen is = cc

-- ---- what that gives

module _ (spec : RoomSpec) (fields : Fields) where
  pub known_by : (i p : ℕ) → i < spec.simulators → is_reduction spec ≡ true → has_input (goal_at (fields.mind i).goals p) ≡ true → is_input_known spec fields p ≡ true
  known_by i p below kind has =
      let index : get_or (range_with_len 0 spec.simulators) i 0 ≡ i = let e = get_or-range_with_len 0 spec.simulators i 0 below in omega (arith, e) in
      ap (λ (b : Bool). b && list_any (λ a. has_input (goal_at (fields.mind a).goals p)) (range_with_len 0 spec.simulators)) kind
      ∙ list_any_at (λ a. has_input (goal_at (fields.mind a).goals p)) (range_with_len 0 spec.simulators) i 0 (let long = length-range_with_len 0 spec.simulators in omega (arith, long, below))
      (ap (λ (a : ℕ). has_input (goal_at (fields.mind a).goals p)) index ∙ has)

  pub who_knows : (p : ℕ) → is_input_known spec fields p ≡ true → (is_reduction spec ≡ true) × ((i : ℕ) × (i < spec.simulators) × (has_input (goal_at (fields.mind i).goals p) ≡ true))
  who_knows p is =
      let parts = and_parts (is_reduction spec) (list_any (λ a. has_input (goal_at (fields.mind a).goals p)) (range_with_len 0 spec.simulators)) is in
      let who = Any-from_list_any (λ a. has_input (goal_at (fields.mind a).goals p)) (range_with_len 0 spec.simulators) parts.1 in
      let below : who.0 < spec.simulators = subst (λ (m : ℕ). who.0 < m) (length-range_with_len 0 spec.simulators) who.2 in
      let index : get_or (range_with_len 0 spec.simulators) who.0 0 ≡ who.0 = let e = get_or-range_with_len 0 spec.simulators who.0 0 below in omega (arith, e) in
      let same : who.1 ≡ who.0 = get_or_read (range_with_len 0 spec.simulators) who.0 who.1 who.2 (sym who.3) 0 ∙ index in
      (parts.0, (who.0, below, subst (λ (a : ℕ). has_input (goal_at (fields.mind a).goals p) ≡ true) same who.4))

  -- in an ordinary room each process has the room's input
  pub ordinary_unknown : (p : ℕ) → is_reduction spec ≡ false → is_input_known spec fields p ≡ false
  ordinary_unknown p kind = ap (λ (b : Bool). b && list_any (λ a. has_input (goal_at (fields.mind a).goals p)) (range_with_len 0 spec.simulators)) kind

  pub unknown_input : (p : ℕ) → is_input_known spec fields p ≡ false → input_at spec fields p ≡ slice_index spec.inputs p
  unknown_input p none = ap (λ (b : Bool). unwrap_or (cond b (Some (fields.value (shown_of spec fields p 0) p 0)) None) (slice_index spec.inputs p)) none

  pub ordinary_input : (p : ℕ) → is_reduction spec ≡ false → input_at spec fields p ≡ slice_index spec.inputs p
  ordinary_input p kind = unknown_input p (ordinary_unknown p kind)

  pub agreed_value : (p : ℕ) → is_input_known spec fields p ≡ true → agreed_input spec fields p ≡ Some (fields.value (shown_of spec fields p 0) p 0)
  agreed_value p is = ap (λ (b : Bool). cond b (Some (fields.value (shown_of spec fields p 0) p 0)) None) is

  pub known_of : (p input : ℕ) → agreed_input spec fields p ≡ Some input → is_input_known spec fields p ≡ true
  known_of p input is = by_bool (is_input_known spec fields p) refl
    where
      by_bool : (b : Bool) → is_input_known spec fields p ≡ b → b ≡ true
      by_bool true it = refl
      by_bool false it = let none : None ≡ Some input = sym (ap (λ (b : Bool). cond b (Some (fields.value (shown_of spec fields p 0) p 0)) None) it) ∙ is in absurd cc

-- the input of a process is settled: it is the room's, or was agreed on
abbrev pub IsSettledInput : RoomSpec → Fields → ℕ → Type 0
IsSettledInput spec fields p = (is_reduction spec ≡ false) ⊎ (is_input_known spec fields p ≡ true)

pub either_kind : (b : Bool) → (b ≡ true) ⊎ (b ≡ false)
either_kind true = inl refl
either_kind false = inr refl

module _ (spec : RoomSpec) (fields : Fields) (tracks : KeepsTrack spec fields) (sound : IsSound spec fields) (knows : KnowsInputs spec fields) where
  pub known_fixed : (p : ℕ) → p < processes spec → is_input_known spec fields p ≡ true → IsFixedAt spec fields p 0
  known_fixed p within is =
      let who = who_knows spec fields p is in
      fixed_at spec fields tracks p 0 (sound.inputs who.1.0 p who.1.1 within who.0 (or_first (has_input (goal_at (fields.mind who.1.0).goals p)) (is_getting (fields.mind who.1.0).line && eqb p (fields.mind who.1.0).process) who.1.2))

  pub known_value : (p : ℕ) → p < processes spec → is_input_known spec fields p ≡ true → (shown_of spec fields p 0 < spec.simulators) × (fields.value (shown_of spec fields p 0) p 0 ≡ slice_index spec.own (shown_of spec fields p 0))
  known_value p within is = chosen_stored spec fields tracks knows p (shown_of spec fields p 0) within (who_knows spec fields p is).0 (fixed_chosen spec fields tracks knows p (known_fixed p within is))

  pub agreed_is : (p : ℕ) → p < processes spec → is_input_known spec fields p ≡ true → agreed_input spec fields p ≡ Some (slice_index spec.own (shown_of spec fields p 0))
  agreed_is p within is = agreed_value spec fields p is ∙ ap Some (known_value p within is).1

  pub input_is : (p : ℕ) → p < processes spec → is_input_known spec fields p ≡ true → input_at spec fields p ≡ slice_index spec.own (shown_of spec fields p 0)
  input_is p within is = ap (λ (o : Option ℕ). unwrap_or o (slice_index spec.inputs p)) (agreed_is p within is)

  -- a mind that works on a process with its input has that
  pub inputs_none : (i : ℕ) → i < spec.simulators → is_reduction spec ≡ false → (fields.mind i).inputs ≡ []
  inputs_none i below kind = empty_by (fields.mind i).inputs (knows.long i below ∙ ap (λ (b : Bool). cond b (processes spec) 0) kind)
    where
      empty_by : (list : List ℕ) → length list ≡ 0 → list ≡ []
      empty_by [] none = refl
      empty_by (x ∷ list) none = absurd (omega (arith, none))

  pub input_of_mind : (i : ℕ) (mind : MindOf StepMap) → i < spec.simulators → mind.inputs ≡ (fields.mind i).inputs → mind.process < processes spec → has_input (goal_at (fields.mind i).goals mind.process) ≡ true → current_input spec mind ≡ input_at spec fields mind.process
  input_of_mind i mind below same within has = elim (either_kind (is_reduction spec)) [
    | inl kind ↦
        let p = mind.process in
        let long : length (fields.mind i).inputs ≡ processes spec = knows.long i below ∙ ap (λ (b : Bool). cond b (processes spec) 0) kind in
        ap (λ (l : List ℕ). get_or l p (slice_index spec.inputs p)) same ∙ get_or_default (fields.mind i).inputs p (slice_index spec.inputs p) 0 (omega (arith, long, within))
        ∙ knows.inputs i p below within kind has ∙ sym (input_is p within (known_by spec fields i p below kind has))
    | inr kind ↦ ap (λ (l : List ℕ). get_or l mind.process (slice_index spec.inputs mind.process)) (same ∙ inputs_none i below kind) ∙ sym (ordinary_input spec fields mind.process kind)
  ]

-- ---- from one moment to the next

pub input_kept : (spec : RoomSpec) (fields after : Fields) (p : ℕ) → KeepsTrack spec fields → KeepsTrack spec after → IsSound spec fields → IsSound spec after → KnowsInputs spec fields → KnowsInputs spec after → LevelsStay spec fields after
    → ((a q : ℕ) → has_input (goal_at (fields.mind a).goals q) ≡ true → has_input (goal_at (after.mind a).goals q) ≡ true) → p < processes spec → is_input_known spec fields p ≡ true → agreed_input spec after p ≡ agreed_input spec fields p
input_kept spec fields after p tracks tracks' sound sound' knows knows' stay kept within is =
    let who = who_knows spec fields p is in
    let is' = known_by spec after who.1.0 p who.1.1 who.0 (kept who.1.0 p who.1.2) in
    let shown : shown_of spec after p 0 ≡ shown_of spec fields p 0 = ap (λ (o : Option ℕ). unwrap_or o 0) (sym (stay.least p 0 (known_fixed spec fields tracks sound knows p within is))) in
    agreed_is spec after tracks' sound' knows' p within is' ∙ ap (λ (h : ℕ). Some (slice_index spec.own h)) shown ∙ sym (agreed_is spec fields tracks sound knows p within is)

pub settled_kept : (spec : RoomSpec) (fields after : Fields) (p : ℕ) → KeepsTrack spec fields → KeepsTrack spec after → IsSound spec fields → IsSound spec after → KnowsInputs spec fields → KnowsInputs spec after → LevelsStay spec fields after
    → ((a q : ℕ) → has_input (goal_at (fields.mind a).goals q) ≡ true → has_input (goal_at (after.mind a).goals q) ≡ true) → p < processes spec → IsSettledInput spec fields p → input_at spec after p ≡ input_at spec fields p
settled_kept spec fields after p tracks tracks' sound sound' knows knows' stay kept within (inl kind) = ordinary_input spec after p kind ∙ sym (ordinary_input spec fields p kind)
settled_kept spec fields after p tracks tracks' sound sound' knows knows' stay kept within (inr is) = ap (λ (o : Option ℕ). unwrap_or o (slice_index spec.inputs p)) (input_kept spec fields after p tracks tracks' sound sound' knows knows' stay kept within is)

-- what is known of the inputs of one moment and a later one: those that are settled stay, and so they are if an agreement on a snapshot is fixed
pub record InputsStay (spec : RoomSpec) (fields after : Fields) : Type 0 where
  pub kept : (p : ℕ) → p < processes spec → IsSettledInput spec fields p → input_at spec after p ≡ input_at spec fields p
  pub settled : (p k : ℕ) → 1 ≤ k → IsFixedAt spec fields p k → (p < processes spec) × IsSettledInput spec fields p

-- a process that a simulator knows beyond its input has a settled one
pub settled_by : (spec : RoomSpec) (fields : Fields) (i p : ℕ) → i < spec.simulators → has_input (goal_at (fields.mind i).goals p) ≡ true → IsSettledInput spec fields p
settled_by spec fields i p below has = elim (either_kind (is_reduction spec)) [ inl kind ↦ inr (known_by spec fields i p below kind has) | inr kind ↦ inl kind ]

-- a simulator that has counted a write of a process, or is at another level than 0 in a later round, has its input
beyond : (rounds : ℕ) (goal : Goal) (stage : Stage) (step k : ℕ) (level : ℕ → ℕ) → Tells rounds goal stage step level → (1 ≤ step) ⊎ ((1 ≤ k) × (level k ≢ 0)) → has_input goal ≡ true
beyond rounds (goals.Write round value) stage step k level told is = refl
beyond rounds (goals.Ask round) stage step k level told is = refl
beyond rounds (goals.Propose value) stages.AtRest step k level told (inl more) = absurd (let none = told.counts in omega arith)
beyond rounds (goals.Propose value) stages.AtRest step k level told (inr is) = absurd (is.1 (told.levels.0 k (let none = told.counts in omega (arith, none))))
beyond rounds (goals.Propose value) stages.Stored step k level told is = absurd told.counts
beyond rounds (goals.Propose value) stages.Counted step k level told (inl more) = absurd (let none = told.counts in omega arith)
beyond rounds (goals.Propose value) stages.Counted step k level told (inr is) = absurd (is.1 (told.levels.0 k (let none = told.counts in omega (arith, none))))
beyond rounds (goals.Propose value) stages.Inside step k level told (inl more) = absurd (let none = told.counts in omega arith)
beyond rounds (goals.Propose value) stages.Inside step k level told (inr is) = absurd (is.1 (told.levels.0 k (let none = told.counts in let first = is.0 in omega (arith, none, first))))
beyond rounds (goals.Propose value) stages.Past step k level told (inl more) = absurd (let none = told.counts in omega arith)
beyond rounds (goals.Propose value) stages.Past step k level told (inr is) = absurd (is.1 (told.levels.0 k (let none = told.counts in let first = is.0 in omega (arith, none, first))))
beyond rounds goals.AskInput stages.AtRest step k level told (inl more) = absurd (let none = told.counts in omega arith)
beyond rounds goals.AskInput stages.AtRest step k level told (inr is) = absurd (is.1 (told.levels.0 k (let none = told.counts in let first = is.0 in omega (arith, none, first))))
beyond rounds goals.AskInput stages.Stored step k level told is = absurd told.counts
beyond rounds goals.AskInput stages.Counted step k level told is = absurd told.counts
beyond rounds goals.AskInput stages.Inside step k level told is = absurd told.counts
beyond rounds goals.AskInput stages.Past step k level told (inl more) = absurd (let none = told.counts in omega arith)
beyond rounds goals.AskInput stages.Past step k level told (inr is) = absurd (is.1 (told.levels.0 k (let none = told.counts in let first = is.0 in omega (arith, none, first))))
beyond rounds goals.Done stage step k level told is = refl
beyond rounds goals.Spent stage step k level told is = refl

pub counted_has : (spec : RoomSpec) (fields : Fields) (i p : ℕ) → KeepsTrack spec fields → 1 ≤ fields.step i p → has_input (goal_at (fields.mind i).goals p) ≡ true
counted_has spec fields i p tracks counted = beyond spec.rounds (goal_at (fields.mind i).goals p) (stage_for (fields.mind i) p) (fields.step i p) 0 (fields.level i p) (tracks.told i p) (inl counted)

pub level_has : (spec : RoomSpec) (fields : Fields) (i p k : ℕ) → KeepsTrack spec fields → 1 ≤ k → fields.level i p k ≢ 0 → has_input (goal_at (fields.mind i).goals p) ≡ true
level_has spec fields i p k tracks first is = beyond spec.rounds (goal_at (fields.mind i).goals p) (stage_for (fields.mind i) p) (fields.step i p) k (fields.level i p) (tracks.told i p) (inr (first, is))

pub fixed_settled : (spec : RoomSpec) (fields : Fields) (p k : ℕ) → KeepsTrack spec fields → KnowsInputs spec fields → 1 ≤ k → IsFixedAt spec fields p k → (p < processes spec) × IsSettledInput spec fields p
fixed_settled spec fields p k tracks knows first at =
    let other : fields.level at.simulator p k ≢ 0 = λ none. let two = at.two in omega (arith, none, two) in
    (knows.inside at.simulator p k at.below other, settled_by spec fields at.simulator p at.below (level_has spec fields at.simulator p k tracks first other))

pub inputs_stay : (spec : RoomSpec) (fields after : Fields) → KeepsTrack spec fields → KeepsTrack spec after → IsSound spec fields → IsSound spec after → KnowsInputs spec fields → KnowsInputs spec after → LevelsStay spec fields after
    → ((a q : ℕ) → has_input (goal_at (fields.mind a).goals q) ≡ true → has_input (goal_at (after.mind a).goals q) ≡ true) → InputsStay spec fields after
inputs_stay spec fields after tracks tracks' sound sound' knows knows' stay kept = record {
  kept = λ p within settled. settled_kept spec fields after p tracks tracks' sound sound' knows knows' stay kept within settled;
  settled = λ p k first at. fixed_settled spec fields p k tracks knows first at;
}

-- no input is above the greatest value
pub input_low : (spec : RoomSpec) (fields : Fields) (p : ℕ) → IsWithinLimits spec → KeepsTrack spec fields → IsSound spec fields → KnowsInputs spec fields → p < processes spec → input_at spec fields p ≤ greatest
input_low spec fields p limits tracks sound knows within = by_bool (is_input_known spec fields p) refl
  where
    by_bool : (b : Bool) → is_input_known spec fields p ≡ b → input_at spec fields p ≤ greatest
    by_bool true is = let e = input_is spec fields tracks sound knows p within is in let low = own_input_small spec (shown_of spec fields p 0) limits in omega (arith, e, low)
    by_bool false is = let e = unknown_input spec fields p is in let low = input_small spec p limits in omega (arith, e, low)

-- an open turn in the round 0 is one of a reduction
pub zero_kind : (spec : RoomSpec) (goal : Goal) → IsGoal (sizes_in spec) goal → is_unfinished goal ≡ true → round_of goal ≡ 0 → is_reduction spec ≡ true
zero_kind spec (goals.Write k value) range left none = absurd (let first = range.0 in omega (arith, none, first))
zero_kind spec (goals.Ask k) range left none = absurd (let first = range.0 in omega (arith, none, first))
zero_kind spec (goals.Propose value) range left none = range
zero_kind spec goals.AskInput range left none = range
zero_kind spec goals.Done range left none = absurd cc
zero_kind spec goals.Spent range left none = absurd cc

-- ---- the simulators' own inputs

own_long : (own : List ℕ) (version : Version) (inputs : List ℕ) (m : ℕ) → AreOwn own version inputs m → has_own own ≡ true → length own ≡ m
own_long [] version inputs m are has = absurd cc
own_long (first ∷ others) version inputs m are has = are.2

pub own_count : (spec : RoomSpec) → IsWithinLimits spec → is_reduction spec ≡ true → length spec.own ≡ spec.simulators
own_count spec limits kind = own_long spec.own spec.version spec.inputs spec.simulators limits.own kind

pub own_at : (spec : RoomSpec) (i : ℕ) → IsWithinLimits spec → i < spec.simulators → is_reduction spec ≡ true → Contains spec.own (slice_index spec.own i)
own_at spec i limits below kind = Contains-get_or spec.own i 0 (let long = own_count spec limits kind in omega (arith, long, below))

-- an input that isn't agreed on is the first simulator's
first_by : (own : List ℕ) (version : Version) (inputs : List ℕ) (m p : ℕ) → AreOwn own version inputs m → has_own own ≡ true → p < length inputs → Contains own (slice_index inputs p)
first_by [] version inputs m p are has within = absurd cc
first_by (first ∷ others) version inputs m p are has within =
    let same : slice_index inputs p ≡ first = ap (λ (l : List ℕ). slice_index l p) are.1 ∙ get_or-replicate (length inputs) p first 0 within in
    subst (Contains (first ∷ others)) (sym same) (Contains-get_or (first ∷ others) 0 0 (omega arith))

pub first_own : (spec : RoomSpec) (p : ℕ) → IsWithinLimits spec → p < processes spec → is_reduction spec ≡ true → Contains spec.own (slice_index spec.inputs p)
first_own spec p limits within kind = first_by spec.own spec.version spec.inputs spec.simulators p limits.own kind within

-- in an ordinary room each turn is in a round after that
pub ordinary_first : (spec : RoomSpec) (goal : Goal) → is_reduction spec ≡ false → IsGoal (sizes_in spec) goal → is_unfinished goal ≡ true → 1 ≤ round_of goal
ordinary_first spec (goals.Write k value) ordinary range left = range.0
ordinary_first spec (goals.Ask k) ordinary range left = range.0
ordinary_first spec (goals.Propose value) ordinary range left = absurd (let wrong : true ≡ false = sym range ∙ ordinary in cc)
ordinary_first spec goals.AskInput ordinary range left = absurd (let wrong : true ≡ false = sym range ∙ ordinary in cc)
ordinary_first spec goals.Done ordinary range left = absurd cc
ordinary_first spec goals.Spent ordinary range left = absurd cc
