-- A mind whose snapshot is a word takes the same course as the mind whose snapshot is its map.
use Rattle.std.proofs.Common.{◌≡◌, ℕ, zero, suc, ◌+◌, ◌-◌, ◌<◌, ◌≤◌, Bool, true, false, cond, eqb, ltb, List, [], ◌∷◌, ◌++◌, length, Option, Some, None, refl, sym, ap, ◌∙◌, arith}
use Rattle.std.proofs.lemmas.List.{length-append}
use Rattle.protocol_lang.specs.Meaning.{next_action}
use Rattle.protocol_lang.specs.declared.meaning.Action.{Action}
use Rattle.protocol_lang.specs.declared.meaning.Action.TheVariants as actions
use Rattle.room_spec.specs.Rooms.{RoomSpec, processes}
use Rattle.room_spec.specs.Sizes.{Sizes}
use Rattle.std.specs.Prelude.{◌&&◌, ◌||◌}
use Rattle.simulator.specs.declared.goal.Goal.{Goal}
use Rattle.simulator.specs.declared.goal.Goal.TheVariants as goals
use Rattle.simulator.specs.declared.line.Line.TheVariants.{Snap, Show, Enter, GetView, Values}
use Rattle.simulator.specs.Minds.{MindOf, goal_at, current_input, current_round}
use Rattle.simulator.specs.Turns.{TakenOf, begun, collected, goes_on, got_view, most_collects, scanned, showed, snapped, words_in, asked, acted, padded, gathered_all, gathered, opened_at, opened}
use Rattle.simulator.proofs.CallerLemmas.{added, added_more}
use Rattle.room_core.specs.Fields.{StepMap}
use Rattle.room_core.specs.Reading.{worded}

abbrev pub worded_taken : Sizes → TakenOf StepMap → TakenOf (List ℕ)
worded_taken sizes taken = record { mind = worded sizes taken.mind; turn = taken.turn }

pub same_padded : (row other : ℕ → ℕ) (n more : ℕ) (entries : List (Option ℕ)) → length entries + more ≤ n → ((p : ℕ) → p < n → row p ≡ other p) → added row more entries ≡ added other more entries
same_padded row other n zero entries fits same = refl
same_padded row other n (suc more) entries fits same =
    let nothing : List (Option ℕ) = None ∷ [] in
    let one = length-append entries nothing in
    added_more row more entries
    ∙ ap (λ (x : ℕ). cond (eqb x 0) (added row more (entries ++ None ∷ [])) entries) (same (length entries) (omega arith))
    ∙ ap (λ (l : List (Option ℕ)). cond (eqb (other (length entries)) 0) l entries) (same_padded row other n more (entries ++ None ∷ []) (omega arith) same)
    ∙ sym (added_more other more entries)

module _ (sizes : Sizes) (spec : RoomSpec) where
  pub asked_worded : (chosen : Option ℕ) (mind : MindOf StepMap) → asked chosen (worded sizes mind) ≡ worded_taken sizes (asked chosen mind)
  asked_worded None mind = refl
  asked_worded (Some chosen) mind = refl

  opened_at_worded : (goal : Goal) (chosen : Option ℕ) (mind : MindOf StepMap) → opened_at goal chosen (worded sizes mind) ≡ worded_taken sizes (opened_at goal chosen mind)
  opened_at_worded (goals.Write k value) chosen mind = refl
  opened_at_worded (goals.Ask k) chosen mind = asked_worded chosen mind
  opened_at_worded (goals.Propose value) chosen mind = refl
  opened_at_worded goals.AskInput chosen mind = asked_worded chosen mind
  opened_at_worded goals.Done chosen mind = refl
  opened_at_worded goals.Spent chosen mind = refl

  pub opened_worded : (next chosen : Option ℕ) (mind : MindOf StepMap) → opened next chosen (worded sizes mind) ≡ worded_taken sizes (opened next chosen mind)
  opened_worded None chosen mind = refl
  opened_worded (Some process) chosen mind = opened_at_worded (goal_at mind.goals process) chosen (begun process mind)

  acted_worded : (action : Action) (mind : MindOf StepMap) → acted spec action (worded sizes mind) ≡ worded_taken sizes (acted spec action mind)
  acted_worded (actions.Write value) mind = refl
  acted_worded (actions.Decide decision) mind = refl

  all_worded : (b : Bool) (action : Action) (mind : MindOf StepMap) → cond b (goes_on Values (worded sizes mind)) (acted spec action (worded sizes mind)) ≡ worded_taken sizes (cond b (goes_on Values mind) (acted spec action mind))
  all_worded true action mind = refl
  all_worded false action mind = acted_worded action mind

  gathered_all_worded : (mind : MindOf StepMap) → gathered_all spec (worded sizes mind) ≡ worded_taken sizes (gathered_all spec mind)
  gathered_all_worded mind = all_worded (ltb (length mind.entries) (processes spec)) (next_action spec.protocol (current_input spec mind) mind.process (current_round mind) mind.entries) mind

  pub gathered_worded : (row other : ℕ → ℕ) (entries : List (Option ℕ)) (mind : MindOf StepMap) → length entries ≤ processes spec → ((p : ℕ) → p < processes spec → row p ≡ other p) → gathered row spec entries (worded sizes mind) ≡ worded_taken sizes (gathered other spec entries mind)
  gathered_worded row other entries mind fits same =
      ap (λ (l : List (Option ℕ)). gathered_all spec (record (worded sizes mind) { entries = l })) (same_padded row other (processes spec) (processes spec - length entries) entries (omega arith) same)
      ∙ gathered_all_worded (record mind { entries = padded other (processes spec) entries })

  -- ---- scans

  of_both : (b : Bool) (one other : TakenOf StepMap) → cond b (worded_taken sizes one) (worded_taken sizes other) ≡ worded_taken sizes (cond b one other)
  of_both true one other = refl
  of_both false one other = refl

  collected_worded : (same : Bool) (mind : MindOf StepMap) → collected spec same (worded sizes mind) ≡ worded_taken sizes (collected spec same mind)
  collected_worded same mind = of_both ((same && ltb 1 mind.collects) || eqb mind.collects (most_collects spec)) (goes_on Show mind) (goes_on Snap (record mind { before = mind.snapshot }))

  scanned_worded : (same : Bool) (mind : MindOf StepMap) → scanned spec same (worded sizes mind) ≡ worded_taken sizes (scanned spec same mind)
  scanned_worded same mind =
      let more = record mind { collects = mind.collects + 1 } in
      ap (λ (t : TakenOf (List ℕ)). cond (eqb (words_in spec) 1) (goes_on Show (worded sizes mind)) t) (collected_worded same more)
      ∙ of_both (eqb (words_in spec) 1) (goes_on Show mind) (collected spec same more)

  pub snapped_worded : (same : Bool) (mind : MindOf StepMap) → snapped spec same (worded sizes mind) ≡ worded_taken sizes (snapped spec same mind)
  snapped_worded same mind =
      let next = goes_on Snap (record mind { word = mind.word + 1 }) in
      ap (λ (t : TakenOf (List ℕ)). cond (ltb (mind.word + 1) (words_in spec)) (worded_taken sizes next) t) (scanned_worded same (record mind { word = 0 }))
      ∙ of_both (ltb (mind.word + 1) (words_in spec)) next (scanned spec same (record mind { word = 0 }))

  pub showed_worded : (mind : MindOf StepMap) → showed spec (worded sizes mind) ≡ worded_taken sizes (showed spec mind)
  showed_worded mind = of_both (ltb (mind.word + 1) (words_in spec)) (goes_on Show (record mind { word = mind.word + 1 })) (goes_on Enter (record mind { word = 0 }))

  pub got_view_worded : (row other : ℕ → ℕ) (chosen : ℕ) (mind : MindOf StepMap) → ((p : ℕ) → p < processes spec → row p ≡ other p) → got_view row spec chosen (worded sizes mind) ≡ worded_taken sizes (got_view other spec chosen mind)
  got_view_worded row other chosen mind same =
      let next = goes_on (GetView chosen) (record mind { word = mind.word + 1 }) in
      ap (λ (t : TakenOf (List ℕ)). cond (ltb (mind.word + 1) (words_in spec)) (worded_taken sizes next) t) (gathered_worded row other [] (record mind { word = 0 }) (omega arith) same)
      ∙ of_both (ltb (mind.word + 1) (words_in spec)) next (gathered other spec [] (record mind { word = 0 }))

-- ---- what a scan may make of a mind

either : {A : Type 0} (P : A → Type 0) (b : Bool) (one other : A) → P one → P other → P (cond b one other)
either P true one other is is' = is
either P false one other is is' = is'

module _ (P : TakenOf StepMap → Type 0) (spec : RoomSpec) (mind : MindOf StepMap) where
  pub snapped_by : (same : Bool) → P (goes_on Snap (record mind { word = mind.word + 1 })) → P (goes_on Show (record mind { word = 0 })) → P (goes_on Show (record mind { word = 0; collects = mind.collects + 1 }))
      → P (goes_on Snap (record mind { word = 0; collects = mind.collects + 1; before = mind.snapshot })) → P (snapped spec same mind)
  snapped_by same next one ends again =
      let more = record mind { word = 0; collects = mind.collects + 1 } in
      either P (ltb (mind.word + 1) (words_in spec)) (goes_on Snap (record mind { word = mind.word + 1 })) (scanned spec same (record mind { word = 0 })) next
      (either P (eqb (words_in spec) 1) (goes_on Show (record mind { word = 0 })) (collected spec same more) one
      (either P ((same && ltb 1 (mind.collects + 1)) || eqb (mind.collects + 1) (most_collects spec)) (goes_on Show more) (goes_on Snap (record more { before = mind.snapshot })) ends again))

  pub showed_by : P (goes_on Show (record mind { word = mind.word + 1 })) → P (goes_on Enter (record mind { word = 0 })) → P (showed spec mind)
  showed_by next last = either P (ltb (mind.word + 1) (words_in spec)) (goes_on Show (record mind { word = mind.word + 1 })) (goes_on Enter (record mind { word = 0 })) next last

  pub got_view_by : (row : ℕ → ℕ) (chosen : ℕ) → P (goes_on (GetView chosen) (record mind { word = mind.word + 1 })) → P (gathered row spec [] (record mind { word = 0 })) → P (got_view row spec chosen mind)
  got_view_by row chosen next last = either P (ltb (mind.word + 1) (words_in spec)) (goes_on (GetView chosen) (record mind { word = mind.word + 1 })) (gathered row spec [] (record mind { word = 0 })) next last
