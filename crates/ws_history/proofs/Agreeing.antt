-- Fields that are the same at each simulator, process and round have the same agreements.
use Rattle.std.proofs.Common.{◌≡◌, ℕ, zero, suc, ◌+◌, ◌-◌, ◌<◌, ◌≤◌, Bool, true, cond, eqb, List, length, map, get_or, Option, Some, None, refl, inl, inr, sym, ap, ◌∙◌, subst, arith}
use Rattle.std.proofs.lemmas.Bool.{cases_Bool, cases_lt, lt-ltb, le-ltb}
use Rattle.std.proofs.lemmas.List.FromFn.{length-map-range_with_len}
use Rattle.std.specs.Prelude.{not, position, unwrap_or, nat_le, nat_lt, ◌==◌, ◌&&◌, ◌||◌, slice_index}
use Rattle.std.specs.List.{find, list_any, position_or_len, range_with_len}
use Rattle.std.specs.Option.{option_map}
use Rattle.protocol_lang.specs.Meaning.{next_action}
use Rattle.room_spec.specs.Rooms.{RoomSpec, is_reduction, processes, with_inputs}
use Rattle.room_spec.specs.Sizes.{sizes_in}
use Rattle.safe_agreement.specs.Levels.{has_level, least_two}
use Rattle.sim_memory.specs.Steps.{AreSameSteps}
use Rattle.sim_memory.proofs.CallerLemmas.{merged_same, row_same}
use Rattle.view_table.specs.Places.{IsAgreementRound}
use Rattle.view_table.proofs.CallerLemmas.{agreement_round, zero_agreed}
use Rattle.room_core.specs.Agreements.{agreed_input, asks, decided_in, first_with, greatest_step, has_looked_blind, has_out, input_at, is_resolved, is_fixed, is_input_known, is_out, is_passed, leaves_blind, outs_at, row_at, run_spec, shown, shown_by, shown_of, view_at, written}
use Rattle.simulator.specs.Minds.{MindOf, current_round, goal_at, has_input}
use Rattle.room_core.specs.Fields.{Fields, StepMap, levels_at}
use Rattle.room_core.specs.Reading.{AgreeIn}
use Rattle.ws_history.proofs.RunSpecs.{none_agreed}
use Rattle.ws_history.proofs.Walking.{map_same}

found_low : {A : Type 0} (p : A → Bool) (xs : List A) → 0 < length xs → unwrap_or (position p xs) 0 < length xs
found_low p xs some = elim (cases_lt (position_or_len p xs) (length xs)) [
  | inl less ↦ let yes_it = lt-ltb (position_or_len p xs) (length xs) less in rw yes_it less
  | inr past ↦ let no_it = le-ltb (position_or_len p xs) (length xs) past in rw no_it some
]

-- whose proposal is shown is a simulator of the room
pub shown_low : (spec : RoomSpec) (fields : Fields) → 0 < spec.simulators → (j k : ℕ) → shown_of spec fields j k < spec.simulators
shown_low spec fields some j k =
    let long = length-map-range_with_len (λ (i : ℕ). fields.level i j k) 0 spec.simulators in
    subst (λ (m : ℕ). shown_of spec fields j k < m) long (found_low (λ (one : ℕ). one == 2) (levels_at spec fields j k) (omega (arith, long, some)))

any_same : (p q : ℕ → Bool) (a n : ℕ) → ((i : ℕ) → a ≤ i → i < a + n → p i ≡ q i) → list_any p (range_with_len a n) ≡ list_any q (range_with_len a n)
any_same p q a zero same = refl
any_same p q a (suc n) same =
    ap (λ (b : Bool). b || list_any p (range_with_len (a + 1) n)) (same a (omega arith) (omega arith))
    ∙ ap (λ (b : Bool). q a || b) (any_same p q (a + 1) n (λ i low high. same i (omega (arith, low)) (omega (arith, high))))

module _ (spec : RoomSpec) (F G : Fields) (some : 0 < spec.simulators) (agree : AgreeIn (sizes_in spec) F G) where
  pub same_greatest : (p : ℕ) → p < processes spec → greatest_step spec F p ≡ greatest_step spec G p
  same_greatest p below = merged_same spec.simulators (processes spec) F.step G.step p below agree.step

  same_outs : (j : ℕ) → j < processes spec → outs_at spec F j ≡ outs_at spec G j
  same_outs j below = map_same _ _ 0 spec.simulators (λ i low high. agree.out i j (omega arith) below)

  pub same_decided : (j : ℕ) → j < processes spec → decided_in spec F j ≡ decided_in spec G j
  same_decided j below = ap (λ (l : List ℕ). option_map (λ (out : ℕ). out - 1) (find is_out l)) (same_outs j below)

  pub same_out : (j : ℕ) → j < processes spec → has_out spec F j ≡ has_out spec G j
  same_out j below = ap (λ (l : List ℕ). list_any is_out l) (same_outs j below)

  pub same_levels_in : (j k : ℕ) → j < processes spec → IsAgreementRound (sizes_in spec) k → levels_at spec F j k ≡ levels_at spec G j k
  same_levels_in j k below round = map_same _ _ 0 spec.simulators (λ i low high. agree.level i j k (omega arith) below round)

  pub same_levels : (j k : ℕ) → j < processes spec → 1 ≤ k → k ≤ spec.rounds → levels_at spec F j k ≡ levels_at spec G j k
  same_levels j k below first last = same_levels_in j k below (agreement_round (sizes_in spec) k (first, last))

  pub same_resolved : (j k : ℕ) → j < processes spec → 1 ≤ k → k ≤ spec.rounds → is_resolved spec F j k ≡ is_resolved spec G j k
  same_resolved j k below first last = ap (λ (l : List ℕ). has_level 2 l && not (has_level 1 l)) (same_levels j k below first last)

  pub same_passed : (j k : ℕ) → j < processes spec → 1 ≤ k → k ≤ spec.rounds → is_passed spec F j k ≡ is_passed spec G j k
  same_passed j k below first last =
      ap (λ (b : Bool). b || nat_lt k (greatest_step spec F j) || (has_out spec F j && (greatest_step spec F j == k))) (same_resolved j k below first last)
      ∙ ap (λ (g : ℕ). is_resolved spec G j k || nat_lt k g || (has_out spec F j && (g == k))) (same_greatest j below)
      ∙ ap (λ (l : List ℕ). is_resolved spec G j k || nat_lt k (greatest_step spec G j) || (list_any is_out l && (greatest_step spec G j == k))) (same_outs j below)

  pub same_fixed_in : (j k : ℕ) → j < processes spec → IsAgreementRound (sizes_in spec) k → is_fixed spec F j k ≡ is_fixed spec G j k
  same_fixed_in j k below round =
      ap (λ (l : List ℕ). has_level 2 l && not (list_any (λ i. has_looked_blind F i j k) (range_with_len 0 spec.simulators))) (same_levels_in j k below round)
      ∙ ap (λ (b : Bool). has_level 2 (levels_at spec G j k) && not b) (any_same (λ i. has_looked_blind F i j k) (λ i. has_looked_blind G i j k) 0 spec.simulators (λ i low high. same_blind i (omega (arith, high))))
    where
      blind_on : MindOf StepMap → Bool
      blind_on mind = leaves_blind mind.line && ((mind.process == j) && (current_round mind == k))

      same_blind : (i : ℕ) → i < spec.simulators → has_looked_blind F i j k ≡ has_looked_blind G i j k
      same_blind i low = ap blind_on (agree.mind i low).rest

  pub same_fixed : (j k : ℕ) → j < processes spec → 1 ≤ k → k ≤ spec.rounds → is_fixed spec F j k ≡ is_fixed spec G j k
  same_fixed j k below first last = same_fixed_in j k below (agreement_round (sizes_in spec) k (first, last))

  pub same_shown_in : (j k : ℕ) → j < processes spec → IsAgreementRound (sizes_in spec) k → shown_of spec F j k ≡ shown_of spec G j k
  same_shown_in j k below round = ap (λ (l : List ℕ). unwrap_or (least_two l) 0) (same_levels_in j k below round)

  pub same_shown : (j k : ℕ) → j < processes spec → 1 ≤ k → k ≤ spec.rounds → shown_of spec F j k ≡ shown_of spec G j k
  same_shown j k below first last = same_shown_in j k below (agreement_round (sizes_in spec) k (first, last))

  view_same : (j k : ℕ) → j < processes spec → 1 ≤ k → k ≤ spec.rounds → AreSameSteps spec.simulators (processes spec) (view_at spec F j k) (view_at spec G j k)
  view_same j k below first last =
      let same : shown_of spec F j k ≡ shown_of spec G j k = ap (λ (l : List ℕ). unwrap_or (least_two l) 0) (same_levels j k below first last) in
      let long = length-map-range_with_len (λ (i : ℕ). G.level i j k) 0 spec.simulators in
      let low : shown_of spec G j k < spec.simulators = subst (λ (m : ℕ). shown_of spec G j k < m) long (found_low (λ (one : ℕ). one == 2) (levels_at spec G j k) (omega arith)) in
      subst (λ (h : ℕ). AreSameSteps spec.simulators (processes spec) (F.view h j k) (G.view (shown_of spec G j k) j k)) (sym same)
      (agree.view (shown_of spec G j k) j k low below (first, last))

  pub same_row : (j k : ℕ) → j < processes spec → 1 ≤ k → k ≤ spec.rounds → row_at spec F j k ≡ row_at spec G j k
  same_row j k below first last = row_same spec.simulators (processes spec) _ _ (view_same j k below first last)

  pub same_written : (p r : ℕ) → p < processes spec → 1 ≤ r → r ≤ spec.rounds → written spec F p r ≡ written spec G p r
  same_written p r below first last =
      let steps = map_same (λ (i : ℕ). F.step i p) (λ (i : ℕ). G.step i p) 0 spec.simulators (λ i low high. agree.step i p (omega arith) below) in
      let same : first_with spec F p r ≡ first_with spec G p r = ap (λ (l : List ℕ). unwrap_or (position (λ (step : ℕ). nat_le r step) l) 0) steps in
      let long = length-map-range_with_len (λ (i : ℕ). G.step i p) 0 spec.simulators in
      let low : first_with spec G p r < spec.simulators = subst (λ (m : ℕ). first_with spec G p r < m) long (found_low (λ (step : ℕ). nat_le r step) (map (λ (i : ℕ). G.step i p) (range_with_len 0 spec.simulators)) (omega arith)) in
      ap (λ (h : ℕ). F.value h p r) same ∙ agree.value (first_with spec G p r) p r low below (agreement_round (sizes_in spec) r (first, last))

  pub same_value : (p r : ℕ) → p < processes spec → r ≤ spec.rounds → shown spec F p r ≡ shown spec G p r
  same_value p zero below last = refl
  same_value p (suc r) below last = ap (λ (x : ℕ). cond (eqb (suc r) 0) None (Some x)) (same_written p (suc r) below (omega arith) last)

  pub same_view : (row : List ℕ) → ((p : ℕ) → get_or row p 0 ≤ spec.rounds) → shown_by spec F row ≡ shown_by spec G row
  same_view row low = map_same _ _ 0 (processes spec) (λ p least below. same_value p (get_or row p 0) (omega arith) (low p))

  -- ---- inputs

  pub same_known : (j : ℕ) → is_input_known spec F j ≡ is_input_known spec G j
  same_known j =
      ap (λ (b : Bool). is_reduction spec && b)
      (any_same (λ i. has_input (goal_at (F.mind i).goals j)) (λ i. has_input (goal_at (G.mind i).goals j)) 0 spec.simulators (λ i low high. same_goal i (omega (arith, high))))
    where
      same_goal : (i : ℕ) → i < spec.simulators → has_input (goal_at (F.mind i).goals j) ≡ has_input (goal_at (G.mind i).goals j)
      same_goal i low = ap (λ (mind : MindOf StepMap). has_input (goal_at mind.goals j)) (agree.mind i low).rest

  same_chosen_input : (j : ℕ) → j < processes spec → is_reduction spec ≡ true → F.value (shown_of spec F j 0) j 0 ≡ G.value (shown_of spec G j 0) j 0
  same_chosen_input j below is =
      let round = zero_agreed (sizes_in spec) is in
      ap (λ (h : ℕ). F.value h j 0) (same_shown_in j 0 below round)
      ∙ agree.value (shown_of spec G j 0) j 0 (shown_low spec G some j 0) below round

  pub same_agreed : (j : ℕ) → j < processes spec → agreed_input spec F j ≡ agreed_input spec G j
  same_agreed j below = elim (cases_Bool (is_reduction spec)) [
    | inl is ↦
        ap (λ (b : Bool). cond b (Some (F.value (shown_of spec F j 0) j 0)) None) (same_known j)
        ∙ ap (λ (v : ℕ). cond (is_input_known spec G j) (Some v) None) (same_chosen_input j below is)
    | inr is ↦ none_agreed spec F is j ∙ sym (none_agreed spec G is j)
  ]

  pub same_input : (j : ℕ) → j < processes spec → input_at spec F j ≡ input_at spec G j
  same_input j below = ap (λ (o : Option ℕ). unwrap_or o (slice_index spec.inputs j)) (same_agreed j below)

  pub same_run : run_spec spec F ≡ run_spec spec G
  same_run = ap (λ (l : List ℕ). cond (is_reduction spec) (with_inputs spec l) spec) (map_same _ _ 0 (processes spec) (λ j low high. same_input j (omega (arith, high))))

  pub same_asks : (j k : ℕ) → j < processes spec → 1 ≤ k → k ≤ spec.rounds → ((p : ℕ) → get_or (row_at spec F j k) p 0 ≤ spec.rounds) → asks spec F j k ≡ asks spec G j k
  same_asks j k below first last low =
      ap (λ (x : ℕ). next_action spec.protocol x j k (shown_by spec F (row_at spec F j k))) (same_input j below)
      ∙ ap (λ (l : List (Option ℕ)). next_action spec.protocol (input_at spec G j) j k l)
      (same_view (row_at spec F j k) low ∙ ap (λ (row : List ℕ). shown_by spec G row) (same_row j k below first last))
