-- Words of which enough is the same end alike.
use Rattle.std.proofs.Common.{◌≡◌, ℕ, zero, suc, ◌+◌, ◌-◌, ◌<◌, ◌≤◌, Bool, true, false, cond, eqb, List, [], ◌∷◌, length, map, get_or, min, Option, Some, None, refl, sym, ap, ◌∙◌, subst, arith, inl, inr}
use Rattle.std.specs.Prelude.{not, position, unwrap_or, nat_le, ◌&&◌}
use Rattle.std.specs.List.{find, position_or_len, range_with_len}
use Rattle.std.specs.Option.{option_map}
use Rattle.std.proofs.lemmas.Bool.{and_parts, cases_Bool, cases_lt, eq-eqb, lt-ltb, le-ltb, true≢false}
use Rattle.std.proofs.lemmas.List.FromFn.{get_or-map-range_with_len, length-map-range_with_len}
use Rattle.protocol_lang.specs.Numbers.{greatest}
use Rattle.protocol_lang.specs.Meaning.{next_action}
use Rattle.protocol_lang.specs.declared.meaning.Action.{Action}
use Rattle.room_spec.specs.Rooms.{IsWithinLimits, RoomSpec, is_reduction, processes}
use Rattle.room_spec.specs.Sizes.{memory_words, sizes_in}
use Rattle.level_cells.specs.Fields.{level_of}
use Rattle.safe_agreement.specs.Levels.{has_level, least_two}
use Rattle.safe_agreement.specs.Levels as agreement
use Rattle.safe_agreement.proofs.CallerLemmas.{least_two_found, least_two_is, no_level_from}
use Rattle.view_table.specs.Places.{IsAgreementRound, IsPlace, index_of}
use Rattle.view_table.proofs.CallerLemmas.{agreement_round, zero_agreed}
use Rattle.view_table.specs.Words.{word_at}
use Rattle.view_table.specs.declared.place.Place.{Place}
use Rattle.view_table.specs.declared.place.Place.TheVariants as places
use Rattle.sim_memory.specs.Steps.{merged_of, row_of, step_in}
use Rattle.sim_memory.proofs.CallerLemmas.{merged_below, step_below}
use Rattle.room_core.specs.Agreements.{asks, decided_in, first_with, input_at, is_resolved, is_out, outs_at, row_at, shown, shown_by, shown_of, view_at, written}
use Rattle.room_core.specs.Fields.{StepMap, levels_at}
use Rattle.room_core.specs.Reading.{words_from}
use Rattle.room_core.specs.Settled.{is_write}
use Rattle.ws_history.specs.Reports.{is_spent, state_by}
use Rattle.ws_history.proofs.CallerLemmas.{ordinary_input}
use Rattle.room_outcomes.specs.Ends.{end_of}
use Rattle.room_search.specs.Ends.{DoEnd, SaysEnough, counts, end_by, ends_by, fields_by}
use Rattle.room_search.specs.Saying.{DoSay, heard}
use Rattle.room_search.proofs.Inputs.{input_by_words}

map_same : {A : Type 0} (f g : ℕ → A) (a n : ℕ) → ((p : ℕ) → a ≤ p → p < a + n → f p ≡ g p) → map f (range_with_len a n) ≡ map g (range_with_len a n)
map_same f g a zero same = refl
map_same {A = A} f g a (suc n) same =
    ap (λ (x : A). x ∷ map f (range_with_len (a + 1) n)) (same a (omega arith) (omega arith))
    ∙ ap (λ (l : List A). g a ∷ l) (map_same f g (a + 1) n (λ p low high. same p (omega (arith, low)) (omega (arith, high))))

found_low : {A : Type 0} (p : A → Bool) (xs : List A) → 0 < length xs → unwrap_or (position p xs) 0 < length xs
found_low p xs some = elim (cases_lt (position_or_len p xs) (length xs)) [
  | inl less ↦ let yes_it = lt-ltb (position_or_len p xs) (length xs) less in rw yes_it less
  | inr past ↦ let no_it = le-ltb (position_or_len p xs) (length xs) past in rw no_it some
]

no_two : (levels : List ℕ) → least_two levels ≡ None → has_level 2 levels ≡ false
no_two levels none = no_level_from 2 levels (λ i below two. let found = least_two_found levels i below two in absurd (cc))

-- the proposal that a resolved agreement shows is at level 2
two_by : (levels : List ℕ) (least : Option ℕ) → least_two levels ≡ least → agreement.is_resolved levels ≡ true → get_or levels (unwrap_or least 0) 0 ≡ 2
two_by levels (Some k) is resolved = (least_two_is levels k is).two
two_by levels None is resolved = absurd (true≢false (sym (and_parts (has_level 2 levels) (not (has_level 1 levels)) resolved).0 ∙ no_two levels is))

module _ (spec : RoomSpec) (limits : IsWithinLimits spec) (a b : List ℕ) (agree : (place : Place) → IsPlace (sizes_in spec) place → counts spec b place ≡ true → word_at (sizes_in spec) a place ≡ word_at (sizes_in spec) b place) where
  some : 0 < spec.simulators
  some = let least = limits.shape.m_range.0 in omega (arith, least)

  rounds : 1 ≤ spec.rounds
  rounds = limits.shape.rounds_range.0

  same_outs : (j : ℕ) → j < processes spec → outs_at spec (fields_by spec a) j ≡ outs_at spec (fields_by spec b) j
  same_outs j below = map_same _ _ 0 spec.simulators (λ i low high. ap (λ (x : ℕ). min x (greatest + 1)) (agree (places.Out i j) (omega (arith, high), below) refl))

  same_decided : (j : ℕ) → j < processes spec → decided_in spec (fields_by spec a) j ≡ decided_in spec (fields_by spec b) j
  same_decided j below = ap (λ (l : List ℕ). option_map (λ (out : ℕ). out - 1) (find is_out l)) (same_outs j below)

  same_levels_in : (j k : ℕ) → j < processes spec → IsAgreementRound (sizes_in spec) k → levels_at spec (fields_by spec a) j k ≡ levels_at spec (fields_by spec b) j k
  same_levels_in j k below round = map_same _ _ 0 spec.simulators (λ i low high. ap (λ (x : ℕ). level_of x i) (agree (places.Levels j k) (below, round) refl))

  same_levels : (j k : ℕ) → j < processes spec → 1 ≤ k → k ≤ spec.rounds → levels_at spec (fields_by spec a) j k ≡ levels_at spec (fields_by spec b) j k
  same_levels j k below first last = same_levels_in j k below (agreement_round (sizes_in spec) k (first, last))

  same_resolved : (j k : ℕ) → j < processes spec → 1 ≤ k → k ≤ spec.rounds → is_resolved spec (fields_by spec a) j k ≡ is_resolved spec (fields_by spec b) j k
  same_resolved j k below first last = ap agreement.is_resolved (same_levels j k below first last)

  same_shown : (j k : ℕ) → j < processes spec → 1 ≤ k → k ≤ spec.rounds → shown_of spec (fields_by spec a) j k ≡ shown_of spec (fields_by spec b) j k
  same_shown j k below first last = ap (λ (l : List ℕ). unwrap_or (least_two l) 0) (same_levels j k below first last)

  shown_low : (j k : ℕ) → shown_of spec (fields_by spec b) j k < spec.simulators
  shown_low j k =
      let long = length-map-range_with_len (λ (i : ℕ). (fields_by spec b).level i j k) 0 spec.simulators in
      subst (λ (m : ℕ). shown_of spec (fields_by spec b) j k < m) long (found_low (λ (one : ℕ). eqb one 2) (levels_at spec (fields_by spec b) j k) (omega (arith, long, some)))

  -- the level of the simulator whose proposal is shown
  shown_two : (j k : ℕ) → is_resolved spec (fields_by spec b) j k ≡ true → (fields_by spec b).level (shown_of spec (fields_by spec b) j k) j k ≡ 2
  shown_two j k resolved =
      let who = shown_of spec (fields_by spec b) j k in
      sym (get_or-map-range_with_len (λ (i : ℕ). (fields_by spec b).level i j k) 0 spec.simulators who who 0 (let low = shown_low j k in omega (arith, low)) (omega arith))
      ∙ two_by (levels_at spec (fields_by spec b) j k) (least_two (levels_at spec (fields_by spec b) j k)) refl resolved

  same_view : (j k : ℕ) → j < processes spec → 1 ≤ k → k ≤ spec.rounds → is_resolved spec (fields_by spec b) j k ≡ true → view_at spec (fields_by spec a) j k ≡ view_at spec (fields_by spec b) j k
  same_view j k below first last resolved =
      let who = shown_of spec (fields_by spec b) j k in
      let words : words_from (sizes_in spec) a (places.View who j k) ≡ words_from (sizes_in spec) b (places.View who j k) =
      map_same _ _ 0 (memory_words (sizes_in spec)) (λ w low high. agree (places.View who j k w) (shown_low j k, below, (first, last), omega (arith, high)) (eq-eqb _ _ (shown_two j k resolved))) in
      ap (λ (i : ℕ). (fields_by spec a).view i j k) (same_shown j k below first last) ∙ ap (λ (l : List ℕ). step_in (sizes_in spec) l) words

  same_row : (j k : ℕ) → j < processes spec → 1 ≤ k → k ≤ spec.rounds → is_resolved spec (fields_by spec b) j k ≡ true → row_at spec (fields_by spec a) j k ≡ row_at spec (fields_by spec b) j k
  same_row j k below first last resolved = ap (λ (steps : StepMap). row_of spec.simulators (processes spec) steps) (same_view j k below first last resolved)

  same_steps : (fields_by spec a).step ≡ (fields_by spec b).step
  same_steps = ap (λ (l : List ℕ). step_in (sizes_in spec) l) (map_same _ _ 0 (memory_words (sizes_in spec)) (λ w low high. agree (places.Memory w) (omega (arith, high)) refl))

  same_written : (p r : ℕ) → p < processes spec → 1 ≤ r → r ≤ spec.rounds → written spec (fields_by spec a) p r ≡ written spec (fields_by spec b) p r
  same_written p r below first last =
      let who = first_with spec (fields_by spec b) p r in
      let same : first_with spec (fields_by spec a) p r ≡ who = ap (λ (step : StepMap). unwrap_or (position (λ (one : ℕ). nat_le r one) (map (λ (i : ℕ). step i p) (range_with_len 0 spec.simulators))) 0) same_steps in
      let long = length-map-range_with_len (λ (i : ℕ). (fields_by spec b).step i p) 0 spec.simulators in
      let low : who < spec.simulators = subst (λ (m : ℕ). who < m) long (found_low (λ (step : ℕ). nat_le r step) (map (λ (i : ℕ). (fields_by spec b).step i p) (range_with_len 0 spec.simulators)) (omega (arith, long, some))) in
      ap (λ (i : ℕ). (fields_by spec a).value i p r) same ∙ ap (λ (x : ℕ). min x greatest) (agree (places.Value who p r) (low, below, agreement_round (sizes_in spec) r (first, last)) refl)

  same_value : (p r : ℕ) → p < processes spec → r ≤ spec.rounds → shown spec (fields_by spec a) p r ≡ shown spec (fields_by spec b) p r
  same_value p zero below last = refl
  same_value p (suc r) below last = ap (λ (x : ℕ). cond (eqb (suc r) 0) None (Some x)) (same_written p (suc r) below (omega arith) last)

  same_shown_by : (row : List ℕ) → ((p : ℕ) → p < processes spec → get_or row p 0 ≤ spec.rounds) → shown_by spec (fields_by spec a) row ≡ shown_by spec (fields_by spec b) row
  same_shown_by row low = map_same _ _ 0 (processes spec) (λ p least below. same_value p (get_or row p 0) (omega (arith, below)) (low p (omega (arith, below))))

  row_low : (j k p : ℕ) → p < processes spec → get_or (row_at spec (fields_by spec b) j k) p 0 ≤ spec.rounds
  row_low j k p below =
      let steps = view_at spec (fields_by spec b) j k in
      let words = words_from (sizes_in spec) b (places.View (shown_of spec (fields_by spec b) j k) j k) in
      let at = get_or-map-range_with_len (λ (q : ℕ). merged_of spec.simulators steps q) 0 (processes spec) p p 0 (omega (arith, below)) (omega arith) in
      let most = merged_below spec.simulators steps p spec.rounds (λ i low. step_below (sizes_in spec) words i p) in
      subst (λ (x : ℕ). x ≤ spec.rounds) (sym at) most

  same_input : (j : ℕ) → j < processes spec → input_at spec (fields_by spec a) j ≡ input_at spec (fields_by spec b) j
  same_input j below = elim (cases_Bool (is_reduction spec)) [
    | inl kind ↦
        let round = zero_agreed (sizes_in spec) kind in
        let who : shown_of spec (fields_by spec a) j 0 ≡ shown_of spec (fields_by spec b) j 0 = ap (λ (l : List ℕ). unwrap_or (least_two l) 0) (same_levels_in j 0 below round) in
        input_by_words spec a j some kind
        ∙ ap (λ (i : ℕ). (fields_by spec a).value i j 0) who
        ∙ ap (λ (x : ℕ). min x greatest) (agree (places.Value (shown_of spec (fields_by spec b) j 0) j 0) (shown_low j 0, below, round) refl)
        ∙ sym (input_by_words spec b j some kind)
    | inr kind ↦ ordinary_input spec (fields_by spec a) kind j ∙ sym (ordinary_input spec (fields_by spec b) kind j)
  ]

  same_asks : (j k : ℕ) → j < processes spec → 1 ≤ k → k ≤ spec.rounds → is_resolved spec (fields_by spec b) j k ≡ true → asks spec (fields_by spec a) j k ≡ asks spec (fields_by spec b) j k
  same_asks j k below first last resolved =
      ap (λ (x : ℕ). next_action spec.protocol x j k (shown_by spec (fields_by spec a) (row_at spec (fields_by spec a) j k))) (same_input j below)
      ∙ ap (λ (row : List ℕ). next_action spec.protocol (input_at spec (fields_by spec b) j) j k (shown_by spec (fields_by spec a) row)) (same_row j k below first last resolved)
      ∙ ap (λ (l : List (Option ℕ)). next_action spec.protocol (input_at spec (fields_by spec b) j) j k l) (same_shown_by (row_at spec (fields_by spec b) j k) (row_low j k))

  same_spent : (j : ℕ) → j < processes spec → is_spent spec (fields_by spec a) j ≡ is_spent spec (fields_by spec b) j
  same_spent j below =
      let resolved = same_resolved j spec.rounds below rounds (omega arith) in
      ap (λ (c : Bool). c && is_write (asks spec (fields_by spec a) j spec.rounds)) resolved
      ∙ elim (cases_Bool (is_resolved spec (fields_by spec b) j spec.rounds)) [
        | inl yes_it ↦ ap (λ (x : Action). is_resolved spec (fields_by spec b) j spec.rounds && is_write x) (same_asks j spec.rounds below rounds (omega arith) yes_it)
        | inr no_it ↦
            ap (λ (c : Bool). c && is_write (asks spec (fields_by spec a) j spec.rounds)) no_it
            ∙ sym (ap (λ (c : Bool). c && is_write (asks spec (fields_by spec b) j spec.rounds)) no_it)
      ]

  same_end : (j : ℕ) → j < processes spec → end_by spec a j ≡ end_by spec b j
  same_end j below =
      ap (λ (o : Option ℕ). end_of (state_by o (is_spent spec (fields_by spec a) j) None)) (same_decided j below)
      ∙ ap (λ (s : Bool). end_of (state_by (decided_in spec (fields_by spec b) j) s None)) (same_spent j below)

  pub same_ends : ends_by spec a ≡ ends_by spec b
  same_ends = map_same _ _ 0 (processes spec) (λ j low high. same_end j (omega (arith, high)))

-- ---- what is said of the words

pub heard_at : (said : List ℕ) (at : ℕ) → get_or (heard said) at 0 ≡ get_or said at 0 - 1
heard_at [] at = refl
heard_at (x ∷ said) zero = refl
heard_at (x ∷ said) (suc at) = heard_at said at

pub word_heard : (said words : List ℕ) (at : ℕ) → DoSay said words → (get_or said at 0 ≡ 0 → ⊥) → get_or words at 0 ≡ get_or (heard said) at 0
word_heard said words at says some =
    let one : get_or said at 0 ≡ get_or said at 0 - 1 + 1 = omega (arith, some) in
    says at (get_or said at 0 - 1) one ∙ sym (heard_at said at)

pub end_said : (spec : RoomSpec) (said : List ℕ) → IsWithinLimits spec → SaysEnough spec said → DoEnd spec said (ends_by spec (heard said))
end_said spec said limits enough words says =
    same_ends spec limits words (heard said) (λ place is counted. word_heard said words (index_of (sizes_in spec) place) says (enough place is counted))

-- the words that are heard, one by one
pub all_heard : (said words : List ℕ) → length words ≡ length said → ((at : ℕ) → at < length said → get_or words at 0 ≡ get_or said at 0 - 1) → words ≡ heard said
all_heard [] [] long each = refl
all_heard [] (w ∷ words) long each = absurd (omega (arith, long))
all_heard (x ∷ said) [] long each = absurd (omega (arith, long))
all_heard (x ∷ said) (w ∷ words) long each =
    let one : w ≡ x - 1 = each 0 (omega arith) in
    let more = all_heard said words (omega (arith, long)) (λ at below. each (suc at) (omega (arith, below))) in
    λ i. one i ∷ more i
