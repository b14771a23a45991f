-- A turn's first eight steps, if it begins with a write and the memory is one word.
use Rattle.std.proofs.Common.{◌≡◌, ◌∙◌, ℕ, ◌+◌, ◌*◌, ◌^◌, ◌<◌, Bool, true, false, cond, ltb, List, length, Option, Some, refl, sym, ap, subst, slice_index, slice_set, arith}
use Rattle.std.proofs.lemmas.Bool.{eq-eqb, le-ltb}
use Rattle.std.proofs.lemmas.List.{get_or-set_same}
use Rattle.room_spec.specs.Rooms.{RoomSpec}
use Rattle.room_spec.specs.Shapes.{sizes_of}
use Rattle.room_spec.specs.Sizes.{Sizes, sizes_in}
use Rattle.safe_agreement.specs.Levels.{has_level}
use Rattle.level_cells.specs.Fields.{levels_of}
use Rattle.sim_memory.specs.Steps.{place_of, word_of}
use Rattle.view_table.specs.Places.{index_of}
use Rattle.view_table.specs.declared.place.Place.TheVariants as places
use Rattle.simulator.specs.declared.goal.Goal.{Goal}
use Rattle.simulator.specs.declared.goal.Goal.TheVariants as goals
use Rattle.simulator.specs.declared.line.Line.{Line}
use Rattle.simulator.specs.declared.line.Line.TheVariants.{Rest, Raise, Snap, Show, Enter, Look, Leave, Ask}
use Rattle.simulator.specs.declared.operation.Move.{Move}
use Rattle.simulator.specs.declared.operation.Move.TheVariants as moves
use Rattle.simulator.specs.declared.part.Part.{Part}
use Rattle.simulator.specs.declared.turn.Turn.{Turn}
use Rattle.simulator.specs.declared.turn.Turn.TheVariants.{Still}
use Rattle.simulator.specs.Minds.{MindState, current_round, goal_at, next_process, round_of}
use Rattle.simulator.specs.Moves.{IsOperation, chosen_in, first_move, first_move_at, is_again, leave_by, levels_index, loaded, move_at, move_of, taken, taken_at, view_index}
use Rattle.simulator.specs.Parts.{IsPartOf}
use Rattle.simulator.specs.Ranges.{IsMind, at_line}
use Rattle.simulator.specs.Runs.{Wants}
use Rattle.simulator.specs.Turns.{TakenOf, asked, begun, collected, counted, counted_by, goes_on, on_word, opened, opened_at, scanned, showed, snapped, words_in}
use Rattle.simulator.proofs.Longer.{RunsOn, runs_on, step_then}
use Rattle.simulator.proofs.Valued.{one_more}

-- ---- the operations, by the part of the mind

abbrev levels_of_part : Part → ℕ
levels_of_part part = index_of (sizes_of part.shape) (places.Levels part.process part.round)

levels_are : (spec : RoomSpec) (mind : MindState) (part : Part) → IsPartOf spec mind part → levels_of_part part ≡ index_of (sizes_in spec) (places.Levels mind.process (current_round mind))
levels_are spec mind part is =
    ap (λ (sizes : Sizes). index_of sizes (places.Levels part.process part.round)) is.0
    ∙ ap (λ (j : ℕ). index_of (sizes_in spec) (places.Levels j part.round)) is.2 ∙ ap (λ (k : ℕ). index_of (sizes_in spec) (places.Levels mind.process k)) is.3

unit_is : (spec : RoomSpec) (mind : MindState) (part : Part) → IsPartOf spec mind part → 2 ^ (2 * part.simulator) ≡ 2 ^ (2 * mind.number)
unit_is spec mind part is = ap (λ (i : ℕ). 2 ^ (2 * i)) is.1

pub enters : (spec : RoomSpec) (mind : MindState) (part : Part) → IsPartOf spec mind part → moves.Add (levels_of_part part) (2 ^ (2 * part.simulator)) ≡ move_at Enter spec mind
enters spec mind part is = ap (λ (at : ℕ). moves.Add at (2 ^ (2 * part.simulator))) (levels_are spec mind part is) ∙ ap (λ (unit : ℕ). moves.Add (levels_index spec mind) unit) (unit_is spec mind part is)

pub looks : (spec : RoomSpec) (mind : MindState) (part : Part) → IsPartOf spec mind part → moves.Load (levels_of_part part) ≡ move_at Look spec mind
looks spec mind part is = ap (λ (at : ℕ). moves.Load at) (levels_are spec mind part is)

pub leaves : (spec : RoomSpec) (mind : MindState) (part : Part) (saw_two : Bool) → IsPartOf spec mind part → leave_by saw_two (levels_of_part part) (2 ^ (2 * part.simulator)) ≡ move_at (Leave saw_two) spec mind
leaves spec mind part saw_two is = ap (λ (at : ℕ). leave_by saw_two at (2 ^ (2 * part.simulator))) (levels_are spec mind part is) ∙ ap (λ (unit : ℕ). leave_by saw_two (levels_index spec mind) unit) (unit_is spec mind part is)

-- ---- four steps at once

four_more : (mind : MindState) → counted_by 4 mind ≡ counted (counted (counted (counted mind)))
four_more mind =
    let steps : mind.steps + 4 ≡ mind.steps + 1 + 1 + 1 + 1 = omega arith in
    let turn_steps : mind.turn_steps + 4 ≡ mind.turn_steps + 1 + 1 + 1 + 1 = omega arith in
    ap (λ (k : ℕ). record mind { steps = k; turn_steps = mind.turn_steps + 4 }) steps ∙ ap (λ (k : ℕ). record mind { steps = mind.steps + 1 + 1 + 1 + 1; turn_steps = k }) turn_steps

-- ---- the agreement

module _ {M C : Type 0} (serves : M → C → RoomSpec → MindState → Type 0) (does : M → Move → ℕ → M → Type 0)
    (serves_on : (memory : M) (context : C) (spec : RoomSpec) (mind : MindState) (answer : ℕ) (next : M) → serves memory context spec mind → IsMind spec mind → IsOperation (move_of spec mind) → does memory (move_of spec mind) answer next → serves next context spec (taken spec mind answer).mind)
    (context : C) (spec : RoomSpec) (self : MindState) (part : Part) (is : IsPartOf spec self part)
    (memory : M) (wants : Wants serves context spec memory (at_line Enter self) Still) where
  pub entered : (next : M) (move : Move) (answer : ℕ) → does memory move answer next → move ≡ moves.Add (levels_of_part part) (2 ^ (2 * part.simulator)) → RunsOn serves does context spec 1 memory next (at_line Enter self) (at_line Look (counted self)) Still
  entered next move answer done move_is =
      runs_on serves does serves_on context spec memory next self (counted self) Enter Look answer Still wants (subst (λ (m : Move). does memory m answer next) (move_is ∙ enters spec self part is) done) refl refl

  pub looked : (next last : M) (move : Move) (answer m : ℕ) (saw_two : Bool)
      → RunsOn serves does context spec 1 memory next (at_line Enter self) (at_line Look (counted self)) Still
      → does next move answer last → move ≡ moves.Load (levels_of_part part) → m ≡ spec.simulators → saw_two ≡ has_level 2 (levels_of answer m)
      → RunsOn serves does context spec 2 memory last (at_line Enter self) (at_line (Leave saw_two) (counted (counted self))) Still
  looked next last move answer m saw_two on done move_is m_is saw =
      step_then serves does serves_on context spec 1 memory next last (at_line Enter self) (counted self) (counted (counted self)) Look (Leave saw_two) move answer Still on done (move_is ∙ looks spec self part is)
      (ap (λ (b : Bool). at_line (Leave b) (counted (counted self))) (saw ∙ ap (λ (k : ℕ). has_level 2 (levels_of answer k)) m_is)) refl

  pub left : (next last : M) (move : Move) (answer : ℕ) (saw_two : Bool)
      → RunsOn serves does context spec 2 memory next (at_line Enter self) (at_line (Leave saw_two) (counted (counted self))) Still
      → does next move answer last → move ≡ leave_by saw_two (levels_of_part part) (2 ^ (2 * part.simulator))
      → RunsOn serves does context spec 3 memory last (at_line Enter self) (at_line Ask (counted (counted (counted self)))) Still
  left next last move answer saw_two on done move_is =
      step_then serves does serves_on context spec 2 memory next last (at_line Enter self) (counted (counted self)) (counted (counted (counted self))) (Leave saw_two) Ask move answer Still on done (move_is ∙ leaves spec self part saw_two is) refl refl

  pub asked_last : (next last : M) (move : Move) (answer : ℕ) (after : MindState) (chosen : Option ℕ) (turn : Turn) (later : Line)
      → RunsOn serves does context spec 3 memory next (at_line Enter self) (at_line Ask (counted (counted (counted self)))) Still
      → does next move answer last → move ≡ moves.Load (levels_of_part part) → chosen ≡ chosen_in spec answer
      → at_line later after ≡ (asked chosen (counted_by 4 self)).mind → turn ≡ (asked chosen (counted_by 4 self)).turn
      → RunsOn serves does context spec 4 memory last (at_line Enter self) (at_line later after) turn
  asked_last next last move answer after chosen turn later on done move_is chosen_is mind_is turn_is =
      let all = counted (counted (counted (counted self))) in
      let same : asked chosen (counted_by 4 self) ≡ asked (chosen_in spec answer) all = ap (λ (c : Option ℕ). asked c (counted_by 4 self)) chosen_is ∙ ap (λ (m : MindState). asked (chosen_in spec answer) m) (four_more self) in
      step_then serves does serves_on context spec 3 memory next last (at_line Enter self) (counted (counted (counted self))) after Ask later move answer turn on done (move_is ∙ looks spec self part is)
      (mind_is ∙ ap (λ (t : TakenOf (List ℕ)). t.mind) same) (turn_is ∙ ap (λ (t : TakenOf (List ℕ)). t.turn) same)

-- ---- the steps before it

lt_off : (b : Bool) (move : Move) → IsOperation (cond b move moves.OutOfTurns) → move ≡ cond b move moves.OutOfTurns
lt_off true move operation = refl
lt_off false move operation = absurd operation

-- a word of the simulated memory's only one is its last
only_word : (spec : RoomSpec) (line : Line) (mind : MindState) (last : TakenOf (List ℕ)) → words_in spec ≡ 1 → mind.word ≡ 0 → on_word spec line mind last ≡ last
only_word spec line mind last one none = ap (λ (b : Bool). cond b (goes_on line (record mind { word = mind.word + 1 })) last) (le-ltb (mind.word + 1) (words_in spec) (omega (arith, one, none)))

only_scan : (spec : RoomSpec) (same : Bool) (mind : MindState) → words_in spec ≡ 1 → mind.word ≡ 0 → snapped spec same mind ≡ goes_on Show mind
only_scan spec same mind one none =
    let begun_anew : MindState = record mind { word = 0 } in
    only_word spec Snap mind (scanned spec same begun_anew) one none
    ∙ ap (λ (b : Bool). cond b (goes_on Show begun_anew) (collected spec same (record begun_anew { collects = mind.collects + 1 }))) (eq-eqb (words_in spec) 1 one)
    ∙ ap (λ (w : ℕ). goes_on Show (record mind { word = w })) (sym none)

only_show : (spec : RoomSpec) (mind : MindState) → words_in spec ≡ 1 → mind.word ≡ 0 → showed spec mind ≡ goes_on Enter mind
only_show spec mind one none = only_word spec Show mind (goes_on Enter (record mind { word = 0 })) one none ∙ ap (λ (w : ℕ). goes_on Enter (record mind { word = w })) (sym none)

-- ---- a write that is stored and counted

module _ {M C : Type 0} (serves : M → C → RoomSpec → MindState → Type 0) (does : M → Move → ℕ → M → Type 0)
    (serves_on : (memory : M) (context : C) (spec : RoomSpec) (mind : MindState) (answer : ℕ) (next : M) → serves memory context spec mind → IsMind spec mind → IsOperation (move_of spec mind) → does memory (move_of spec mind) answer next → serves next context spec (taken spec mind answer).mind)
    (context : C) (spec : RoomSpec) (self : MindState) (part : Part) (value : ℕ)
    (next_is : next_process self.goals self.process ≡ Some part.process) (goal_is : goal_at self.goals part.process ≡ goals.Write part.round value)
    (simulator_is : part.simulator ≡ self.number) (sizes_are : sizes_of part.shape ≡ sizes_in spec)
    (memory : M) (wants : Wants serves context spec memory (at_line Rest self) Still) where
  abbrev pub stored_mind : MindState
  stored_mind = begun part.process (counted self)

  abbrev pub raised_mind : MindState
  raised_mind = counted stored_mind

  begins : (answer : ℕ) → taken_at Rest spec (counted self) answer ≡ goes_on Raise stored_mind
  begins answer =
      ap (λ (n : Option ℕ). opened n (chosen_in spec answer) (counted self)) next_is ∙ ap (λ (g : Goal). opened_at g (chosen_in spec answer) stored_mind) goal_is

  pub stores : moves.Store (index_of (sizes_of part.shape) (places.Value part.simulator part.process part.round)) value ≡ move_at Rest spec self
  stores =
      let operation = subst (λ (n : Option ℕ). IsOperation (first_move n spec (at_line Rest self))) next_is (wants.operation refl) in
      ap (λ (sizes : Sizes). moves.Store (index_of sizes (places.Value part.simulator part.process part.round)) value) sizes_are
      ∙ ap (λ (i : ℕ). moves.Store (index_of (sizes_in spec) (places.Value i part.process part.round)) value) simulator_is
      ∙ ap (λ (g : Goal). first_move_at g spec self.number part.process) (sym goal_is)
      ∙ lt_off (ltb self.turns spec.turns) _ operation
      ∙ ap (λ (n : Option ℕ). first_move n spec self) (sym next_is)

  pub raises : moves.Add (index_of (sizes_of part.shape) (places.Memory (word_of (sizes_of part.shape) part.simulator part.process))) (2 ^ place_of (sizes_of part.shape) part.simulator part.process) ≡ move_at Raise spec stored_mind
  raises =
      ap (λ (sizes : Sizes). moves.Add (index_of sizes (places.Memory (word_of sizes part.simulator part.process))) (2 ^ place_of sizes part.simulator part.process)) sizes_are
      ∙ ap (λ (i : ℕ). moves.Add (index_of (sizes_in spec) (places.Memory (word_of (sizes_in spec) i part.process))) (2 ^ place_of (sizes_in spec) i part.process)) simulator_is

  pub stored : (next : M) (move : Move) (answer : ℕ) → does memory move answer next
      → move ≡ moves.Store (index_of (sizes_of part.shape) (places.Value part.simulator part.process part.round)) value
      → RunsOn serves does context spec 1 memory next (at_line Rest self) (at_line Raise stored_mind) Still
  stored next move answer done move_is =
      runs_on serves does serves_on context spec memory next self stored_mind Rest Raise answer Still wants (subst (λ (m : Move). does memory m answer next) (move_is ∙ stores) done)
      (ap (λ (t : TakenOf (List ℕ)). t.mind) (sym (begins answer))) (ap (λ (t : TakenOf (List ℕ)). t.turn) (sym (begins answer)))

  pub raised : (next last : M) (move : Move) (answer : ℕ)
      → RunsOn serves does context spec 1 memory next (at_line Rest self) (at_line Raise stored_mind) Still
      → does next move answer last
      → move ≡ moves.Add (index_of (sizes_of part.shape) (places.Memory (word_of (sizes_of part.shape) part.simulator part.process))) (2 ^ place_of (sizes_of part.shape) part.simulator part.process)
      → RunsOn serves does context spec 2 memory last (at_line Rest self) (at_line Snap raised_mind) Still
  raised next last move answer on done move_is =
      step_then serves does serves_on context spec 1 memory next last (at_line Rest self) stored_mind raised_mind Raise Snap move answer Still on done (move_is ∙ raises) refl refl

  -- the mind after the two steps, counted at once
  pub after_two : counted_by 2 (begun part.process self) ≡ raised_mind
  after_two = one_more 1 (begun part.process self)

-- ---- and a snapshot that is loaded and proposed

module _ {M C : Type 0} (serves : M → C → RoomSpec → MindState → Type 0) (does : M → Move → ℕ → M → Type 0)
    (serves_on : (memory : M) (context : C) (spec : RoomSpec) (mind : MindState) (answer : ℕ) (next : M) → serves memory context spec mind → IsMind spec mind → IsOperation (move_of spec mind) → does memory (move_of spec mind) answer next → serves next context spec (taken spec mind answer).mind)
    (context : C) (spec : RoomSpec) (self : MindState) (part : Part) (value : ℕ)
    (one : words_in spec ≡ 1) (next_is : next_process self.goals self.process ≡ Some part.process) (goal_is : goal_at self.goals part.process ≡ goals.Write part.round value)
    (simulator_is : part.simulator ≡ self.number) (sizes_are : sizes_of part.shape ≡ sizes_in spec)
    (memory : M) (wants : Wants serves context spec memory (at_line Rest self) Still) where
  abbrev pub loaded_mind : ℕ → MindState
  loaded_mind word = record (counted (counted (begun part.process (counted self)))) { snapshot = slice_set self.snapshot 0 word }

  no_word : self.word ≡ 0
  no_word = omega (arith, wants.is_mind.word)

  pub snaps : moves.Load (index_of (sizes_of part.shape) (places.Memory 0)) ≡ move_at Snap spec (counted (begun part.process (counted self)))
  snaps =
      ap (λ (sizes : Sizes). moves.Load (index_of sizes (places.Memory 0))) sizes_are ∙ ap (λ (w : ℕ). moves.Load (index_of (sizes_in spec) (places.Memory w))) (sym no_word)

  pub shows : (word : ℕ) → moves.Store (index_of (sizes_of part.shape) (places.View part.simulator part.process part.round 0)) word ≡ move_at Show spec (loaded_mind word)
  shows word =
      let some : 0 < length self.snapshot = omega (arith, wants.is_mind.snapshot) in
      ap (λ (sizes : Sizes). moves.Store (index_of sizes (places.View part.simulator part.process part.round 0)) word) sizes_are
      ∙ ap (λ (i : ℕ). moves.Store (index_of (sizes_in spec) (places.View i part.process part.round 0)) word) simulator_is
      ∙ ap (λ (k : ℕ). moves.Store (index_of (sizes_in spec) (places.View self.number part.process k 0)) word) (ap (λ (g : Goal). round_of g) (sym goal_is))
      ∙ ap (λ (w : ℕ). moves.Store (index_of (sizes_in spec) (places.View self.number part.process (round_of (goal_at self.goals part.process)) w)) word) (sym no_word)
      ∙ ap (λ (content : ℕ). moves.Store (view_index spec self.number (loaded_mind word)) content) (sym (ap (λ (w : ℕ). slice_index (slice_set self.snapshot 0 word) w) no_word ∙ get_or-set_same self.snapshot 0 word 0 some))

  pub loads : (next last : M) (move : Move) (word : ℕ)
      → RunsOn serves does context spec 2 memory next (at_line Rest self) (at_line Snap (counted (begun part.process (counted self)))) Still
      → does next move word last → move ≡ moves.Load (index_of (sizes_of part.shape) (places.Memory 0))
      → RunsOn serves does context spec 3 memory last (at_line Rest self) (at_line Show (loaded_mind word)) Still
  loads next last move word on done move_is =
      let put = loaded word (counted (counted (begun part.process (counted self)))) in
      let here : goes_on Show (loaded_mind word) ≡ goes_on Show put = ap (λ (w : ℕ). goes_on Show (record (counted (counted (begun part.process (counted self)))) { snapshot = slice_set self.snapshot w word })) (sym no_word) in
      let same : goes_on Show (loaded_mind word) ≡ taken_at Snap spec (counted (counted (begun part.process (counted self)))) word = here ∙ sym (only_scan spec (is_again put) put one no_word) in
      step_then serves does serves_on context spec 2 memory next last (at_line Rest self) (counted (begun part.process (counted self))) (loaded_mind word) Snap Show move word Still on done (move_is ∙ snaps)
      (ap (λ (t : TakenOf (List ℕ)). t.mind) same) (ap (λ (t : TakenOf (List ℕ)). t.turn) same)

  -- the mind after the four steps, counted at once
  pub after_four : (word : ℕ) → counted_by 4 (begun part.process (record self { snapshot = slice_set self.snapshot 0 word })) ≡ counted (loaded_mind word)
  after_four word = four_more (begun part.process (record self { snapshot = slice_set self.snapshot 0 word }))

  pub shown : (next last : M) (move : Move) (word answer : ℕ) (after : MindState)
      → RunsOn serves does context spec 3 memory next (at_line Rest self) (at_line Show (loaded_mind word)) Still
      → does next move answer last → move ≡ moves.Store (index_of (sizes_of part.shape) (places.View part.simulator part.process part.round 0)) word
      → after ≡ counted_by 4 (begun part.process (record self { snapshot = slice_set self.snapshot 0 word }))
      → RunsOn serves does context spec 4 memory last (at_line Rest self) (at_line Enter after) Still
  shown next last move word answer after on done move_is after_is =
      let same : goes_on Enter after ≡ taken_at Show spec (counted (loaded_mind word)) answer =
      ap (λ (m : MindState). goes_on Enter m) (after_is ∙ after_four word) ∙ sym (only_show spec (counted (loaded_mind word)) one no_word) in
      step_then serves does serves_on context spec 3 memory next last (at_line Rest self) (loaded_mind word) after Show Enter move answer Still on done (move_is ∙ shows word)
      (ap (λ (t : TakenOf (List ℕ)). t.mind) same) (ap (λ (t : TakenOf (List ℕ)). t.turn) same)
