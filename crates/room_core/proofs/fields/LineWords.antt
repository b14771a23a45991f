-- The words after a line hold the fields after it.
use Rattle.std.proofs.Common.{◌≡◌, ◌≢◌, ℕ, ◌+◌, ◌-◌, ◌*◌, ◌%◌, ◌^◌, ◌<◌, ◌≤◌, Bool, true, false, cond, ltb, List, length, Option, Some, None, refl, sym, ap, ◌∙◌, subst, arith}
use Rattle.std.proofs.Math.Nat.{mod-eq_of_lt}
use Rattle.std.proofs.lemmas.Nat.{mod-mul-add}
use Rattle.std.specs.Prelude.{slice_index}
use mathlib.Core.Logic.{dite}
use native.Mathlib.Decide.{ℕ_discrete}
use Rattle.room_spec.specs.Rooms.{RoomSpec, IsWithinLimits}
use Rattle.room_spec.specs.Sizes.{Sizes, AreSizes, memory_words, sizes_in}
use Rattle.room_spec.proofs.CallerLemmas.{are_memory_words}
use Rattle.level_cells.specs.Packing.{packed, FitFields}
use Rattle.level_cells.proofs.CallerLemmas.{fits, with_one_more}
use Rattle.view_table.specs.declared.place.Place.TheVariants as places
use Rattle.view_table.specs.Places.{IsMemoryWord, IsProcess, IsRound, IsAgreementRound, words_of}
use Rattle.view_table.specs.Words.{with_word}
use Rattle.sim_memory.specs.Steps.{AreWithin, IsRaised, place_of, memory_word, with_part, word_of}
use Rattle.sim_memory.proofs.CallerLemmas.{memory_at, part_here, word_below, word_raised, word_fits, within_raised}
use Rattle.simulator.specs.declared.goal.Goal.{Goal}
use Rattle.simulator.specs.declared.goal.Goal.TheVariants as goals
use Rattle.simulator.specs.declared.line.Line.{Line}
use Rattle.simulator.specs.declared.line.Line.TheVariants.{Rest, Raise, Snap, Show, Enter, Look, Leave, Ask, GetInput, GetView, Values, Out}
use Rattle.simulator.specs.declared.operation.Move.TheVariants.{OutOfTurns}
use Rattle.simulator.specs.Minds.{MindOf, goal_at, current_goal, current_round, next_process}
use Rattle.simulator.specs.Turns.{counted}
use Rattle.simulator.specs.Moves.{IsOperation, index_in, first_move_at, first_move, move_at, words_after}
use Rattle.simulator.specs.Ranges.{IsMind}
use Rattle.room_core.specs.Fields.{StepMap, Fields, changed_pair, changed_triple}
use Rattle.room_core.specs.Reading.{worded}
use Rattle.room_core.proofs.fields.Maps.{pair_here, pair_else, triple_here, triple_else}
use Rattle.room_core.proofs.fields.Holding.{Hold, held_after, keeps_step, keeps_level, keeps_view, keeps_value, keeps_out}
use Rattle.room_core.proofs.fields.Tracks.{raised_below, outside, inside, round_most}
use Rattle.room_core.proofs.fields.Lines.{stored_first_at, stored_first, stored_on, StandsAt, open_round, snapshot_round, first_place}

-- ---- one more in a field of step numbers

raised_pair : (m n : ℕ) (step : StepMap) (i j : ℕ) → IsRaised m n step i j (changed_pair step i j (step i j + 1))
raised_pair m n step i j = record {
  own = pair_here step i j (step i j + 1);
  other_simulators = λ a b _ _ other. pair_else step i j (step i j + 1) a b (λ e _. other e);
  other_processes = λ b _ other. pair_else step i j (step i j + 1) i b (λ _ e. other e);
}

raised_word : (sizes : Sizes) (step : StepMap) (i j word : ℕ) → AreSizes sizes → AreWithin sizes step → i < sizes.m → j < sizes.n → step i j < sizes.rounds → word ≡ memory_word sizes step (word_of sizes i j)
    → (word + 2 ^ place_of sizes i j) % 2 ^ 64 ≡ memory_word sizes (changed_pair step i j (step i j + 1)) (word_of sizes i j)
raised_word sizes step i j word limits within below process room is =
    let after = changed_pair step i j (step i j + 1) in
    let raised = raised_pair sizes.m sizes.n step i j in
    let sum : word + 2 ^ place_of sizes i j ≡ memory_word sizes after (word_of sizes i j) = ap (λ (w : ℕ). w + 2 ^ place_of sizes i j) is ∙ sym (word_raised sizes step after i j limits below process raised) in
    let fit : memory_word sizes after (word_of sizes i j) < 2 ^ 64 = word_fits sizes after (word_of sizes i j) limits (within_raised sizes step after i j within raised room) in
    ap (λ (w : ℕ). w % 2 ^ 64) sum ∙ mod-eq_of_lt fit

-- ---- one more, and one less, in a field of levels

wraps : (width x unit : ℕ) → x + unit < width → (x + unit + (width - unit)) % width ≡ x
wraps width x unit less =
    let sum : x + unit + (width - unit) ≡ 1 * width + x = omega arith in
    ap (λ (w : ℕ). w % width) sum ∙ mod-mul-add 1 width x (omega arith)

level_places : (m : ℕ) (level : ℕ → ℕ) → m ≤ 8 → ((i : ℕ) → level i ≤ 2) → packed level 2 m < 2 ^ 64
level_places m level few low = fits level 2 m (λ i less. let b = low i in omega arith) (omega arith)

-- one level more, for simulator i
level_added : (m i word : ℕ) (level after : ℕ → ℕ) → m ≤ 8 → i < m → ((a : ℕ) → level a ≤ 2) → level i ≤ 1 → after i ≡ level i + 1 → ((a : ℕ) → a ≢ i → after a ≡ level a) → word ≡ packed level 2 m → (word + 2 ^ (2 * i)) % 2 ^ 64 ≡ packed after 2 m
level_added m i word level after few below low room own others is =
    let unit : 2 ^ (2 * i) ≡ 2 ^ (i * 2) = ap (λ (e : ℕ). 2 ^ e) (omega arith) in
    let fit : FitFields after 2 m = λ a less. dite (ℕ_discrete a i) (λ (e : a ≡ i). let same = ap after e in omega arith) (λ (n : a ≢ i). let same = others a n in let b = low a in omega arith) in
    let sum : word + 2 ^ (2 * i) ≡ packed after 2 m = ap (λ (w : ℕ). w + 2 ^ (2 * i)) is ∙ ap (λ (u : ℕ). packed level 2 m + u) unit ∙ sym (with_one_more level after 2 m i below (own, λ a less other. sym (others a other))) in
    ap (λ (w : ℕ). w % 2 ^ 64) sum ∙ mod-eq_of_lt (fits after 2 m fit (omega arith))

-- one level less
level_taken : (m i word : ℕ) (level after : ℕ → ℕ) → m ≤ 8 → i < m → ((a : ℕ) → level a ≤ 2) → level i ≡ after i + 1 → ((a : ℕ) → a ≢ i → after a ≡ level a) → word ≡ packed level 2 m → (word + (2 ^ 64 - 2 ^ (2 * i))) % 2 ^ 64 ≡ packed after 2 m
level_taken m i word level after few below low own others is =
    let unit : 2 ^ (2 * i) ≡ 2 ^ (i * 2) = ap (λ (e : ℕ). 2 ^ e) (omega arith) in
    let sum : word ≡ packed after 2 m + 2 ^ (2 * i) = is ∙ with_one_more after level 2 m i below (own, λ a less other. others a other) ∙ ap (λ (u : ℕ). packed after 2 m + u) (sym unit) in
    let fit : packed after 2 m + 2 ^ (2 * i) < 2 ^ 64 = subst (λ (w : ℕ). w < 2 ^ 64) (sym is ∙ sum) (level_places m level few low) in
    ap (λ (w : ℕ). (w + (2 ^ 64 - 2 ^ (2 * i))) % 2 ^ 64) sum ∙ wraps (2 ^ 64) (packed after 2 m) (2 ^ (2 * i)) fit

-- ---- the stores of a simulator

module _ (spec : RoomSpec) (fields : Fields) (i : ℕ) (words : List ℕ) (mind : MindOf StepMap) (whole : length words ≡ words_of (sizes_in spec)) (held : Hold (sizes_in spec) words fields) (below : i < spec.simulators) (number : mind.number ≡ i) where
  stored_value : (j k value : ℕ) → IsProcess (sizes_in spec) j → IsAgreementRound (sizes_in spec) k
      → Hold (sizes_in spec) (with_word (sizes_in spec) words (places.Value mind.number j k) value) (record fields { value = changed_triple fields.value i j k value })
  stored_value j k value process round =
      let after = record fields { value = changed_triple fields.value i j k value } in
      subst (λ (n : ℕ). Hold (sizes_in spec) (with_word (sizes_in spec) words (places.Value n j k) value) after) (sym number)
      (held_after (sizes_in spec) words fields after (places.Value i j k) value whole (below, process, round) held (sym (triple_here fields.value i j k value)) (keeps_value (sizes_in spec) fields i j k value))

  stored_view : (j k w : ℕ) (source : StepMap) → IsProcess (sizes_in spec) j → IsRound (sizes_in spec) k → IsMemoryWord (sizes_in spec) w
      → Hold (sizes_in spec) (with_word (sizes_in spec) words (places.View mind.number j k w) (memory_word (sizes_in spec) source w)) (record fields { view = changed_triple fields.view i j k (with_part (sizes_in spec) w source (fields.view i j k)) })
  stored_view j k w source process round one =
      let view = with_part (sizes_in spec) w source (fields.view i j k) in
      let after = record fields { view = changed_triple fields.view i j k view } in
      subst (λ (n : ℕ). Hold (sizes_in spec) (with_word (sizes_in spec) words (places.View n j k w) (memory_word (sizes_in spec) source w)) after) (sym number)
      (held_after (sizes_in spec) words fields after (places.View i j k w) (memory_word (sizes_in spec) source w) whole (below, process, round, one) held
      (sym (part_here (sizes_in spec) source (fields.view i j k) w) ∙ ap (λ (v : StepMap). memory_word (sizes_in spec) v w) (sym (triple_here fields.view i j k view))) (keeps_view (sizes_in spec) fields i j k w source))

  stored_out : (j out : ℕ) → IsProcess (sizes_in spec) j → Hold (sizes_in spec) (with_word (sizes_in spec) words (places.Out mind.number j) out) (record fields { out = changed_pair fields.out i j out })
  stored_out j out process =
      let after = record fields { out = changed_pair fields.out i j out } in
      subst (λ (n : ℕ). Hold (sizes_in spec) (with_word (sizes_in spec) words (places.Out n j) out) after) (sym number)
      (held_after (sizes_in spec) words fields after (places.Out i j) out whole (below, process) held (sym (pair_here fields.out i j out)) (keeps_out (sizes_in spec) fields i j out))

  stored_step : (j : ℕ) → IsWithinLimits spec → AreWithin (sizes_in spec) fields.step → IsProcess (sizes_in spec) j → fields.step i j < spec.rounds
      → Hold (sizes_in spec) (with_word (sizes_in spec) words (places.Memory (word_of (sizes_in spec) mind.number j)) ((slice_index words (index_in spec (places.Memory (word_of (sizes_in spec) mind.number j))) + 2 ^ place_of (sizes_in spec) mind.number j) % 2 ^ 64)) (record fields { step = changed_pair fields.step i j (fields.step i j + 1) })
  stored_step j limits within process room =
      let after = record fields { step = changed_pair fields.step i j (fields.step i j + 1) } in
      let own = word_of (sizes_in spec) i j in
      let range = word_below (sizes_in spec) i j limits.shape below process in
      let old = slice_index words (index_in spec (places.Memory own)) in
      let new : (old + 2 ^ place_of (sizes_in spec) i j) % 2 ^ 64 ≡ memory_word (sizes_in spec) (changed_pair fields.step i j (fields.step i j + 1)) own =
      raised_word (sizes_in spec) fields.step i j old limits.shape within below process room (held (places.Memory own) range) in
      subst (λ (n : ℕ). Hold (sizes_in spec) (with_word (sizes_in spec) words (places.Memory (word_of (sizes_in spec) n j)) ((slice_index words (index_in spec (places.Memory (word_of (sizes_in spec) n j))) + 2 ^ place_of (sizes_in spec) n j) % 2 ^ 64)) after) (sym number)
      (held_after (sizes_in spec) words fields after (places.Memory own) ((old + 2 ^ place_of (sizes_in spec) i j) % 2 ^ 64) whole range held new
      (keeps_step (sizes_in spec) fields (changed_pair fields.step i j (fields.step i j + 1)) i j (raised_pair spec.simulators (sizes_in spec).n fields.step i j)))

  stored_level : (j k level word : ℕ) → IsProcess (sizes_in spec) j → IsAgreementRound (sizes_in spec) k → word ≡ packed (λ a. changed_triple fields.level i j k level a j k) 2 spec.simulators
      → Hold (sizes_in spec) (with_word (sizes_in spec) words (places.Levels j k) word) (record fields { level = changed_triple fields.level i j k level })
  stored_level j k level word process round is =
      held_after (sizes_in spec) words fields (record fields { level = changed_triple fields.level i j k level }) (places.Levels j k) word whole (process, round) held is (keeps_level (sizes_in spec) fields i j k level)

  other_levels : (j k level a : ℕ) → a ≢ i → changed_triple fields.level i j k level a j k ≡ fields.level a j k
  other_levels j k level a other = triple_else fields.level i j k level a j k (λ e _ _. other e)

  raised_level : (j k level : ℕ) → IsWithinLimits spec → ((a b c : ℕ) → fields.level a b c ≤ 2) → level ≡ fields.level i j k + 1 → level ≤ 2 → IsProcess (sizes_in spec) j → IsAgreementRound (sizes_in spec) k
      → Hold (sizes_in spec) (with_word (sizes_in spec) words (places.Levels j k) ((slice_index words (index_in spec (places.Levels j k)) + 2 ^ (2 * mind.number)) % 2 ^ 64)) (record fields { level = changed_triple fields.level i j k level })
  raised_level j k level limits low more most process round =
      let old = slice_index words (index_in spec (places.Levels j k)) in
      stored_level j k level ((old + 2 ^ (2 * mind.number)) % 2 ^ 64) process round
      (ap (λ (n : ℕ). (old + 2 ^ (2 * n)) % 2 ^ 64) number
      ∙ level_added spec.simulators i old (λ a. fields.level a j k) (λ a. changed_triple fields.level i j k level a j k) limits.shape.m_range.1 below (λ a. low a j k) (omega arith) (triple_here fields.level i j k level ∙ more) (other_levels j k level) (held (places.Levels j k) (process, round)))

  lowered_level : (j k : ℕ) → IsWithinLimits spec → ((a b c : ℕ) → fields.level a b c ≤ 2) → fields.level i j k ≡ 1 → IsProcess (sizes_in spec) j → IsAgreementRound (sizes_in spec) k
      → Hold (sizes_in spec) (with_word (sizes_in spec) words (places.Levels j k) ((slice_index words (index_in spec (places.Levels j k)) + (2 ^ 64 - 2 ^ (2 * mind.number))) % 2 ^ 64)) (record fields { level = changed_triple fields.level i j k 0 })
  lowered_level j k limits low one process round =
      let old = slice_index words (index_in spec (places.Levels j k)) in
      let own : changed_triple fields.level i j k 0 i j k ≡ 0 = triple_here fields.level i j k 0 in
      stored_level j k 0 ((old + (2 ^ 64 - 2 ^ (2 * mind.number))) % 2 ^ 64) process round
      (ap (λ (n : ℕ). (old + (2 ^ 64 - 2 ^ (2 * n))) % 2 ^ 64) number
      ∙ level_taken spec.simulators i old (λ a. fields.level a j k) (λ a. changed_triple fields.level i j k 0 a j k) limits.shape.m_range.1 below (λ a. low a j k) (omega arith) (other_levels j k 0) (held (places.Levels j k) (process, round)))

  first_stored : (goal : Goal) (j : ℕ) (b : Bool) → IsMind spec (worded (sizes_in spec) mind) → goal_at mind.goals j ≡ goal → IsOperation (cond b (first_move_at goal spec mind.number j) OutOfTurns)
      → Hold (sizes_in spec) (words_after (cond b (first_move_at goal spec mind.number j) OutOfTurns) words) (stored_first_at goal fields i j)
  first_stored goal j false is_mind is moves = absurd moves
  first_stored (goals.Write k value) j true is_mind is moves = let place = first_place spec mind j (goals.Write k value) is_mind is refl in stored_value j k value place.0 place.1
  first_stored (goals.Ask k) j true is_mind is moves = held
  first_stored (goals.Propose value) j true is_mind is moves = let place = first_place spec mind j (goals.Propose value) is_mind is refl in stored_value j 0 value place.0 place.1
  first_stored goals.AskInput j true is_mind is moves = held
  first_stored goals.Done j true is_mind is moves = absurd moves
  first_stored goals.Spent j true is_mind is moves = absurd moves

  next_stored : (next : Option ℕ) → IsMind spec (worded (sizes_in spec) mind) → IsOperation (first_move next spec (worded (sizes_in spec) mind)) → Hold (sizes_in spec) (words_after (first_move next spec (worded (sizes_in spec) mind)) words) (stored_first next fields i (counted mind))
  next_stored None is_mind moves = absurd moves
  next_stored (Some j) is_mind moves = first_stored (goal_at mind.goals j) j (ltb mind.turns spec.turns) is_mind refl moves

-- ---- all lines

pub held_line : (line : Line) (spec : RoomSpec) (fields : Fields) (i : ℕ) (words : List ℕ) (mind : MindOf StepMap) → length words ≡ words_of (sizes_in spec) → StandsAt line spec fields i mind → Hold (sizes_in spec) words fields
    → Hold (sizes_in spec) (words_after (move_at line spec (worded (sizes_in spec) mind)) words) (stored_on line spec fields i mind.process (current_round mind) (counted mind))
held_line Rest spec fields i words mind whole at held = next_stored spec fields i words mind whole held at.below at.number (next_process mind.goals mind.process) at.is_mind at.moves
held_line Raise spec fields i words mind whole at held =
    let room = raised_below (current_goal mind) spec.rounds (fields.step i mind.process) (fields.level i mind.process) (round_most (sizes_in spec) (current_goal mind) (at.is_mind.rounds mind.process at.is_mind.process)) at.own in
    stored_step spec fields i words mind whole held at.below at.number mind.process at.is_mind.limits (λ a p _ _. at.range.step a p) at.is_mind.process room
held_line Snap spec fields i words mind whole at held = held
held_line Show spec fields i words mind whole at held =
    let round = snapshot_round spec mind at.is_mind at.open_at at.round in
    let w = mind.word in
    let one : w < memory_words (sizes_in spec) = at.word in
    let few = (are_memory_words (sizes_in spec) at.is_mind.limits.shape).few in
    subst (λ (word : ℕ). Hold (sizes_in spec) (with_word (sizes_in spec) words (places.View mind.number mind.process (current_round mind) w) word) (record fields { view = changed_triple fields.view i mind.process (current_round mind) (with_part (sizes_in spec) w mind.snapshot (fields.view i mind.process (current_round mind))) }))
    (sym (memory_at (sizes_in spec) mind.snapshot w (omega arith)))
    (stored_view spec fields i words mind whole held at.below at.number mind.process (current_round mind) w mind.snapshot at.is_mind.process round one)
held_line Enter spec fields i words mind whole at held =
    let round = open_round spec mind at.is_mind at.open_at in
    let none = outside spec.rounds (current_goal mind) (fields.step i mind.process) (fields.level i mind.process) at.own in
    raised_level spec fields i words mind whole held at.below at.number mind.process (current_round mind) (fields.level i mind.process (current_round mind) + 1) at.is_mind.limits at.range.level refl (omega arith) at.is_mind.process round
held_line Look spec fields i words mind whole at held = held
held_line (Leave true) spec fields i words mind whole at held =
    let round = open_round spec mind at.is_mind at.open_at in
    let one = inside spec.rounds (current_goal mind) (fields.step i mind.process) (fields.level i mind.process) at.own in
    lowered_level spec fields i words mind whole held at.below at.number mind.process (current_round mind) at.is_mind.limits at.range.level one at.is_mind.process round
held_line (Leave false) spec fields i words mind whole at held =
    let round = open_round spec mind at.is_mind at.open_at in
    let one = inside spec.rounds (current_goal mind) (fields.step i mind.process) (fields.level i mind.process) at.own in
    raised_level spec fields i words mind whole held at.below at.number mind.process (current_round mind) 2 at.is_mind.limits at.range.level (omega arith) (omega arith) at.is_mind.process round
held_line Ask spec fields i words mind whole at held = held
held_line (GetInput chosen) spec fields i words mind whole at held = held
held_line (GetView chosen) spec fields i words mind whole at held = held
held_line Values spec fields i words mind whole at held = held
held_line (Out decision) spec fields i words mind whole at held = stored_out spec fields i words mind whole held at.below at.number mind.process (decision + 1) at.is_mind.process
