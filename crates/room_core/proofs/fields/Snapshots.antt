-- What a memory word and a word of levels show is what their maps show.
use Rattle.std.proofs.Common.{◌≡◌, ◌≢◌, ℕ, zero, suc, ◌*◌, ◌<◌, ◌≤◌, Bool, true, false, cond, eqb, length, map, refl, sym, ap, ◌∙◌, subst, arith}
use Rattle.std.specs.Prelude.{◌&&◌}
use Rattle.std.proofs.lemmas.Bool.{eq-eqb, eqb-true}
use mathlib.Core.Logic.{dite}
use native.Mathlib.Decide.{ℕ_discrete}
use Rattle.std.specs.List.{range_with_len}
use Rattle.std.proofs.lemmas.Grind.{same_number_lists}
use Rattle.std.proofs.lemmas.List.FromFn.{length-map-range_with_len, get_or-map-range_with_len}
use Rattle.room_spec.specs.Rooms.{RoomSpec, IsWithinLimits, processes}
use Rattle.room_spec.specs.Sizes.{Sizes, AreSizes, memory_words, sizes_in}
use Rattle.room_spec.proofs.CallerLemmas.{are_memory_words}
use Rattle.level_cells.specs.Fields.{field_of, level_of, levels_of}
use Rattle.level_cells.specs.Packing.{packed}
use Rattle.level_cells.proofs.CallerLemmas.{reads_back}
use Rattle.safe_agreement.specs.Levels.{resolved_of}
use Rattle.sim_memory.specs.Steps.{AreSameSteps, AreWithin, memory_of, memory_word, place_of, step_in, with_part, word_of}
use Rattle.sim_memory.proofs.CallerLemmas.{merged_same, holder_same, memory_is, word_below, word_field, word_part, word_steps}
use Rattle.simulator.specs.Moves.{entry_in, holder_in, chosen_in, same_words}
use Rattle.room_core.specs.Fields.{StepMap, Fields, all_below, same_steps, entry_of_steps, holder_of_steps, chosen_at}

pub memory_steps : (sizes : Sizes) (steps : StepMap) → AreSizes sizes → AreWithin sizes steps → AreSameSteps sizes.m sizes.n (step_in sizes (memory_of sizes steps)) steps
memory_steps sizes steps limits within = word_steps sizes steps (memory_of sizes steps) limits within (memory_is sizes steps limits)

-- ---- two collects are the same as words just where they are as maps

and_true : (b c : Bool) → b ≡ true → c ≡ true → (b && c) ≡ true
and_true true c is is' = is'
and_true false c is is' = is

and_left : (b c : Bool) → (b && c) ≡ true → b ≡ true
and_left true c is = refl
and_left false c is = is

and_right : (b c : Bool) → (b && c) ≡ true → c ≡ true
and_right true c is = is
and_right false c is = absurd cc

same_tests : (b c : Bool) → (b ≡ true → c ≡ true) → (c ≡ true → b ≡ true) → b ≡ c
same_tests true c on back = sym (on refl)
same_tests false true on back = back refl
same_tests false false on back = refl

all_hold : (n : ℕ) (test : ℕ → Bool) → ((k : ℕ) → k < n → test k ≡ true) → all_below n test ≡ true
all_hold zero test each = refl
all_hold (suc n) test each = and_true (all_below n test) (test n) (all_hold n test (λ k less. each k (omega arith))) (each n (omega arith))

each_holds : (n : ℕ) (test : ℕ → Bool) → all_below n test ≡ true → (k : ℕ) → k < n → test k ≡ true
each_holds zero test all k less = absurd (omega arith)
each_holds (suc n) test all k less = dite (ℕ_discrete k n)
    (λ (e : k ≡ n). subst (λ (x : ℕ). test x ≡ true) (sym e) (and_right (all_below n test) (test n) all))
    (λ (other : k ≢ n). each_holds n test (and_left (all_below n test) (test n) all) k (omega arith))

pub same_steps_true : (m n : ℕ) (steps others : StepMap) → AreSameSteps m n steps others → same_steps m n steps others ≡ true
same_steps_true m n steps others same = all_hold m _ (λ i below. all_hold n _ (λ p within. eq-eqb (steps i p) (others i p) (same i p below within)))

pub are_same_steps : (m n : ℕ) (steps others : StepMap) → same_steps m n steps others ≡ true → AreSameSteps m n steps others
are_same_steps m n steps others is i p below within = eqb-true (steps i p) (others i p) (each_holds n (λ q. eqb (steps i q) (others i q)) (each_holds m (λ a. all_below n (λ q. eqb (steps a q) (others a q))) is i below) p within)

module _ (sizes : Sizes) (are : AreSizes sizes) (steps others : StepMap) where
  words_same : AreSameSteps sizes.m sizes.n steps others → (w : ℕ) → memory_word sizes steps w ≡ memory_word sizes others w
  words_same same w = word_part sizes steps others w (λ i p below within at. same i p below within)

  steps_same : AreWithin sizes steps → AreWithin sizes others → ((w : ℕ) → w < memory_words sizes → memory_word sizes steps w ≡ memory_word sizes others w) → AreSameSteps sizes.m sizes.n steps others
  steps_same within within' same i p below inside =
      sym (word_field sizes steps are within i p below inside) ∙ ap (λ (x : ℕ). field_of x (place_of sizes i p) sizes.bits) (same (word_of sizes i p) (word_below sizes i p are below inside)) ∙ word_field sizes others are within' i p below inside

  four_words : (w : ℕ) → w < 4 → memory_word sizes steps 0 ≡ memory_word sizes others 0 → memory_word sizes steps 1 ≡ memory_word sizes others 1 → memory_word sizes steps 2 ≡ memory_word sizes others 2 → memory_word sizes steps 3 ≡ memory_word sizes others 3 → memory_word sizes steps w ≡ memory_word sizes others w
  four_words zero less a b c d = a
  four_words (suc zero) less a b c d = b
  four_words (suc (suc zero)) less a b c d = c
  four_words (suc (suc (suc zero))) less a b c d = d
  four_words (suc (suc (suc (suc w)))) less a b c d = absurd (omega arith)

  abbrev test : ℕ → Bool
  test w = eqb (memory_word sizes steps w) (memory_word sizes others w)

  pub same_collects : AreWithin sizes steps → AreWithin sizes others → same_words (memory_of sizes steps) (memory_of sizes others) ≡ same_steps sizes.m sizes.n steps others
  same_collects within within' = same_tests (((test 0 && test 1) && test 2) && test 3) (same_steps sizes.m sizes.n steps others)
      (λ all.
      let three = and_left ((test 0 && test 1) && test 2) (test 3) all in
      let two = and_left (test 0 && test 1) (test 2) three in
      same_steps_true sizes.m sizes.n steps others (steps_same within within' (λ w below. four_words w (let few = (are_memory_words sizes are).few in omega arith)
      (eqb-true _ _ (and_left (test 0) (test 1) two)) (eqb-true _ _ (and_right (test 0) (test 1) two)) (eqb-true _ _ (and_right (test 0 && test 1) (test 2) three)) (eqb-true _ _ (and_right ((test 0 && test 1) && test 2) (test 3) all)))))
      (λ is.
      let same = are_same_steps sizes.m sizes.n steps others is in
      let each : (w : ℕ) → test w ≡ true = λ w. eq-eqb _ _ (words_same same w) in
      and_true ((test 0 && test 1) && test 2) (test 3) (and_true (test 0 && test 1) (test 2) (and_true (test 0) (test 1) (each 0) (each 1)) (each 2)) (each 3))

-- ---- one word of a map with another's fields

pub part_within : (sizes : Sizes) (w : ℕ) (source into : StepMap) → AreWithin sizes source → AreWithin sizes into → AreWithin sizes (with_part sizes w source into)
part_within sizes w source into within within' i p below inside = by_word (eqb (word_of sizes i p) w)
  where
    by_word : (b : Bool) → cond b (source i p) (into i p) ≤ sizes.rounds
    by_word true = within i p below inside
    by_word false = within' i p below inside

pub same_row : (spec : RoomSpec) (steps : StepMap) (p : ℕ) → IsWithinLimits spec → AreWithin (sizes_in spec) steps → p < processes spec → entry_in spec (memory_of (sizes_in spec) steps) p ≡ entry_of_steps spec steps p
same_row spec steps p limits within below = merged_same spec.simulators (processes spec) (step_in (sizes_in spec) (memory_of (sizes_in spec) steps)) steps p below (memory_steps (sizes_in spec) steps limits.shape within)

pub same_holder : (spec : RoomSpec) (steps : StepMap) (p : ℕ) → IsWithinLimits spec → AreWithin (sizes_in spec) steps → p < processes spec → holder_in spec (memory_of (sizes_in spec) steps) p ≡ holder_of_steps spec steps p
same_holder spec steps p limits within below =
    let some = limits.shape.m_range.0 in
    holder_same spec.simulators (processes spec) (step_in (sizes_in spec) (memory_of (sizes_in spec) steps)) steps p (omega arith) below (memory_steps (sizes_in spec) steps limits.shape within)

pub level_at : (level : ℕ → ℕ) (m i : ℕ) → ((k : ℕ) → level k ≤ 2) → i < m → level_of (packed level 2 m) i ≡ level i
level_at level m i low below =
    let turned : 2 * i ≡ i * 2 = omega arith in
    ap (λ (at : ℕ). field_of (packed level 2 m) at 2) turned ∙ reads_back level 2 m i (λ k less. let b = low k in omega arith) below

pub same_levels : (level : ℕ → ℕ) (m : ℕ) → ((k : ℕ) → level k ≤ 2) → levels_of (packed level 2 m) m ≡ map level (range_with_len 0 m)
same_levels level m low =
    let long : length (levels_of (packed level 2 m) m) ≡ m = length-map-range_with_len (λ i. level_of (packed level 2 m) i) 0 m in
    same_number_lists (levels_of (packed level 2 m) m) (map level (range_with_len 0 m)) (long ∙ sym (length-map-range_with_len level 0 m)) (λ i less.
    let below : i < m = omega arith in
    get_or-map-range_with_len (λ j. level_of (packed level 2 m) j) 0 m i i 0 below (omega arith) ∙ level_at level m i low below ∙ sym (get_or-map-range_with_len level 0 m i i 0 below (omega arith)))

pub same_chosen : (spec : RoomSpec) (fields : Fields) (j k word : ℕ) → ((i : ℕ) → fields.level i j k ≤ 2) → word ≡ packed (λ i. fields.level i j k) 2 spec.simulators → chosen_in spec word ≡ chosen_at spec fields j k
same_chosen spec fields j k word low is =
    ap (chosen_in spec) is ∙ ap (λ levels. resolved_of levels) (same_levels (λ i. fields.level i j k) spec.simulators low)
