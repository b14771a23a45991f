-- No turn of any room takes more than 4096 steps.
use Rattle.std.proofs.Common.{◌≡◌, ◌≢◌, ℕ, ◌+◌, ◌*◌, ◌^◌, ◌<◌, ◌≤◌, Bool, true, false, cond, eqb, ap, arith}
use Rattle.std.proofs.lemmas.Bool.{eq-eqb, ne_eqb}
use Rattle.std.proofs.lemmas.Nat.{mul-le}
use Rattle.room_spec.specs.Rooms.{RoomSpec, IsWithinLimits, processes}
use Rattle.room_spec.specs.Sizes.{Sizes, AreSizes, sizes_in}
use Rattle.room_spec.proofs.CallerLemmas.{are_memory_words, by_bits}
use Rattle.sim_memory.proofs.CallerLemmas.{rounds_fit}
use Rattle.simulator.specs.declared.line.Line.{Line}
use Rattle.simulator.specs.declared.line.Line.TheVariants.{Rest, Raise, Snap, Show, Enter, Look, Leave, Ask, GetInput, GetView, Values, Out}
use Rattle.simulator.specs.Ranges.{IsCollectCount, IsMind, charged_steps, greatest_limit, scan_steps, turn_limit, words_at}
use Rattle.simulator.specs.Minds.{MindState}
use Rattle.simulator.proofs.Stepping.{bounded}
use Rattle.simulator.specs.Sweeps.{is_resting}
use Rattle.simulator.specs.Turns.{most_collects, words_in}

-- no room has more than 960 writes, by all its simulators
writes_few : (sizes : Sizes) → AreSizes sizes → sizes.m * sizes.n * sizes.rounds ≤ 960
writes_few sizes are =
    by_bits sizes.rounds sizes.bits (λ bits. sizes.m * sizes.n * bits ≤ 256 → sizes.rounds < 2 ^ bits → sizes.m * sizes.n * sizes.rounds ≤ 960) are.width
    (λ fits less. omega (arith, mul-le (sizes.m * sizes.n) sizes.rounds 256 1 (omega arith) (omega arith)))
    (λ fits less. omega (arith, mul-le (sizes.m * sizes.n) sizes.rounds 128 3 (omega arith) (omega arith)))
    (λ fits less. omega (arith, mul-le (sizes.m * sizes.n) sizes.rounds 85 7 (omega arith) (omega arith)))
    (λ fits less. omega (arith, mul-le (sizes.m * sizes.n) sizes.rounds 64 15 (omega arith) (omega arith)))
    are.memory (rounds_fit sizes are)

scan_few : (b : Bool) (all most : ℕ) → all ≤ most → 1 ≤ most → cond b 1 all ≤ most
scan_few true all most few some = some
scan_few false all most few some = few

pub limit_most : (spec : RoomSpec) → IsWithinLimits spec → turn_limit spec ≤ greatest_limit
unfolding turn_limit
limit_most spec limits =
    let words = are_memory_words (sizes_in spec) limits.shape in
    let writes = writes_few (sizes_in spec) limits.shape in
    let all : words_in spec * most_collects spec ≤ 4 * 962 = mul-le (words_in spec) (most_collects spec) 4 962 words.few (omega (arith, writes)) in
    let scan : scan_steps spec ≤ 4 * 962 = scan_few (eqb (words_in spec) 1) (words_in spec * most_collects spec) (4 * 962) all (omega arith) in
    omega (arith, scan, words.few, limits.shape.n_range.1)

-- ---- collects

pub collects_most : (line : Line) (spec : RoomSpec) (collects : ℕ) → IsCollectCount spec line collects → collects ≤ most_collects spec
collects_most Rest spec collects is = omega (arith, is)
collects_most Raise spec collects is = omega (arith, is)
collects_most Snap spec collects is = omega (arith, is.0)
collects_most Show spec collects is = is
collects_most Enter spec collects is = is
collects_most Look spec collects is = is
collects_most (Leave saw_two) spec collects is = is
collects_most Ask spec collects is = is
collects_most (GetInput chosen) spec collects is = is
collects_most (GetView chosen) spec collects is = is
collects_most Values spec collects is = is
collects_most (Out decision) spec collects is = is

pub few_collects : (spec : RoomSpec) (mind : MindState) → IsMind spec mind → mind.collects ≤ spec.simulators * processes spec * spec.rounds + 2
few_collects spec mind is = collects_most mind.line spec mind.collects is.collects

pub collects_rest : (line : Line) (spec : RoomSpec) (collects : ℕ) → IsCollectCount spec line collects → is_resting line ≡ true → collects ≡ 0
collects_rest Rest spec collects is rests = is
collects_rest Raise spec collects is rests = absurd cc
collects_rest Snap spec collects is rests = absurd cc
collects_rest Show spec collects is rests = absurd cc
collects_rest Enter spec collects is rests = absurd cc
collects_rest Look spec collects is rests = absurd cc
collects_rest (Leave saw_two) spec collects is rests = absurd cc
collects_rest Ask spec collects is rests = absurd cc
collects_rest (GetInput chosen) spec collects is rests = absurd cc
collects_rest (GetView chosen) spec collects is rests = absurd cc
collects_rest Values spec collects is rests = absurd cc
collects_rest (Out decision) spec collects is rests = absurd cc

pub limit_of_one : (spec : RoomSpec) → words_in spec ≡ 1 → turn_limit spec ≡ processes spec + 10
unfolding turn_limit
limit_of_one spec one =
    let scan : scan_steps spec ≡ 1 = ap (λ (b : Bool). cond b 1 (words_in spec * most_collects spec)) (eq-eqb (words_in spec) 1 one) in
    omega (arith, scan, one)

pub limit_of_several : (spec : RoomSpec) → words_in spec ≢ 1 → turn_limit spec ≡ processes spec + 7 + 2 * words_in spec + words_in spec * (spec.simulators * processes spec * spec.rounds + 2)
unfolding turn_limit
limit_of_several spec several = ap (λ (scan : ℕ). processes spec + 7 + 2 * words_in spec + scan) (ap (λ (b : Bool). cond b 1 (words_in spec * most_collects spec)) (ne_eqb (words_in spec) 1 several))

-- ---- the numbers of a mind are small

charged_least : (line : Line) (steps : ℕ) → steps ≤ charged_steps line steps
charged_least Rest steps = omega arith
charged_least Raise steps = omega arith
charged_least Snap steps = omega arith
charged_least Show steps = omega arith
charged_least Enter steps = omega arith
charged_least Look steps = omega arith
charged_least (Leave saw_two) steps = omega arith
charged_least Ask steps = omega arith
charged_least (GetInput chosen) steps = omega arith
charged_least (GetView chosen) steps = omega arith
charged_least Values steps = omega arith
charged_least (Out decision) steps = omega arith

word_few : (line : Line) (spec : RoomSpec) (word : ℕ) → word < words_at spec line → words_in spec ≤ 4 → word < 4
word_few Rest spec word less few = omega (arith, less)
word_few Raise spec word less few = omega (arith, less)
word_few Snap spec word less few = omega (arith, less)
word_few Show spec word less few = omega (arith, less)
word_few Enter spec word less few = omega (arith, less)
word_few Look spec word less few = omega (arith, less)
word_few (Leave saw_two) spec word less few = omega (arith, less)
word_few Ask spec word less few = omega (arith, less)
word_few (GetInput chosen) spec word less few = omega (arith, less)
word_few (GetView chosen) spec word less few = omega (arith, less)
word_few Values spec word less few = omega (arith, less)
word_few (Out decision) spec word less few = omega (arith, less)

pub record IsSmall (mind : MindState) : Type 0 where
  pub steps : mind.steps < 4294967295
  pub turn_steps : mind.turn_steps < 65535
  pub word : mind.word < 4
  pub collects : mind.collects < 65535

pub small : (spec : RoomSpec) (mind : MindState) → IsMind spec mind → IsSmall mind
small spec mind is =
    let limit = limit_most spec is.limits in
    let turn = bounded spec mind is in
    let words = are_memory_words (sizes_in spec) is.limits.shape in
    let writes = writes_few (sizes_in spec) is.limits.shape in
    record {
      steps = omega (arith, charged_least mind.line mind.steps, is.counted, is.turns, is.limits.turns.1, limit, turn);
      turn_steps = omega (arith, limit, turn);
      word = word_few mind.line spec mind.word is.word words.few;
      collects = omega (arith, collects_most mind.line spec mind.collects is.collects, writes);
    }
