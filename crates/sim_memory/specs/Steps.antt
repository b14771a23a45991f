-- Step numbers: how often each simulator has written for each process. A map of them gives for a simulator and a
-- process a number.
use Rattle.std.specs.Prelude.{◌≡◌, ◌≢◌, ℕ, zero, suc, ◌+◌, ◌-◌, ◌*◌, ◌/◌, ◌%◌, ◌<◌, ◌≤◌, min, max, List, length, map, slice_index, ◌==◌, ◌&&◌, if◌then◌else◌}
use Rattle.std.specs.List.{range_with_len, position_or_len}
use Rattle.room_spec.specs.Sizes.{Sizes, fields_in_word, memory_words}
use Rattle.level_cells.specs.Fields.{field_of}
use Rattle.level_cells.specs.Packing.{packed}
use Rattle.room_spec.specs.declared.spec.TheConstants.{MAX_MEMORY_WORDS}

-- ---- maps of step numbers

-- the greatest of the first m numbers
abbrev pub greatest_of : ℕ → (ℕ → ℕ) → ℕ
greatest_of zero numbers = 0
greatest_of (suc m) numbers = max (greatest_of m numbers) (numbers m)

-- how many writes of process p the m simulators have made: the greatest step number that one of them has for it
abbrev pub merged_of : ℕ → (ℕ → ℕ → ℕ) → ℕ → ℕ
merged_of m steps p = greatest_of m (λ i. steps i p)

-- the first simulator that has that number
abbrev pub holder_of : ℕ → (ℕ → ℕ → ℕ) → ℕ → ℕ
holder_of m steps p = position_or_len (λ step. step == merged_of m steps p) (map (λ i. steps i p) (range_with_len 0 m))

-- the same: no simulator has a greater number than this one, and none before it has as great a one
pub record IsHolder (m : ℕ) (steps : ℕ → ℕ → ℕ) (p holder : ℕ) : Type 0 where
  pub below : holder < m
  pub greatest : (i : ℕ) → i < m → steps i p ≤ steps holder p
  pub least : (i : ℕ) → i < holder → steps i p < steps holder p

-- the row of a map: the merged number of each of n processes
abbrev pub row_of : ℕ → ℕ → (ℕ → ℕ → ℕ) → List ℕ
row_of m n steps = map (λ p. merged_of m steps p) (range_with_len 0 n)

-- one row is at most another, entry by entry
pub record IsRowAtMost (row other : List ℕ) : Type 0 where
  pub same_length : length row ≡ length other
  pub each : (p : ℕ) → p < length row → slice_index row p ≤ slice_index other p

-- no step number is lower in the second map
abbrev pub AreAtMost : ℕ → ℕ → (ℕ → ℕ → ℕ) → (ℕ → ℕ → ℕ) → Type 0
AreAtMost m n steps others = (i p : ℕ) → i < m → p < n → steps i p ≤ others i p

-- all step numbers are the same
abbrev pub AreSameSteps : ℕ → ℕ → (ℕ → ℕ → ℕ) → (ℕ → ℕ → ℕ) → Type 0
AreSameSteps m n steps others = (i p : ℕ) → i < m → p < n → steps i p ≡ others i p

-- simulator i has written once more for process p, and nothing else has changed
pub record IsRaised (m n : ℕ) (steps : ℕ → ℕ → ℕ) (i p : ℕ) (after : ℕ → ℕ → ℕ) : Type 0 where
  pub own : after i p ≡ steps i p + 1
  pub other_simulators : (k q : ℕ) → k < m → q < n → k ≢ i → after k q ≡ steps k q
  pub other_processes : (q : ℕ) → q < n → q ≢ p → after i q ≡ steps i q

-- that map
abbrev pub one_more : (ℕ → ℕ → ℕ) → ℕ → ℕ → ℕ → ℕ → ℕ
one_more steps i p k q = if (k == i) && (q == p) then steps k q + 1 else steps k q

-- ---- memory words

-- the number of the field of simulator i and process p among those of all simulators
abbrev pub field_number : Sizes → ℕ → ℕ → ℕ
field_number sizes i p = i * sizes.n + p

-- the memory word in which it is, and its lowest bit there
abbrev pub word_of : Sizes → ℕ → ℕ → ℕ
word_of sizes i p = field_number sizes i p / fields_in_word sizes

abbrev pub place_of : Sizes → ℕ → ℕ → ℕ
place_of sizes i p = field_number sizes i p % fields_in_word sizes * sizes.bits

-- the field of simulator i and process p
abbrev pub field_in : Sizes → List ℕ → ℕ → ℕ → ℕ
field_in sizes words i p = field_of (slice_index words (word_of sizes i p)) (place_of sizes i p) sizes.bits

-- The reading of memory words: their map of step numbers. A number above the last round reads as the last round.
abbrev pub step_in : Sizes → List ℕ → ℕ → ℕ → ℕ
step_in sizes words i p = min (field_in sizes words i p) sizes.rounds

-- how many fields of a memory word a room has
abbrev pub fields_of_word : Sizes → ℕ → ℕ
fields_of_word sizes w = min (fields_in_word sizes) (sizes.m * sizes.n - w * fields_in_word sizes)

-- a memory word that has these step numbers
abbrev pub memory_word : Sizes → (ℕ → ℕ → ℕ) → ℕ → ℕ
memory_word sizes steps w =
    packed (λ x. steps ((w * fields_in_word sizes + x) / sizes.n) ((w * fields_in_word sizes + x) % sizes.n)) sizes.bits (fields_of_word sizes w)

-- as many words as any room has; those after the room's own are 0
abbrev pub memory_of : Sizes → (ℕ → ℕ → ℕ) → List ℕ
memory_of sizes steps = map (memory_word sizes steps) (range_with_len 0 MAX_MEMORY_WORDS)

-- the words have these step numbers
abbrev pub AreMemory : Sizes → List ℕ → (ℕ → ℕ → ℕ) → Type 0
AreMemory sizes words steps = (w : ℕ) → w < memory_words sizes → slice_index words w ≡ memory_word sizes steps w

-- The map that has the fields of one memory word as the first map has them, and the others as the second.
abbrev pub with_part : Sizes → ℕ → (ℕ → ℕ → ℕ) → (ℕ → ℕ → ℕ) → ℕ → ℕ → ℕ
with_part sizes w source into i p = if word_of sizes i p == w then source i p else into i p

-- no field of step numbers is lower in the second words
abbrev pub AreFieldsAtMost : Sizes → List ℕ → List ℕ → Type 0
AreFieldsAtMost sizes words later = (i p : ℕ) → i < sizes.m → p < sizes.n → field_in sizes words i p ≤ field_in sizes later i p

-- no step number is above the last round
abbrev pub AreWithin : Sizes → (ℕ → ℕ → ℕ) → Type 0
AreWithin sizes steps = (i p : ℕ) → i < sizes.m → p < sizes.n → steps i p ≤ sizes.rounds
