-- The places of a room's shared memory, and the index of each among the memory's words.
use Rattle.std.specs.Prelude.{◌≡◌, ℕ, zero, suc, ◌+◌, ◌-◌, ◌*◌, ◌<◌, ◌≤◌, if◌then◌else◌}
use Rattle.room_spec.specs.Sizes.{Sizes, first_of, memory_words}
use Rattle.view_table.specs.declared.place.Place.{Place}
use Rattle.view_table.specs.declared.place.Place.TheVariants.{Memory, Levels, View, Value, Out}

abbrev pub IsSimulator : Sizes → ℕ → Type 0
IsSimulator sizes i = i < sizes.m

abbrev pub IsProcess : Sizes → ℕ → Type 0
IsProcess sizes j = j < sizes.n

-- rounds are counted from 1
abbrev pub IsRound : Sizes → ℕ → Type 0
IsRound sizes k = (1 ≤ k) × (k ≤ sizes.rounds)

-- A round in which the simulators agree on something of each process: on its snapshot in each round, and in a reduction on its
-- input before, in the round 0.
abbrev pub IsAgreementRound : Sizes → ℕ → Type 0
IsAgreementRound sizes k = (first_of sizes.reduction ≤ k) × (k ≤ sizes.rounds)

-- the step numbers of all simulators are in these words, numbered from 0
abbrev pub IsMemoryWord : Sizes → ℕ → Type 0
IsMemoryWord sizes w = w < memory_words sizes

-- the numbers of a place are those of a simulator, a process, a round and a memory word of the room
abbrev pub IsPlace : Sizes → Place → Type 0
IsPlace sizes (Memory w) = IsMemoryWord sizes w
IsPlace sizes (Levels j k) = IsProcess sizes j × IsAgreementRound sizes k
IsPlace sizes (View i j k w) = IsSimulator sizes i × IsProcess sizes j × IsRound sizes k × IsMemoryWord sizes w
IsPlace sizes (Value i j k) = IsSimulator sizes i × IsProcess sizes j × IsAgreementRound sizes k
IsPlace sizes (Out i j) = IsSimulator sizes i × IsProcess sizes j

-- ---- the words of each kind are next to each other

abbrev pub pairs : Sizes → ℕ
pairs sizes = sizes.m * sizes.n

-- for each of them, its rounds
abbrev pub views : Sizes → ℕ
views sizes = pairs sizes * sizes.rounds

abbrev pub levels_from : Sizes → ℕ
levels_from sizes = memory_words sizes

abbrev pub views_from : Sizes → ℕ
views_from sizes = levels_from sizes + sizes.n * sizes.rounds

abbrev pub values_from : Sizes → ℕ
values_from sizes = views_from sizes + views sizes * memory_words sizes

abbrev pub outs_from : Sizes → ℕ
outs_from sizes = values_from sizes + views sizes

-- those of the round 0 come after all others: the levels of the agreements on inputs, and the inputs that are proposed
abbrev pub inputs_from : Sizes → ℕ
inputs_from sizes = outs_from sizes + pairs sizes

abbrev pub proposals_from : Sizes → ℕ
proposals_from sizes = inputs_from sizes + sizes.n

abbrev pub input_words : Sizes → ℕ
input_words sizes = if sizes.reduction then sizes.n + pairs sizes else 0

-- how many words there are
unfoldable pub words_of : Sizes → ℕ
words_of sizes = inputs_from sizes + input_words sizes

-- the index of a place: in order of the simulators, then of the processes, then of the rounds, then of the memory words
unfoldable pub index_of : Sizes → Place → ℕ
index_of sizes (Memory w) = w
index_of sizes (Levels j zero) = inputs_from sizes + j
index_of sizes (Levels j (suc k)) = levels_from sizes + j * sizes.rounds + k
index_of sizes (View i j k w) = views_from sizes + (((i * sizes.n + j) * sizes.rounds + (k - 1)) * memory_words sizes + w)
index_of sizes (Value i j zero) = proposals_from sizes + (i * sizes.n + j)
index_of sizes (Value i j (suc k)) = values_from sizes + (i * sizes.n + j) * sizes.rounds + k
index_of sizes (Out i j) = outs_from sizes + (i * sizes.n + j)

-- a place of the room that has this index
pub record IsPlaceAt (sizes : Sizes) (place : Place) (at : ℕ) : Type 0 where
  pub in_range : IsPlace sizes place
  pub index : index_of sizes place ≡ at
