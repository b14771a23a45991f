-- What the operations of simulators say of a word.
use Rattle.std.specs.Prelude.{◌≡◌, ◌≢◌, ℕ, ◌<◌, ◌-◌, ◌%◌, ◌^◌, Bool, false, List, [], ◌∷◌, slice_index, slice_index_or, ◌==◌, if◌then◌else◌}
use Rattle.std.specs.List.{All, flat_map, sum_by}
use Rattle.simulator.specs.declared.operation.Move.{Move}
use Rattle.simulator.specs.declared.operation.Move.TheVariants.{Store, Add, Sub}
use Rattle.room_core.specs.Rooms.{Configuration}
use Rattle.ruled_room.specs.declared.rule.Operation.{Operation}
use Rattle.ruled_room.specs.Rule.{word_count}
use Rattle.ruled_room.specs.Runs.{IsInterleavingOf}

-- it stores in word k
abbrev pub stores : ℕ → Move → Bool
stores k (Store index number) = index == k
stores k move = false

-- it adds to word k, or subtracts from it
abbrev pub sums : ℕ → Move → Bool
sums k (Add index number) = index == k
sums k (Sub index number) = index == k
sums k move = false

-- none of the operations is of this kind
abbrev pub HasNone : (Move → Bool) → List Operation → Type 0
HasNone kind operations = All (λ operation. kind operation.done ≡ false) operations

-- ---- a word in which one simulator stores

-- the number that it stores in word k
abbrev pub stored_by : ℕ → Move → List ℕ
stored_by k (Store index number) = if index == k then number ∷ [] else []
stored_by k move = []

-- the numbers that are stored in word k, in order
abbrev pub stored : ℕ → List Operation → List ℕ
stored k operations = flat_map (λ operation. stored_by k operation.done) operations

abbrev pub last_or : ℕ → List ℕ → ℕ
last_or number [] = number
last_or number (next ∷ numbers) = last_or next numbers

-- word k is simulator i's alone: no other simulator stores in it, and none adds to it or subtracts from it
pub record IsOwnWord (operations : List (List Operation)) (k i : ℕ) : Type 0 where
  pub others : (j : ℕ) → j ≢ i → HasNone (stores k) (slice_index_or operations j [])
  pub unsummed : (j : ℕ) → HasNone (sums k) (slice_index_or operations j [])

-- such a word holds the last number that the simulator's operations stored there, and 0 if they stored none
abbrev pub HoldsLastStored : Type 0
HoldsLastStored = (room : Configuration) (operations : List (List Operation)) (k i : ℕ) → IsInterleavingOf room operations → k < word_count room.spec → IsOwnWord operations k i
    → slice_index room.words k ≡ last_or 0 (stored k (slice_index_or operations i []))

-- ---- a word in which no simulator stores

-- what it adds to word k; a difference adds what the number lacks to 2 ^ 64
abbrev pub added_by : ℕ → Move → ℕ
added_by k (Add index number) = if index == k then number else 0
added_by k (Sub index number) = if index == k then 2 ^ 64 - number else 0
added_by k move = 0

-- what all operations add to word k together
abbrev pub added : ℕ → List (List Operation) → ℕ
added k operations = sum_by (λ own. sum_by (λ operation. added_by k operation.done) own) operations

-- such a word holds the sum of what was added and subtracted, as 64 bits count
abbrev pub HoldsSum : Type 0
HoldsSum = (room : Configuration) (operations : List (List Operation)) (k : ℕ) → IsInterleavingOf room operations → k < word_count room.spec → ((j : ℕ) → HasNone (stores k) (slice_index_or operations j []))
    → slice_index room.words k ≡ added k operations % 2 ^ 64
