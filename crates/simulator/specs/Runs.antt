-- Many atomic steps of one mind, by what they were answered.
use Rattle.std.specs.Prelude.{◌≡◌, ℕ, List, [], ◌∷◌, length}
use Rattle.room_spec.specs.Rooms.{RoomSpec}
use Rattle.simulator.specs.declared.operation.Move.{Move}
use Rattle.simulator.specs.declared.turn.Turn.{Turn}
use Rattle.simulator.specs.declared.turn.Turn.TheVariants.{Still}
use Rattle.simulator.specs.Minds.{MindState}
use Rattle.simulator.specs.Moves.{IsOperation, move_of, taken}
use Rattle.simulator.specs.Ranges.{IsMind}

-- the mind after these answers
abbrev pub taken_along : RoomSpec → MindState → List ℕ → MindState
taken_along spec mind [] = mind
taken_along spec mind (answer ∷ answers) = taken_along spec (taken spec mind answer).mind answers

-- Each answer was given by the memory for the operation that the mind wanted then. The last operation left `last`.
abbrev pub Asked : {M : Type 0} → (M → Move → ℕ → M → Type 0) → RoomSpec → M → MindState → List ℕ → M → Type 0
Asked does spec memory mind [] last = memory ≡ last
Asked does spec memory mind (answer ∷ answers) last =
    (next : _) × does memory (move_of spec mind) answer next × Asked does spec next (taken spec mind answer).mind answers last

-- Each answer but the last left the turn open, and the last made this of it.
abbrev pub LeavesTurn : RoomSpec → MindState → List ℕ → Turn → Type 0
LeavesTurn spec mind [] turn = turn ≡ Still
LeavesTurn spec mind (answer ∷ []) turn = (taken spec mind answer).turn ≡ turn
LeavesTurn spec mind (answer ∷ next ∷ answers) turn =
    ((taken spec mind answer).turn ≡ Still) × LeavesTurn spec (taken spec mind answer).mind (next ∷ answers) turn

-- This many atomic steps, each the operation that the mind wanted then, lead from this memory and mind to those others, and
-- no turn ended before the last of them, which made this of the turn.
pub record Runs {M : Type 0} (does : M → Move → ℕ → M → Type 0) (spec : RoomSpec) (memory : M) (mind : MindState) (count : ℕ) (last : M) (after : MindState) (turn : Turn) : Type 0 where
  pub answers : List ℕ
  pub as_many : length answers ≡ count
  pub mind_is : after ≡ taken_along spec mind answers
  pub asked : Asked does spec memory mind answers last
  pub turn_is : LeavesTurn spec mind answers turn

-- The memory serves the mind, which wants an operation next unless the turn has ended.
pub record Wants {M C : Type 0} (serves : M → C → RoomSpec → MindState → Type 0) (context : C) (spec : RoomSpec) (memory : M) (mind : MindState) (turn : Turn) : Type 0 where
  pub is_mind : IsMind spec mind
  pub operation : turn ≡ Still → IsOperation (move_of spec mind)
  pub served : serves memory context spec mind

-- From wherever this many atomic steps led to this memory and mind, this many lead on to those others.
abbrev pub Continues : {M : Type 0} → (M → Move → ℕ → M → Type 0) → RoomSpec → ℕ → M → MindState → Turn → ℕ → M → MindState → Turn → Type 0
Continues does spec count memory mind turn later_count later_memory later_mind later_turn =
    (first : _) (start : MindState) → Runs does spec first start count memory mind turn → Runs does spec first start later_count later_memory later_mind later_turn
