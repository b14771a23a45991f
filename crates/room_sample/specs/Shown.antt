-- What is shown of an outcome: a schedule that leads to it.
use Rattle.std.specs.Prelude.{◌≡◌, ℕ, List, [], ◌∷◌, Option, Some, None, ⊤, Bool, true}
use Rattle.room_spec.specs.Rooms.{RoomSpec}
use Rattle.ws_history.specs.declared.states.ProcessState.{ProcessState}
use Rattle.room_sample.specs.Samples.{Counted}
use Rattle.room_sample.specs.Schedules.{IsOutcome}
use Rattle.room_sample.specs.declared.examples.Example.{Example}
use Rattle.room_sample.specs.declared.stretch.Stretch.{Stretch}

-- a schedule leads to these states if another one does
pub record KeepsOutcome (spec : RoomSpec) (crashes : ℕ) (states : List ProcessState) (old new : List Stretch) : Type 0 where
  pub keeps : IsOutcome spec crashes old states → IsOutcome spec crashes new states

-- an outcome as it is shown: the states of the processes, how often they came, the number of the first schedule that led to them, and a schedule
pub record Shown : Type 0 where
  pub states : List ProcessState
  pub times : ℕ
  pub first : ℕ
  pub schedule : List Stretch

-- The same states, as often, and first by the same schedule; and if schedules are shown, this one leads to the states.
pub record IsShown (spec : RoomSpec) (crashes : ℕ) (scripts : Bool) (one : Counted) (shown : Shown) : Type 0 where
  pub states_are : shown.states ≡ one.states
  pub times_are : shown.times ≡ one.times
  pub first_is : shown.first ≡ one.first
  pub leads : scripts ≡ true → IsOutcome spec crashes shown.schedule shown.states

-- each in a list
abbrev pub AreShown : RoomSpec → ℕ → Bool → List Counted → List Shown → Type 0
AreShown spec crashes scripts [] [] = ⊤
AreShown spec crashes scripts (one ∷ outcomes) (other ∷ shown) = IsShown spec crashes scripts one other × AreShown spec crashes scripts outcomes shown
AreShown spec crashes scripts [] (other ∷ shown) = ⊥
AreShown spec crashes scripts (one ∷ outcomes) [] = ⊥

-- one, if there is one
abbrev pub IsShownIf : RoomSpec → ℕ → Bool → Option Counted → Option Shown → Type 0
IsShownIf spec crashes scripts None None = ⊤
IsShownIf spec crashes scripts (Some one) (Some other) = IsShown spec crashes scripts one other
IsShownIf spec crashes scripts None (Some other) = ⊥
IsShownIf spec crashes scripts (Some one) None = ⊥

-- ---- how they are kept

abbrev pub shown_of : Example → Shown
shown_of example = record { states = example.states.items; times = example.times; first = example.first; schedule = example.schedule.items }
