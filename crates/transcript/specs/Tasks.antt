-- Agreement tasks: how many different values may be decided, and which (Chaudhuri 1993).
use Rattle.std.specs.Prelude.{◌≡◌, ℕ, ◌≤◌, not, List, [], ◌∷◌, ◌++◌, length, Option, Some, None, take, ◌==◌, IfSome, slice_get}
use Rattle.std.specs.List.{Contains, filter, filter_map}
use Rattle.room_spec.specs.Rooms.{RoomSpec}
use Rattle.transcript.specs.declared.event.Event.{Event}
use Rattle.transcript.specs.declared.event.Event.TheVariants.{Write, Snap, Decide}

-- ---- the values that are decided

abbrev pub decided_by : Event → Option ℕ
decided_by (Write p v) = None
decided_by (Snap p row) = None
decided_by (Decide p v) = Some v

abbrev pub decided_in : List Event → List ℕ
decided_in events = filter_map decided_by events

-- the different values of a list, each where it comes first
abbrev pub different : List ℕ → List ℕ
different [] = []
different (x ∷ xs) = x ∷ filter (λ y. not (y == x)) (different xs)

-- ---- the task: at most that number of different values are decided, and each is some process's input

-- the value may be decided after these events
pub record MayBeDecided (spec : RoomSpec) (most : ℕ) (before : List Event) (v : ℕ) : Type 0 where
  pub input : Contains spec.inputs v
  pub few : length (different (decided_in before ++ v ∷ [])) ≤ most

abbrev pub IsInTask : RoomSpec → ℕ → List Event → Event → Type 0
IsInTask spec most before (Write p v) = Unit {0}
IsInTask spec most before (Snap p row) = Unit {0}
IsInTask spec most before (Decide p v) = MayBeDecided spec most before v

-- each decision is one that the task allows after those before it
abbrev pub KeepsTask : RoomSpec → ℕ → List Event → Type 0
KeepsTask spec most events = (t : ℕ) (event : Event) → slice_get events t ≡ Some event → IsInTask spec most (take t events) event

-- the events keep the room's task, if it has one
abbrev pub KeepsOwnTask : RoomSpec → List Event → Type 0
KeepsOwnTask spec events = IfSome spec.task (λ most. KeepsTask spec most events)

-- t is the first place whose decision the task doesn't allow
pub record IsFirstExcess (spec : RoomSpec) (most : ℕ) (events : List Event) (t : ℕ) : Type 0 where
  pub event : Event
  pub there : slice_get events t ≡ Some event
  pub breaks : IsInTask spec most (take t events) event → ⊥
  pub kept_before : KeepsTask spec most (take t events)
