-- Whether a room's decisions keep its task, and what is kept of them.
use Rattle.std.specs.Prelude.{◌≡◌, ℕ, ◌≤◌, Bool, List, [], ◌∷◌, ◌++◌, length, Option, MatchBool}
use Rattle.room_spec.specs.Rooms.{RoomSpec}
use Rattle.transcript.specs.declared.event.Event.{Event}
use Rattle.std.specs.List.{Contains}
use Rattle.transcript.specs.Runs.{IsRun}
use Rattle.transcript.specs.Tasks.{MayBeDecided, IsInTask, decided_in, different}

-- in each run of the room at most this many different values are decided
abbrev pub DecidesAtMost : RoomSpec → ℕ → Type 0
DecidesAtMost spec most = (events : List Event) → IsRun spec events → length (different (decided_in events)) ≤ most

-- in each run of the room each value that is decided is an input
abbrev pub DecidesInputs : RoomSpec → Type 0
DecidesInputs spec = (events : List Event) (v : ℕ) → IsRun spec events → Contains (decided_in events) v → Contains spec.inputs v

-- what is kept: the values that were decided, and the line of the first decision that the task doesn't allow
pub record TallyState : Type 0 where
  pub decided : List ℕ
  pub excess : Option ℕ

-- what is kept are the different values that were decided, of which there are not too many
pub record IsTally (most : ℕ) (before : List Event) (values : List ℕ) : Type 0 where
  pub values_are : values ≡ different (decided_in before)
  pub few : length values ≤ most

-- Whatever the events before it were: where the answer is yes, v may be decided after them, and what is kept counts it; where it is
-- no, it may not.
abbrev pub Allows : RoomSpec → ℕ → ℕ → List ℕ → Bool → List ℕ → Type 0
Allows spec most v old answer new =
    (before : List Event) → IsTally most before old
    → MatchBool answer (MayBeDecided spec most before v × (new ≡ different (decided_in before ++ v ∷ [])) × (length new ≤ most)) (MayBeDecided spec most before v → ⊥)

-- the same of any event
abbrev pub HasDecided : RoomSpec → ℕ → Event → List ℕ → Bool → List ℕ → Type 0
HasDecided spec most event old answer new =
    (before : List Event) → IsTally most before old
    → MatchBool answer (IsInTask spec most before event × IsTally most (before ++ event ∷ []) new) (IsInTask spec most before event → ⊥)
