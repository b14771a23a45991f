-- Outcomes of later schedules, added to those so far.
use Rattle.std.specs.Prelude.{◌≡◌, ℕ, ◌+◌, max, Bool, true, false, List, [], ◌∷◌, map, zero, suc, Option, Some, None, ⊤, if◌then◌else◌}
use Rattle.std.specs.List.{fold}
use Rattle.arrayvec.specs.declared.array_vec.ArrayVec.{ArrayVec}
use Rattle.ws_history.specs.declared.states.ProcessState.{ProcessState}
use Rattle.room_sample.specs.Groups.{without_holder}
use Rattle.room_sample.specs.Samples.{same_states}
use Rattle.room_sample.specs.Shown.{Shown}
use Rattle.view_sum.specs.Samples.{RoomSample}

abbrev pub state_by : Bool → ProcessState → ProcessState
state_by true state = without_holder state
state_by false state = state

-- what an outcome is known by: in groups, the states of the processes, whichever simulators hold
abbrev pub pattern_by : Bool → List ProcessState → List ProcessState
pattern_by grouped states = map (state_by grouped) states

abbrev pub is_same : Bool → Shown → Shown → Bool
is_same grouped one other = same_states (pattern_by grouped one.states) (pattern_by grouped other.states)

-- it came this many times more, and first by the same schedule
abbrev pub more_times : ℕ → Shown → Shown
more_times count one = record { states = one.states; times = one.times + count; first = one.first; schedule = one.schedule }

-- an outcome of later schedules has come before, and keeps the schedule that it has; or it comes for the first time
abbrev pub with_outcome : Bool → Shown → List Shown → List Shown
with_outcome grouped one [] = one ∷ []
with_outcome grouped one (other ∷ others) = if is_same grouped one other then more_times one.times other ∷ others else other ∷ with_outcome grouped one others

-- the outcomes, where that of an index came this many times more
abbrev pub more_at : ℕ → ℕ → List Shown → List Shown
more_at i count [] = []
more_at zero count (one ∷ others) = more_times count one ∷ others
more_at (suc i) count (one ∷ others) = one ∷ more_at i count others

abbrev pub with_outcomes : Bool → List Shown → List Shown → List Shown
with_outcomes grouped so_far later = fold (λ outcomes one. with_outcome grouped one outcomes) so_far later

abbrev pub broken_in_both : Option ℕ → Option ℕ → Option ℕ
broken_in_both None later = None
broken_in_both (Some times) None = None
broken_in_both (Some times) (Some more) = Some (times + more)

-- the sample of a room, with one of later schedules
abbrev pub with_part : RoomSample → RoomSample → RoomSample
with_part so_far later = record {
  name = so_far.name;
  how = so_far.how;
  decided = max so_far.decided later.decided;
  held = max so_far.held later.held;
  broken = broken_in_both so_far.broken later.broken;
  outcomes = with_outcomes so_far.how.grouped so_far.outcomes later.outcomes;
}

-- ---- how they are kept

-- what each outcome is known by
abbrev pub ArePatterns : Bool → List Shown → List (ArrayVec ProcessState 16 (Unit {0})) → Type 0
ArePatterns grouped [] [] = ⊤
ArePatterns grouped (one ∷ outcomes) (pattern ∷ patterns) = (pattern.items ≡ pattern_by grouped one.states) × ArePatterns grouped outcomes patterns
ArePatterns grouped [] (pattern ∷ patterns) = ⊥
ArePatterns grouped (one ∷ outcomes) [] = ⊥
