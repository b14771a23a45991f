-- All outcomes of a room, each with a run that has it.
use Rattle.std.specs.Prelude.{◌≡◌, ◌<◌, ◌≤◌, ℕ, ◌+◌, ◌-◌, Bool, IfSome, IsPermutation, is_none, List, length, map, Option, Some, None, slice_get, slice_index_or}
use Rattle.std.specs.List.{Contains}
use Rattle.room_spec.specs.Rooms.{RoomSpec}
use Rattle.transcript.specs.declared.event.Event.{Event}
use Rattle.transcript.specs.Runs.{IsRun}
use Rattle.transcript.specs.Tasks.{KeepsOwnTask}
use Rattle.run_search.specs.declared.ended.Ended.{Ended}
use Rattle.run_search.specs.Outcomes.{IsRunOutcome, IsShortest, outcome_of}
use Rattle.run_search.specs.Tasks.{IsBreakingRun, IsShortestBreaking}
use Rattle.view_outcomes.specs.Counts.{values_in}
use Rattle.view_outcomes.specs.declared.listing.Listed.{Listed}

-- the events are a shortest run that has the outcome; there are none exactly if it is brief
pub record HasRun (spec : RoomSpec) (brief : Bool) (one : Listed) : Type 0 where
  pub run : IfSome one.events (λ events. IsRun spec events.items × IsShortest spec events.items × (one.ends.items ≡ outcome_of spec events.items))
  pub shown : is_none one.events ≡ brief

abbrev pub listed_ends : List Listed → List (List Ended)
listed_ends all = map (λ one. one.ends.items) all

-- all outcomes of the room's runs in which at most `crashes` processes stop, each once, and each with a shortest run that has it unless brief
pub record AreAllListed (spec : RoomSpec) (crashes : ℕ) (brief : Bool) (all : List Listed) : Type 0 where
  pub runs : (i : ℕ) (one : Listed) → slice_get all i ≡ Some one → HasRun spec brief one
  pub sound : (outcome : List Ended) → Contains (listed_ends all) outcome → IsRunOutcome spec crashes outcome
  pub complete : (outcome : List Ended) → IsRunOutcome spec crashes outcome → Contains (listed_ends all) outcome
  pub distinct : (i j : ℕ) (outcome : List Ended) → slice_get (listed_ends all) i ≡ Some outcome → slice_get (listed_ends all) j ≡ Some outcome → i ≡ j

-- those with most decided values are first
abbrev pub AreMostFirst : List Listed → Type 0
AreMostFirst all = (k : ℕ) (d : Listed) → k + 1 < length all → values_in (slice_index_or all (k + 1) d).ends.items ≤ values_in (slice_index_or all k d).ends.items

-- all outcomes of the room's runs, in the order of the list: those with most decided values first
pub record AreInOrder (spec : RoomSpec) (crashes : ℕ) (brief : Bool) (all : List Listed) : Type 0 where
  pub found : List Listed
  pub outcomes : AreAllListed spec crashes brief found
  pub same : IsPermutation found all
  pub most_first : AreMostFirst all

-- the outcome of this number in the list, from 1
abbrev pub chosen : ℕ → List Listed → Option Listed
chosen number all = slice_get all (number - 1)

-- each run keeps the room's task, or these are the events of a shortest one that breaks it
abbrev pub IsTaskOfRuns : RoomSpec → Option (List Event) → Type 0
IsTaskOfRuns spec None = (events : List Event) → IsRun spec events → KeepsOwnTask spec events
IsTaskOfRuns spec (Some events) = IsBreakingRun spec events × IsShortestBreaking spec events
