-- Outcomes are taken from one node after the other.
use Rattle.std.specs.Prelude.{◌≡◌, ◌⊎◌, ℕ, ◌+◌, ◌<◌, ◌≤◌, Bool, true, false, List, Some, length, slice_get}
use Rattle.std.specs.List.{Contains, filter, range_with_len}
use Rattle.room_spec.specs.Rooms.{RoomSpec, processes}
use Rattle.room_core.specs.Calls.{RoomState}
use Rattle.room_core.specs.Rooms.{Configuration, crashed_at}
use Rattle.room_sample.specs.Schedules.{IsSchedule, crashes_in, room_after_schedule}
use Rattle.room_sample.specs.declared.stretch.Stretch.{Stretch}
use Rattle.simulator.specs.Knowing.{mind_of}
use Rattle.room_outcomes.specs.Ends.{IsRoomOutcome}
use Rattle.run_search.specs.Outcomes.{Ends}
use Rattle.room_search.specs.declared.choice.Choice.{Choice}
use Rattle.room_search.specs.declared.local.Local.{Local}
use Rattle.room_search.specs.declared.reached.Reached.{Reached}
use Rattle.room_search.specs.declared.running.Scheduled.{Scheduled}
use Rattle.room_search.specs.declared.taking.Taking.{Taking}
use Rattle.room_search.specs.Beginnings.{crash_count}
use Rattle.room_search.specs.Ends.{ends_by}
use Rattle.room_search.specs.Nodes.{MayBe, Node}
use Rattle.room_search.specs.Reaching.{IsFound, IsReachedFrom, outcome_of, settled_from}
use Rattle.room_search.specs.Resting.{Rests}
use Rattle.room_search.specs.Saying.{DoSay}

-- A simulator may be in a local state that says of its words what they are; and it can go no further there, unless it has crashed. One that had crashed at the start has.
pub record MayEnd (spec : RoomSpec) (start : Configuration) (table : List Local) (node : Node) (i : ℕ) (crashed : Bool) (words : List ℕ) : Type 0 where
  pub local : Local
  pub may : MayBe table node i local
  pub own : DoSay local.own.items words
  pub rests : crashed ≡ false → Rests spec words (mind_of local.known).goals
  pub had : crashed_at start i ≡ true → crashed ≡ true

abbrev pub one_if : Bool → ℕ
one_if true = 1
one_if false = 0

-- how many of these simulators have crashed
abbrev pub crashed_from : (ℕ → Bool) → ℕ → ℕ → ℕ
crashed_from crashed first count = length (filter crashed (range_with_len first count))

-- The outcome of each room of the node of which this is said is found, if at most this many of its last simulators have crashed, as many as are counted, and the
-- others of them can go no further.
abbrev pub AreFoundFrom : RoomSpec → Configuration → List Local → List Reached → Node → ℕ → ℕ → ℕ → List ℕ → Type 0
AreFoundFrom spec start table outcomes node first count crashes said =
    (crashed : ℕ → Bool) (words : List ℕ) → crashed_from crashed first count ≤ crashes → DoSay node.said words → DoSay said words
    → ((i : ℕ) → first ≤ i → i < first + count → MayEnd spec start table node i (crashed i) words) → IsFound outcomes (ends_by spec words)

-- The outcome of each room of the node is found, if at most this many simulators have crashed and the others can go no further.
abbrev pub IsTaken : RoomSpec → Configuration → ℕ → List Local → List Reached → Node → Type 0
IsTaken spec start crashes table outcomes node = AreFoundFrom spec start table outcomes node 0 spec.simulators crashes node.said

-- Some room of the node has simulator i in this local state, with words of which that is said; it has crashed, or can go no further.
pub record MayBeIn (spec : RoomSpec) (start : Configuration) (node : Node) (i : ℕ) (local : Local) (crashed : Bool) (words : List ℕ) : Type 0 where
  pub says : DoSay node.said words
  pub own : DoSay local.own.items words
  pub rests : crashed ≡ false → Rests spec words (mind_of local.known).goals
  pub had : crashed_at start i ≡ true → crashed ≡ true

-- If simulator i is in this local state in some room of the node, it has crashed: it had at the start, or it can go further in each.
abbrev pub MustHaveCrashed : RoomSpec → Configuration → Node → ℕ → Local → Type 0
MustHaveCrashed spec start node i local = (crashed_at start i ≡ true) ⊎ ((words : List ℕ) → DoSay node.said words → Rests spec words (mind_of local.known).goals → ⊥)

-- In each room of the node in which each of the first simulators has crashed or can go no further, at least this many of them have crashed.
abbrev pub HaveCrashed : RoomSpec → Configuration → List Local → Node → ℕ → ℕ → Type 0
HaveCrashed spec start table node first least =
    (crashed : ℕ → Bool) (words : List ℕ) → DoSay node.said words → ((i : ℕ) → i < first → MayEnd spec start table node i (crashed i) words) → least ≤ crashed_from crashed 0 first

-- the simulator after those that are chosen is in this local state: that is said as well, and one fewer may crash if it has crashed
pub record IsChosen (spec : RoomSpec) (start : Configuration) (node : Node) (local : Local) (choice next : Choice) : Type 0 where
  pub says : (words : List ℕ) → DoSay choice.said.items words → DoSay local.own.items words → DoSay next.said.items words
  pub left : (crashed : Bool) (words : List ℕ) → MayBeIn spec start node (length choice.numbers.items) local crashed words → choice.left ≤ next.left + one_if crashed

-- it isn't, since it has crashed if it is, and no more may
abbrev pub IsNoChoice : RoomSpec → Configuration → Node → Local → Choice → Type 0
IsNoChoice spec start node local choice = (crashed : Bool) (words : List ℕ) → MayBeIn spec start node (length choice.numbers.items) local crashed words → choice.left < one_if crashed

-- all of some list are in another
abbrev pub Includes : {A : Type 0} → List A → List A → Type 0
Includes {A} some all = (one : A) → Contains some one → Contains all one

-- each outcome is kept under its ends
pub record AreKept (ends : List Ends) (outcomes : List Reached) : Type 0 where
  pub count : length outcomes ≡ length ends
  pub each : (index : ℕ) (one : Ends) (reached : Reached) → slice_get ends index ≡ Some one → slice_get outcomes index ≡ Some reached → one.items ≡ outcome_of reached

-- the schedule of a room on its way has led to it from the start, and at most this many simulators crash in all
pub record IsOnTheWay (start : RoomState) (crashes : ℕ) (way : Scheduled) : Type 0 where
  pub may_come : IsSchedule start way.schedule.items
  pub leads : room_after_schedule start way.schedule.items ≡ way.room
  pub few : crashes_in way.schedule.items + way.crashes_left ≤ crashes

-- This is the room, once it has settled after a schedule from the start on, in which at most this many simulators crash.
pub record IsSettledIn (start : RoomState) (crashes : ℕ) (schedule : List Stretch) (room : RoomState) : Type 0 where
  pub may_come : IsSchedule start schedule
  pub few : crashes_in schedule ≤ crashes
  pub room_is : room ≡ settled_from start schedule

-- the same, if those simulators count that have crashed at the start
pub record IsSettledFrom (start : RoomState) (crashes : ℕ) (schedule : List Stretch) (room : RoomState) : Type 0 where
  pub may_come : IsSchedule start schedule
  pub few : crash_count start + crashes_in schedule ≤ crashes
  pub room_is : room ≡ settled_from start schedule

-- what was taken so far
pub record IsTaking (spec : RoomSpec) (start : RoomState) (crashes : ℕ) (taking : Taking) : Type 0 where
  pub kept : AreKept taking.ends.keys taking.outcomes.items
  pub reached : (reached : Reached) → Contains taking.outcomes.items reached → IsReachedFrom start crashes reached
  pub among : (reached : Reached) → Contains taking.outcomes.items reached → IsRoomOutcome spec (processes spec) (outcome_of reached)
