-- Runs of a room, counted by their outcomes.
use Rattle.std.specs.Prelude.{◌≡◌, ◌⊎◌, ℕ, ◌+◌, ◌-◌, ◌%◌, ◌^◌, ◌<◌, ◌≤◌, Bool, List, [], ◌∷◌, length, map, min, Some, slice_get, slice_index_or, if◌then◌else◌}
use Rattle.std.specs.List.{All, fold, sum_by}
use Rattle.std.specs.Cmp.Lexicographic.{pointwise}
use Rattle.arrayvec.specs.declared.array_vec.ArrayVec.{ArrayVec}
use Rattle.room_spec.specs.Rooms.{RoomSpec, processes}
use Rattle.ws_history.specs.contracts.states.ProcessStatePartialEq.TheImpl.{ghosts}
use Rattle.ws_history.specs.declared.states.ProcessState.{ProcessState}
use Rattle.rand_core.specs.Stream.{Stream}
use Rattle.room_core.specs.Calls.{RoomState}
use Rattle.room_outcomes.specs.Ends.{IsRoomOutcome, ends_of}
use Rattle.room_sample.specs.Chances.{random_of}
use Rattle.room_sample.specs.Drawn.{IsThrough, Way, most_draws}
use Rattle.room_sample.specs.Schedules.{HasStopped, IsOutcome, IsSettledAfter}
use Rattle.room_sample.specs.declared.sampling.Plan.{Plan}
use Rattle.room_sample.specs.declared.stretch.Stretch.{Stretch}
use Rattle.room_sample.specs.declared.tally.Outcome.{Outcome}

-- the number of a schedule, the schedule, and the states of the processes after it
pub record Sampled : Type 0 where
  pub number : ℕ
  pub schedule : List Stretch
  pub states : List ProcessState

-- an outcome, the number of the schedule that it came by first, and how often it came
pub record Counted : Type 0 where
  pub states : List ProcessState
  pub first : ℕ
  pub times : ℕ

abbrev pub same_states : List ProcessState → List ProcessState → Bool
same_states one other = pointwise ghosts.eq one other

abbrev pub first_time : Sampled → Counted
first_time run = record { states = run.states; first = run.number; times = 1 }

-- it stops at the greatest number that is counted
abbrev pub once_more : Counted → Counted
once_more one = record { states = one.states; first = one.first; times = min (one.times + 1) (2 ^ 32 - 1) }

-- one run more: its outcome has come before, or comes for the first time
abbrev pub counted : Sampled → List Counted → List Counted
counted run [] = first_time run ∷ []
counted run (one ∷ others) = if same_states run.states one.states then once_more one ∷ others else one ∷ counted run others

abbrev pub counted_all : List Sampled → List Counted
counted_all runs = fold (λ so_far run. counted run so_far) [] runs

-- A run of a room by a schedule that is drawn from a stream, in which at most this many simulators crash. It goes on until each simulator has
-- stopped, unless as many draws are made as may be.
pub record IsRunFrom (spec : RoomSpec) (crashes : ℕ) (random : Stream) (schedule : List Stretch) (states : List ProcessState) : Type 0 where
  pub way : Way
  pub drawn : IsThrough spec crashes random way
  pub schedule_is : schedule ≡ way.schedule
  pub outcome : IsOutcome spec crashes schedule states
  pub ends : (drawn.draws ≡ most_draws) ⊎ ((i : ℕ) → i < spec.simulators → HasStopped spec schedule i)

-- The room of a run by a schedule that is drawn from a stream, once it has settled.
pub record IsSettledFrom (spec : RoomSpec) (crashes : ℕ) (random : Stream) (schedule : List Stretch) (room : RoomState) : Type 0 where
  pub way : Way
  pub drawn : IsThrough spec crashes random way
  pub schedule_is : schedule ≡ way.schedule
  pub settled : IsSettledAfter spec crashes schedule room

-- the number of the schedule of a place in a plan, from 0: after the greatest number comes 0
abbrev pub number_at : Plan → ℕ → ℕ
number_at plan place = (plan.from + place) % 2 ^ 32

-- The run by the schedule of a place, which is drawn from a stream of its own: that of the seed and of the schedule's number.
pub record IsRunOf (spec : RoomSpec) (plan : Plan) (place : ℕ) (run : Sampled) : Type 0 where
  pub number_is : run.number ≡ number_at plan place
  pub drawn : IsRunFrom spec plan.crashes (random_of plan.seed (number_at plan place)) run.schedule run.states

-- The runs by the schedules of this many places from the first one on, in order.
pub record AreRunsFrom (spec : RoomSpec) (plan : Plan) (first count : ℕ) (runs : List Sampled) : Type 0 where
  pub length_is : length runs ≡ count
  pub drawn : (k : ℕ) (run : Sampled) → slice_get runs k ≡ Some run → IsRunOf spec plan (first + k) run

-- The outcomes of this many runs, by the schedules of the places from 0 on. Each outcome has the number of the first schedule that led to it.
pub record IsSampleOf (spec : RoomSpec) (plan : Plan) (schedules : ℕ) (outcomes : List Counted) : Type 0 where
  pub runs : List Sampled
  pub count : length runs ≡ schedules
  pub drawn : (k : ℕ) (run : Sampled) → slice_get runs k ≡ Some run → IsRunOf spec plan k run
  pub outcomes_are : outcomes ≡ counted_all runs
  pub total : sum_by (λ one. one.times) outcomes ≡ schedules

-- the schedule of an outcome's number leads to it
pub record CameByFirst (spec : RoomSpec) (plan : Plan) (one : Counted) : Type 0 where
  pub schedule : List Stretch
  pub drawn : IsRunFrom spec plan.crashes (random_of plan.seed one.first) schedule one.states

-- the outcomes of a room by a plan
abbrev pub IsSample : RoomSpec → Plan → List Counted → Type 0
IsSample spec plan outcomes = IsSampleOf spec plan plan.schedules outcomes

-- Each outcome is one of those that a search of all runs lists, with those processes stopped that are held or still going.
abbrev pub AreAmongAll : RoomSpec → List Counted → Type 0
AreAmongAll spec outcomes = All (λ one. IsRoomOutcome spec (processes spec) (ends_of one.states)) outcomes

-- the place of the schedule of a number in a plan that begins with another one: after the greatest number comes 0
abbrev pub place_of : ℕ → ℕ → ℕ
place_of from number = (number + (2 ^ 32 - from)) % 2 ^ 32

-- one outcome came more often than another one, or as often and by no later schedule first
abbrev pub GoesBefore : ℕ → Counted → Counted → Type 0
GoesBefore from one next = (next.times < one.times) ⊎ ((next.times ≡ one.times) × (place_of from one.first ≤ place_of from next.first))

-- the most frequent are first, and of those that came as often the one that came first
abbrev pub AreMostFirst : ℕ → List Counted → Type 0
AreMostFirst from outcomes = (k : ℕ) (d : Counted) → k + 1 < length outcomes → GoesBefore from (slice_index_or outcomes k d) (slice_index_or outcomes (k + 1) d)

-- ---- how they are kept

abbrev pub Entry : Type 0
Entry = ArrayVec ProcessState 16 (Unit {0}) × Outcome

abbrev pub counted_of : Entry → Counted
counted_of entry = record { states = entry.0.items; first = entry.1.first; times = entry.1.times }

abbrev pub outcomes_in : List Entry → List Counted
outcomes_in entries = map counted_of entries
