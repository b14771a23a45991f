-- What a room and its fields keep while they take the same steps: the words stand for the fields, and each mind says what its
-- simulator has made of the fields.
use Rattle.std.specs.Prelude.{◌≡◌, ◌≢◌, ℕ, ◌+◌, ◌<◌, ◌≤◌, ◌==◌, if◌then◌else◌, ⊤}
use Rattle.room_spec.specs.Rooms.{RoomSpec}
use Rattle.room_spec.specs.Sizes.{sizes_in}
use Rattle.sim_memory.specs.Steps.{AreWithin}
use Rattle.simulator.specs.declared.goal.Goal.{Goal}
use Rattle.simulator.specs.declared.goal.Goal.TheVariants as goals
use Rattle.simulator.specs.declared.line.Line.{Line}
use Rattle.simulator.specs.declared.line.Line.TheVariants.{Rest, Raise, Snap, Show, Enter, Look, Leave, Ask, GetInput, GetView, Values, Out}
use Rattle.simulator.specs.Minds.{MindOf, goal_at}
use Rattle.room_core.specs.Rooms.{Configuration}
use Rattle.room_core.specs.Fields.{StepMap, Fields}
use Rattle.room_core.specs.Reading.{Reads}

-- How far an open turn has come: it has stored a write, counted it, entered the agreement, or left it.
pub data Stage : Type 0 where
  AtRest : Stage
  Stored : Stage
  Counted : Stage
  Inside : Stage
  Past : Stage

abbrev pub stage_of : Line → Stage
stage_of Rest = AtRest
stage_of Raise = Stored
stage_of Snap = Counted
stage_of Show = Counted
stage_of Enter = Counted
stage_of Look = Inside
stage_of (Leave saw_two) = Inside
stage_of Ask = Past
stage_of (GetInput chosen) = Past
stage_of (GetView chosen) = Past
stage_of Values = Past
stage_of (Out decision) = Past

-- the levels of the rounds from this one on are 0
abbrev pub IsZeroFrom : ℕ → (ℕ → ℕ) → Type 0
IsZeroFrom round level = (k : ℕ) → round ≤ k → level k ≡ 0

-- no level of an earlier round is 1
abbrev pub NoOneBelow : ℕ → (ℕ → ℕ) → Type 0
NoOneBelow round level = (k : ℕ) → k < round → level k ≢ 1

-- what a goal for a process says of its step number
abbrev pub Counts : ℕ → Goal → Stage → ℕ → Type 0
Counts rounds (goals.Write k value) AtRest step = step + 1 ≡ k
Counts rounds (goals.Write k value) Stored step = step + 1 ≡ k
Counts rounds (goals.Write k value) Counted step = step ≡ k
Counts rounds (goals.Write k value) Inside step = step ≡ k
Counts rounds (goals.Write k value) Past step = step ≡ k
Counts rounds (goals.Ask k) AtRest step = step ≡ k
Counts rounds (goals.Ask k) Stored step = ⊥
Counts rounds (goals.Ask k) Counted step = ⊥
Counts rounds (goals.Ask k) Inside step = ⊥
Counts rounds (goals.Ask k) Past step = step ≡ k
Counts rounds (goals.Propose value) AtRest step = step ≡ 0
Counts rounds (goals.Propose value) Stored step = ⊥
Counts rounds (goals.Propose value) Counted step = step ≡ 0
Counts rounds (goals.Propose value) Inside step = step ≡ 0
Counts rounds (goals.Propose value) Past step = step ≡ 0
Counts rounds goals.AskInput AtRest step = step ≡ 0
Counts rounds goals.AskInput Stored step = ⊥
Counts rounds goals.AskInput Counted step = ⊥
Counts rounds goals.AskInput Inside step = ⊥
Counts rounds goals.AskInput Past step = step ≡ 0
Counts rounds goals.Done AtRest step = ⊤
Counts rounds goals.Done stage step = ⊥
Counts rounds goals.Spent AtRest step = step ≡ rounds
Counts rounds goals.Spent stage step = ⊥

-- What a step number says of the levels, whatever the goal: no simulator has entered a later round, and the earlier rounds are left.
abbrev pub Levels : Stage → ℕ → (ℕ → ℕ) → Type 0
Levels AtRest step level = IsZeroFrom (step + 1) level × NoOneBelow (step + 1) level
Levels Stored step level = IsZeroFrom (step + 1) level × NoOneBelow (step + 1) level
Levels Counted step level = IsZeroFrom step level × NoOneBelow step level
Levels Inside step level = IsZeroFrom (step + 1) level × NoOneBelow step level × (level step ≡ 1)
Levels Past step level = IsZeroFrom (step + 1) level × NoOneBelow (step + 1) level

-- before it proposes an input it has entered no round, the round 0 included: as in a turn that is about to enter
abbrev pub rest_stage : Goal → Stage
rest_stage (goals.Propose value) = Counted
rest_stage goal = AtRest

abbrev pub levels_stage : Goal → Stage → Stage
levels_stage goal AtRest = rest_stage goal
levels_stage goal stage = stage

-- what a goal for a process says of its step number and levels
pub record Tells (rounds : ℕ) (goal : Goal) (stage : Stage) (step : ℕ) (level : ℕ → ℕ) : Type 0 where
  pub counts : Counts rounds goal stage step
  pub levels : Levels (levels_stage goal stage) step level

-- where a mind is with a process: at rest, but for that of its open turn
abbrev pub stage_for : {S : Type 0} → MindOf S → ℕ → Stage
stage_for mind p = if p == mind.process then stage_of mind.line else AtRest

-- the goals of a mind say, each of its own process
abbrev pub ToldBy : ℕ → MindOf StepMap → (ℕ → ℕ) → (ℕ → ℕ → ℕ) → Type 0
ToldBy rounds mind step level = (p : ℕ) → Tells rounds (goal_at mind.goals p) (stage_for mind p) (step p) (level p)

-- the numbers of the fields are in range
pub record AreInRange (spec : RoomSpec) (fields : Fields) : Type 0 where
  pub step : (i p : ℕ) → fields.step i p ≤ spec.rounds
  pub level : (i j k : ℕ) → fields.level i j k ≤ 2
  pub view : (i j k : ℕ) → AreWithin (sizes_in spec) (fields.view i j k)

-- What the fields of every room keep: each mind says what its simulator's fields are, and all numbers are in range.
pub record KeepsTrack (spec : RoomSpec) (fields : Fields) : Type 0 where
  pub told : (i : ℕ) → ToldBy spec.rounds (fields.mind i) (fields.step i) (fields.level i)
  pub range : AreInRange spec fields
  pub before : (i : ℕ) → AreWithin (sizes_in spec) (fields.mind i).before
  pub snapshot : (i : ℕ) → AreWithin (sizes_in spec) (fields.mind i).snapshot

-- The words, minds and marks of the room stand for these fields, which keep what the fields of every room keep.
pub record StandsFor (room : Configuration) (fields : Fields) : Type 0 where
  pub reads : Reads room fields
  pub tracks : KeepsTrack room.spec fields
