-- Moments of a schedule, and the step numbers at that moment.
use Rattle.std.specs.Prelude.{◌≡◌, ◌≢◌, ℕ, ◌+◌, ◌≤◌, List, [], ◌∷◌, ◌++◌, length, take}
use Rattle.room_spec.specs.Rooms.{RoomSpec, processes}
use Rattle.sim_memory.specs.Steps.{AreSameSteps}
use Rattle.simulator.specs.declared.line.Line.TheVariants.{Snap}
use Rattle.simulator.specs.Minds.{current_round}
use Rattle.simulator.specs.Turns.{words_in}
use Rattle.room_core.specs.Rooms.{ScheduleEvent, steps}
use Rattle.room_core.specs.Fields.{StepMap, Fields, opening_fields, replay_fields}

-- the fields after the first `time` events of a schedule
abbrev pub fields_at : RoomSpec → List ScheduleEvent → ℕ → Fields
fields_at spec schedule time = replay_fields spec (opening_fields spec) (take time schedule)

-- A map is the step numbers at some moment, at which simulator i had counted k writes of process j.
pub record IsMoment (spec : RoomSpec) (schedule : List ScheduleEvent) (i j k : ℕ) (map : StepMap) : Type 0 where
  pub time : ℕ
  pub early : time ≤ length schedule
  pub same : AreSameSteps spec.simulators (processes spec) map (fields_at spec schedule time).step
  pub own : map i j ≡ k

-- the step numbers at each moment
abbrev pub steps_at : RoomSpec → List ScheduleEvent → ℕ → StepMap
steps_at spec schedule time = (fields_at spec schedule time).step

-- at this moment simulator i had counted k writes of process j
abbrev pub HasCounted : RoomSpec → List ScheduleEvent → ℕ → ℕ → ℕ → ℕ → Type 0
HasCounted spec schedule i j k time = steps_at spec schedule time i j ≡ k

-- At this moment a whole collect of simulator i has just ended, in its open turn on (j, k), and its scan goes on: the last
-- event was its load of the last memory word, and this is how many collects it has made.
pub record EndsCollect (spec : RoomSpec) (schedule : List ScheduleEvent) (i j k collects time : ℕ) : Type 0 where
  pub counted : HasCounted spec schedule i j k time
  pub last : ℕ
  pub next : time ≡ last + 1
  pub event : take time schedule ≡ take last schedule ++ steps i ∷ []
  pub stood : ((fields_at spec schedule last).mind i).line ≡ Snap
  pub whole : ((fields_at spec schedule last).mind i).word + 1 ≡ words_in spec
  pub stands : ((fields_at spec schedule time).mind i).line ≡ Snap
  pub made : ((fields_at spec schedule time).mind i).collects ≡ collects
  pub process : ((fields_at spec schedule time).mind i).process ≡ j
  pub round : current_round ((fields_at spec schedule time).mind i) ≡ k

-- The content of a scan, and the collect before it: the step numbers at a moment at which the simulator had counted the round.
-- If the memory has more than one word, the scan ended with two equal collects, and it is the moment at which the first of
-- them ended.
pub record IsScan (spec : RoomSpec) (schedule : List ScheduleEvent) (now i j k : ℕ) (before map : StepMap) (collects : ℕ) : Type 0 where
  pub time : ℕ
  pub early : time ≤ now
  pub counted : HasCounted spec schedule i j k time
  pub same : AreSameSteps spec.simulators (processes spec) map (steps_at spec schedule time)
  pub equal : words_in spec ≢ 1 → AreSameSteps spec.simulators (processes spec) map before
  pub ended : words_in spec ≢ 1 → (first : ℕ) × (collects ≡ first + 1) × EndsCollect spec schedule i j k first time
