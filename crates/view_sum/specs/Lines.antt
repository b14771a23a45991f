-- What can be written of a sample: numbers of 32 bits, and states and schedules of a room within its limits.
use Rattle.std.specs.Prelude.{⊤, ℕ, ◌<◌, ◌≤◌, ◌^◌, List, [], ◌∷◌, length, Option, Some, None, IsUtf8}
use Rattle.ws_history.specs.declared.states.ProcessState.{ProcessState}
use Rattle.ws_history.specs.declared.states.ProcessState.TheVariants.{Decided, Spent, Held, Going}
use Rattle.room_sample.specs.Shown.{Shown}
use Rattle.room_sample.specs.declared.stretch.Stretch.{Stretch}
use Rattle.room_sample.specs.declared.stretch.Stretch.TheVariants.{Steps, Crash}
use Rattle.view_sum.specs.Samples.{RoomSample, schedules_in}

abbrev pub IsSmallState : ProcessState → Type 0
IsSmallState (Decided v) = v < 2 ^ 32
IsSmallState Spent = ⊤
IsSmallState (Held i) = i < 2 ^ 8
IsSmallState Going = ⊤

abbrev pub AreSmallStates : List ProcessState → Type 0
AreSmallStates [] = ⊤
AreSmallStates (state ∷ states) = IsSmallState state × AreSmallStates states

abbrev pub IsSmallStretch : Stretch → Type 0
IsSmallStretch (Steps simulator count) = (simulator < 2 ^ 8) × (count < 2 ^ 16)
IsSmallStretch (Crash simulator) = simulator < 2 ^ 8

abbrev pub AreSmallStretches : List Stretch → Type 0
AreSmallStretches [] = ⊤
AreSmallStretches (stretch ∷ stretches) = IsSmallStretch stretch × AreSmallStretches stretches

-- an outcome
pub record IsWritable (one : Shown) : Type 0 where
  pub few : length one.states ≤ 16
  pub states : AreSmallStates one.states
  pub times : one.times < 2 ^ 32
  pub first : one.first < 2 ^ 32
  pub schedule : AreSmallStretches one.schedule

abbrev pub IsSmallIfAny : Option ℕ → Type 0
IsSmallIfAny None = ⊤
IsSmallIfAny (Some n) = n < 2 ^ 32

-- what is said of a room after its outcomes
pub record IsWritableRoom (sample : RoomSample) : Type 0 where
  pub name : IsUtf8 sample.name
  pub crashes : sample.how.crashes < 2 ^ 32
  pub seed : sample.how.seed < 2 ^ 32
  pub from : sample.how.from < 2 ^ 32
  pub decided : sample.decided < 2 ^ 32
  pub held : sample.held < 2 ^ 32
  pub broken : IsSmallIfAny sample.broken
  pub count : length sample.outcomes < 2 ^ 32
  pub schedules : schedules_in sample.outcomes < 2 ^ 32
