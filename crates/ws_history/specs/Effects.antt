-- What takes effect at an atomic step, as far as the step itself shows it.
use Rattle.std.specs.Prelude.{◌≡◌, ℕ, Bool, true, List, [], ◌∷◌, ◌++◌, length, Option, Some, None, nat_le, nat_lt, ◌==◌, ◌&&◌, ◌||◌, if◌then◌else◌}
use Rattle.room_spec.specs.Rooms.{RoomSpec, processes}
use Rattle.simulator.specs.Turns.{words_in}
use Rattle.room_core.specs.Agreements.{decided_in, greatest_step, written}
use Rattle.room_core.specs.Calls.{RoomState, sweep_at}
use Rattle.room_core.specs.Moments.{fields_at}
use Rattle.room_core.specs.Points.{Point, Writes, Decides, TakesEffect, is_snap, reads_at}
use Rattle.room_core.specs.Rooms.{ScheduleEvent, steps}
use Rattle.ws_history.specs.declared.effects.Effect.{Effect}
use Rattle.ws_history.specs.declared.effects.Effect.TheVariants.{Write, Snapshot, Decision}
use Rattle.ws_history.specs.declared.points.Before.{Before}
use Rattle.ws_history.specs.Readings.{read_of}

-- the schedule with one step more
abbrev pub with_step : List ScheduleEvent → ℕ → List ScheduleEvent
with_step schedule i = schedule ++ steps i ∷ []

-- By the step of simulator i that follows this schedule this point takes effect: in the schedule that ends with it.
abbrev pub TakesEffectNext : RoomSpec → List ScheduleEvent → ℕ → Point → Type 0
TakesEffectNext spec schedule i point = TakesEffect spec (with_step schedule i) (fields_at spec (with_step schedule i) (length (with_step schedule i))) (length schedule) point

-- simulator i reads for round r of process p by that step
abbrev pub ReadsNext : RoomSpec → List ScheduleEvent → ℕ → ℕ → ℕ → Type 0
ReadsNext spec schedule i p r = reads_at spec (with_step schedule i) (length schedule) i p r ≡ true

-- no write is first counted by it, nothing is read, and no decision is first stored
pub record HasNoEffect (spec : RoomSpec) (schedule : List ScheduleEvent) (i : ℕ) : Type 0 where
  pub writes : (p r : ℕ) → TakesEffectNext spec schedule i (Writes p r) → ⊥
  pub reads : (p r : ℕ) → ReadsNext spec schedule i p r → ⊥
  pub decides : (p decision : ℕ) → TakesEffectNext spec schedule i (Decides p decision) → ⊥

-- What takes effect by the step of simulator i that follows this schedule; a snapshot does if what is read is proposed and the proposal chosen.
abbrev pub IsEffectOf : RoomSpec → List ScheduleEvent → ℕ → Option Effect → Type 0
IsEffectOf spec schedule i None = HasNoEffect spec schedule i
IsEffectOf spec schedule i (Some (Write process value)) =
    (r : ℕ) × TakesEffectNext spec schedule i (Writes process r) × (value ≡ written spec (fields_at spec (with_step schedule i) (length (with_step schedule i))) process r)
IsEffectOf spec schedule i (Some (Snapshot process)) = (r : ℕ) × ReadsNext spec schedule i process r
IsEffectOf spec schedule i (Some (Decision process value)) = TakesEffectNext spec schedule i (Decides process value)

-- ---- inside the crate, by the words after the step

abbrev pub has_read : RoomState → ℕ → Before → Bool
has_read room i before = before.ends_collect && ((words_in room.spec == 1) || is_snap (sweep_at room i).mind.line)

abbrev pub decision_by : ℕ → Option ℕ → Option Effect
decision_by process None = None
decision_by process (Some value) = Some (Decision process value)

abbrev pub effect_inside : RoomState → ℕ → Before → Option Effect
effect_inside room i before =
    if nat_lt before.count (greatest_step room.spec (read_of room) before.process)
    then Some (Write before.process (written room.spec (read_of room) before.process (greatest_step room.spec (read_of room) before.process)))
    else if has_read room i before then Some (Snapshot before.process)
    else if before.decided then None
    else decision_by before.process (decided_in room.spec (read_of room) before.process)

abbrev pub effect_in : RoomState → ℕ → Option Before → Option Effect
effect_in room i None = None
effect_in room i (Some before) =
    if nat_le room.spec.simulators i || nat_le (processes room.spec) before.process then None else effect_inside room i before
