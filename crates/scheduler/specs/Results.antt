-- What comes of a room whose simulators run until each of them stops.
use Rattle.std.specs.Prelude.{◌≡◌, ℕ, ◌<◌, ◌⊎◌, Bool, true, false, List, [], ◌∷◌, ◌++◌, Option, Some, None, ⊤}
use Rattle.room_spec.specs.Rooms.{RoomSpec, fuse_of}
use Rattle.simulator.specs.Minds.{goal_at}
use Rattle.simulator.specs.Quiet.{HasNoWrite}
use Rattle.simulator.specs.Sweeps.{SweepState, is_resting}
use Rattle.room_core.specs.Calls.{RoomState, configuration_of, has_crashed, room_after_settle, sweep_at}
use Rattle.room_core.specs.Fields.{Fields}
use Rattle.room_core.specs.Reading.{AreFieldsOf}
use Rattle.room_core.specs.Rooms.{IsOneInterleaving}
use Rattle.ws_history.specs.Reports.{IsTrueReport, report_of}
use Rattle.scheduler.specs.declared.rooms.RoomResult.{RoomResult}
use Rattle.scheduler.specs.declared.rooms.RunFault.{RunFault}
use Rattle.scheduler.specs.declared.rooms.RunFault.TheVariants.{Workers, Spawn, OutOfMemory}

-- it has taken fewer steps than its fuse says
abbrev pub IsBelowFuse : Option ℕ → ℕ → Type 0
IsBelowFuse None steps = ⊤
IsBelowFuse (Some after) steps = steps < after

-- How a simulator has ended that has crashed, or hasn't: with as many steps as its fuse says; or with fewer, between two turns,
-- if it has used up all its turns or has no write left to make.
abbrev pub HasEnded : Option ℕ → RoomSpec → SweepState → Bool → Type 0
HasEnded fuse spec sweep true = fuse ≡ Some sweep.mind.steps
HasEnded fuse spec sweep false =
    IsBelowFuse fuse sweep.mind.steps × (is_resting sweep.mind.line ≡ true) × ((sweep.mind.turns ≡ spec.turns) ⊎ ((process : ℕ) → HasNoWrite (goal_at sweep.mind.goals process)))

-- The possible outcomes of a room of this spec, whatever the schedule of its simulators: some interleaving of their steps leads to a
-- room in which each of them has ended; this room is then settled and reported.
pub record IsRoomRun (spec : RoomSpec) (result : RoomResult) : Type 0 where
  pub ended : RoomState
  pub same : ended.spec ≡ spec
  pub run : IsOneInterleaving (configuration_of ended)
  pub each : (i : ℕ) → i < spec.simulators → HasEnded (fuse_of spec.fuses i) spec (sweep_at ended i) (has_crashed ended i)
  pub settled : result.core ≡ room_after_settle ended
  pub reported : (fields : Fields) → AreFieldsOf result.core fields → (result.report ≡ report_of result.core.spec fields) × IsTrueReport result.core.spec fields result.report

-- a result for each spec, in order, each by its own spec alone
abbrev pub AreRoomRuns : List RoomSpec → List RoomResult → Type 0
AreRoomRuns [] [] = ⊤
AreRoomRuns (spec ∷ specs) (result ∷ results) = IsRoomRun spec result × AreRoomRuns specs results
AreRoomRuns [] (result ∷ results) = ⊥
AreRoomRuns (spec ∷ specs) [] = ⊥

-- ---- results that are gathered

-- what is known of something that gathers results: these are all that it has, in order
abbrev pub Gathered : Type 1
Gathered = List RoomResult → Type 0

-- Whatever results it had before, it has these after them.
abbrev pub GathersMore : Gathered → List RoomResult → Gathered → Type 0
GathersMore before more after = (results : List RoomResult) → before results → after (results ++ more)

-- a result for each spec was added, in order, each by its own spec alone
abbrev pub AddsRoomRuns : List RoomSpec → Gathered → Gathered → Type 0
AddsRoomRuns specs before after = (results : List RoomResult) × AreRoomRuns specs results × GathersMore before results after

abbrev pub fault_code : RunFault → ℕ
fault_code Workers = 50
fault_code Spawn = 51
fault_code OutOfMemory = 8
