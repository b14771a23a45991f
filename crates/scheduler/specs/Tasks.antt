-- Simulators that wait for a worker, or come back from one. A room is named by its place among all rooms.
use Rattle.std.specs.Prelude.{◌≡◌, ℕ, zero, suc, ◌+◌, ◌-◌, ◌<◌, ◌≤◌, Bool, true, false, ◌&&◌, ◌==◌, if◌then◌else◌, List, [], ◌∷◌, length, Option, Some, None, slice_index_or, slice_get}
use Rattle.std.specs.List.{All, sum_by}
use Rattle.std.specs.Option.{IsSome}
use Rattle.room_spec.specs.Rooms.{fuse_of}
use Rattle.room_core.specs.Calls.{step_bound}
use Rattle.simulator.specs.Sweeps.{SweepState}
use Rattle.ruled_room.specs.Parts.{KeeperData, RoomName, SimulatorData, sweep_home}
use Rattle.ruled_room.specs.declared.stop.Stop.{Stop}
use Rattle.scheduler.specs.declared.visiting.Visited.{Visited}
use Rattle.scheduler.specs.declared.workers.Task.{Task}
use Rattle.scheduler.specs.declared.workers.Stopped.{Stopped}
use Rattle.scheduler.specs.Drives.{HasStopped, IsWithinFuse}
use Rattle.scheduler.specs.Results.{HasEnded}

abbrev pub own_fuse : SimulatorData → Option ℕ
own_fuse simulator = fuse_of simulator.room.spec.fuses simulator.number

-- a simulator of the room at its place, with its own fuse
pub record IsTaskOf (rooms : List RoomName) (task : Task) : Type 0 where
  pub room : slice_get rooms task.place ≡ Some task.simulator.room
  pub fuse : task.fuse ≡ own_fuse task.simulator
  pub within : IsWithinFuse task.fuse task.simulator.sweep.mind.steps

pub record IsStoppedOf (rooms : List RoomName) (one : Stopped) : Type 0 where
  pub room : slice_get rooms one.place ≡ Some one.simulator.room
  pub stops : HasStopped (own_fuse one.simulator) one.simulator.room.spec one.stop one.simulator.sweep
  pub within : IsWithinFuse (own_fuse one.simulator) one.simulator.sweep.mind.steps

-- ---- how often a simulator occurs in a list

-- 1 if the place and the number are these
abbrev pub is_here : ℕ → ℕ → ℕ → ℕ → ℕ
is_here k i place number = if (place == k) && (number == i) then 1 else 0

abbrev pub queued : ℕ → ℕ → List Task → ℕ
queued k i tasks = sum_by (λ task. is_here k i task.place task.simulator.number) tasks

abbrev pub brought : ℕ → ℕ → List Stopped → ℕ
brought k i all = sum_by (λ one. is_here k i one.place one.simulator.number) all

-- a worker's tasks have all come back, stopped, each as often as it was given
pub record BringsBack (rooms : List RoomName) (tasks : List Task) (done : List Stopped) : Type 0 where
  pub stopped : All (λ one. IsStoppedOf rooms one) done
  pub same : (k i : ℕ) → brought k i done ≡ queued k i tasks

-- ---- simulators that a worker goes round, and why each has stopped once it has

abbrev pub to_visit : Task → Visited
to_visit task = record { task = task; stop = None }

abbrev pub IsVisitedBy : List RoomName → Task → Option Stop → Type 0
IsVisitedBy rooms task None = IsTaskOf rooms task
IsVisitedBy rooms task (Some stop) = IsStoppedOf rooms (record { place = task.place; simulator = task.simulator; stop = stop })

abbrev pub IsVisitedOf : List RoomName → Visited → Type 0
IsVisitedOf rooms one = IsVisitedBy rooms one.task one.stop

abbrev pub visited : ℕ → ℕ → List Visited → ℕ
visited k i all = sum_by (λ one. is_here k i one.task.place one.task.simulator.number) all

-- those from this place on have stopped
abbrev pub AreStoppedFrom : ℕ → List Visited → Type 0
AreStoppedFrom from all = (p : ℕ) (d : Visited) → from ≤ p → p < length all → IsSome (slice_index_or all p d).stop

-- the steps that a simulator may still take, and one more; 0 once it has stopped
abbrev pub left_by : Task → Option Stop → ℕ
left_by task None = step_bound task.simulator.room.spec - task.simulator.sweep.mind.steps + 1
left_by task (Some stop) = 0

abbrev pub left_in_all : List Visited → ℕ
left_in_all all = sum_by (λ one. left_by one.task one.stop) all

abbrev pub one_if : Bool → ℕ
one_if true = 1
one_if false = 0

-- ---- the queues of all workers

abbrev pub AreTasksOf : List RoomName → List (List Task) → Type 0
AreTasksOf rooms queues = All (λ tasks. All (λ task. IsTaskOf rooms task) tasks) queues

abbrev pub waiting : ℕ → ℕ → List (List Task) → ℕ
waiting k i queues = sum_by (λ tasks. queued k i tasks) queues

-- 1 if the keeper has given the simulator away
abbrev pub away_from : List (Option SweepState) → ℕ → ℕ
away_from [] i = 0
away_from (None ∷ sweeps) zero = 1
away_from (Some sweep ∷ sweeps) zero = 0
away_from (first ∷ sweeps) (suc i) = away_from sweeps i

abbrev pub away : List KeeperData → ℕ → ℕ → ℕ
away [] k i = 0
away (keeper ∷ keepers) zero i = away_from keeper.sweeps i
away (keeper ∷ keepers) (suc k) i = away keepers k i

-- ---- keepers

-- No simulator that is away has crashed, and each that is at home has ended.
pub record IsKept (keeper : KeeperData) : Type 0 where
  pub sweeps : length keeper.sweeps ≡ keeper.room.spec.simulators
  pub crashed : length keeper.crashed ≡ keeper.room.spec.simulators
  pub away : (i : ℕ) → sweep_home keeper i ≡ None → slice_index_or keeper.crashed i false ≡ false
  pub ended : (i : ℕ) (sweep : SweepState) → sweep_home keeper i ≡ Some sweep → HasEnded (fuse_of keeper.room.spec.fuses i) keeper.room.spec sweep (slice_index_or keeper.crashed i false)

-- each room has its keeper, at the same place
pub record AreKept (rooms : List RoomName) (keepers : List KeeperData) : Type 0 where
  pub count : length keepers ≡ length rooms
  pub each : (k : ℕ) (d : KeeperData) → k < length keepers → (slice_get rooms k ≡ Some (slice_index_or keepers k d).room) × IsKept (slice_index_or keepers k d)

-- the same of one keeper alone, at this place
abbrev pub away_at : ℕ → List (Option SweepState) → ℕ → ℕ → ℕ
away_at place sweeps k i = if place == k then away_from sweeps i else 0

-- Rooms that are to run: each simulator that is away waits in the queues, once.
pub record IsOpened (rooms : List RoomName) (keepers : List KeeperData) (queues : List (List Task)) : Type 0 where
  pub kept : AreKept rooms keepers
  pub tasks : AreTasksOf rooms queues
  pub away : (k i : ℕ) → waiting k i queues ≡ away keepers k i
