-- Runs of a reduction, whose simulators agree on the input of each process: it is one of the inputs that they have of their own.
use Rattle.std.specs.Prelude.{◌≡◌, ℕ, suc, ◌<◌, List, length, replicate, take, Some, slice_get, slice_index}
use Rattle.std.specs.List.{Contains}
use Rattle.room_spec.specs.Rooms.{RoomSpec, processes, with_inputs}
use Rattle.transcript.specs.declared.event.Event.{Event}
use Rattle.transcript.specs.Runs.{IsEnabled, IsRun, process_of}

-- there is one of each process, and each is some simulator's own
pub record AreFromOwn (spec : RoomSpec) (inputs : List ℕ) : Type 0 where
  pub many : length inputs ≡ processes spec
  pub own : (p : ℕ) → p < processes spec → Contains spec.own (slice_index inputs p)

-- from some such inputs the events are a run of the protocol
pub record IsRunOf (spec : RoomSpec) (events : List Event) : Type 0 where
  pub inputs : List ℕ
  pub from_own : AreFromOwn spec inputs
  pub run : IsRun (with_inputs spec inputs) events

-- t is the first place with whose event they are none
pub record IsFirstBreakOf (spec : RoomSpec) (events : List Event) (t : ℕ) : Type 0 where
  pub event : Event
  pub there : slice_get events t ≡ Some event
  pub breaks : IsRunOf spec (take (suc t) events) → ⊥
  pub run_before : IsRunOf spec (take t events)

-- ---- one process

-- the ordinary room in which each process has this input
abbrev pub with_input : RoomSpec → ℕ → RoomSpec
with_input spec input = with_inputs spec (replicate (processes spec) input)

-- if process p has this input, each event of it may follow those before it
abbrev pub MayHave : RoomSpec → List Event → ℕ → ℕ → Type 0
MayHave spec events p input = (t : ℕ) (event : Event) → slice_get events t ≡ Some event → process_of event ≡ p → IsEnabled (with_input spec input) (take t events) event

-- The events are of processes of the room, and each of these may have the own input of some simulator.
pub record IsRunByProcess (spec : RoomSpec) (events : List Event) : Type 0 where
  pub room : (t : ℕ) (event : Event) → slice_get events t ≡ Some event → process_of event < processes spec
  pub inputs : (p : ℕ) → p < processes spec → (input : ℕ) × Contains spec.own input × MayHave spec events p input
