-- How the events of a reduction are followed: as those of an ordinary room in which each process has some simulator's own input.
use Rattle.std.specs.Prelude.{◌≡◌, ℕ, List, [], ◌∷◌, ◌++◌, length, Option, MatchOption}
use Rattle.room_spec.specs.Rooms.{RoomSpec, with_inputs}
use Rattle.transcript.specs.declared.event.Event.{Event}
use Rattle.transcript.specs.Reductions.{AreFromOwn, MayHave}
use Rattle.transcript.specs.Runs.{process_of, IsEnabled, IsRun}
use Rattle.history_checker.specs.declared.process.Process.{Process}
use Rattle.history_checker.specs.Processes.{IsAt, Tracks}

-- from some inputs of the simulators' own the events are a run, which the processes track
pub record TracksSome (spec : RoomSpec) (all : List Process) (history : List Event) : Type 0 where
  pub inputs : List ℕ
  pub from_own : AreFromOwn spec inputs
  pub run : IsRun (with_inputs spec inputs) history
  pub tracks : Tracks (with_inputs spec inputs) all history

-- process p may have some input
abbrev pub MayHaveSome : RoomSpec → List Event → ℕ → Type 0
MayHaveSome spec events p = (input : ℕ) × MayHave spec events p input

-- Whatever the events before it were, with which what is kept of its process is so, and which it may follow with some inputs: if there
-- is an answer, it may follow them with the process's own input too, and the answer is so after it; else it may not.
abbrev pub StepsAlone : RoomSpec → Event → Process → Option Process → Type 0
StepsAlone spec event old answer =
    (mine others : List ℕ) (before : List Event) → length mine ≡ length others → IsAt (with_inputs spec mine) before (process_of event) old → IsEnabled (with_inputs spec others) before event
    → MatchOption answer (IsEnabled (with_inputs spec mine) before event → ⊥) (λ new. IsEnabled (with_inputs spec mine) before event × IsAt (with_inputs spec mine) (before ++ event ∷ []) (process_of event) new)
