-- What a checker keeps of each process, and what that says of the events so far.
use Rattle.std.specs.Prelude.{◌≡◌, ℕ, ◌+◌, ◌<◌, Bool, true, false, List, [], ◌∷◌, ◌++◌, length, map, Option, Some, None, Result, MatchResult, if◌then◌else◌, nat_lt, slice_index, slice_index_or}
use Rattle.std.specs.List.{count_by}
use Rattle.protocol_lang.specs.declared.meaning.Action.{Action}
use Rattle.protocol_lang.specs.declared.meaning.Action.TheVariants as actions
use Rattle.room_spec.specs.Rooms.{RoomSpec, processes}
use Rattle.transcript.specs.declared.event.Event.{Event}
use Rattle.transcript.specs.declared.event.Event.TheVariants as events
use Rattle.transcript.specs.Runs.{event_by, is_write_by, is_snap_by, latest, last_write, action_due, IsEnabled}
use Rattle.history_checker.specs.declared.process.Rule.{Rule}
use Rattle.history_checker.specs.declared.process.Turn.{Turn}
use Rattle.history_checker.specs.declared.process.Turn.TheVariants.{Write, Snap, Decide, Over}
use Rattle.history_checker.specs.declared.process.Process.{Process}
use Rattle.history_checker.specs.Reasons.{Breaks}

-- what the protocol asks for, as a turn
abbrev pub turn_for : Action → Turn
turn_for (actions.Write v) = Write v
turn_for (actions.Decide v) = Decide v

-- what may follow a process's last event, where the protocol asks for this action
abbrev pub turn_after : Action → Option Event → Turn
turn_after due None = turn_for due
turn_after due (Some (events.Write p v)) = Snap
turn_after due (Some (events.Snap p row)) = turn_for due
turn_after due (Some (events.Decide p v)) = Over

-- how many snapshots a process is after its writes
abbrev pub owed : Turn → ℕ
owed Snap = 1
owed (Write v) = 0
owed (Decide v) = 0
owed Over = 0

-- what is kept of process p is so after these events
pub record IsAt (spec : RoomSpec) (history : List Event) (p : ℕ) (process : Process) : Type 0 where
  pub input : process.input ≡ slice_index spec.inputs p
  pub turn : process.turn ≡ turn_after (action_due spec history p) (latest (event_by p) history)
  pub last : process.last ≡ last_write history p
  pub writes : process.writes ≡ count_by (is_write_by p) history
  pub snaps : count_by (is_snap_by p) history + owed process.turn ≡ process.writes

-- the same of every process of the room
pub record Tracks (spec : RoomSpec) (all : List Process) (history : List Event) : Type 0 where
  pub count : length all ≡ processes spec
  pub each : (p : ℕ) (d : Process) → p < length all → IsAt spec history p (slice_index_or all p d)

-- the last write of each process
abbrev pub lasts : List Process → List (Option ℕ)
lasts all = map (λ process. process.last) all

-- q is the first place at which two rows of one length differ
pub record FirstDiffers (row other : List (Option ℕ)) (q : ℕ) : Type 0 where
  pub within : q < length row
  pub same_before : (r : ℕ) → r < q → slice_index_or row r None ≡ slice_index_or other r None
  pub differs : slice_index_or row q None ≡ slice_index_or other q None → ⊥

-- a write or a decision is due
abbrev pub is_action : Turn → Bool
is_action (Write v) = true
is_action (Decide v) = true
is_action Snap = false
is_action Over = false

-- what is left to do if no write is
abbrev pub without_write : Turn → Turn
without_write (Write v) = Over
without_write (Decide v) = Decide v
without_write Snap = Snap
without_write Over = Over

-- what a process may do next in a room of this many rounds
abbrev pub could_do : ℕ → Process → Turn
could_do rounds process = if nat_lt process.writes rounds then process.turn else without_write process.turn

-- Whatever the events before it were: where the answer is yes, the event may follow them and the processes then
-- track it too; if it is no, it may not, by the rule that is said, and nothing has changed.
abbrev pub Follows : RoomSpec → Event → List Process → Result (Unit {0}) Rule → List Process → Type 0
Follows spec event old answer new =
    (before : List Event) → Tracks spec old before
    → MatchResult answer (λ done. IsEnabled spec before event × Tracks spec new (before ++ event ∷ [])) (λ rule. Breaks spec before event rule × (new ≡ old))
