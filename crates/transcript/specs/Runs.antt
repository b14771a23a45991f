-- Runs of a protocol on write-snapshot memory (update and scan of Afek et al. 1993, section 2): each event is
-- judged by its place in a whole list of events.
use Rattle.std.specs.Prelude.{◌≡◌, ℕ, ◌<◌, ◌≤◌, Bool, false, List, [], ◌∷◌, length, take, Option, Some, None, ◌==◌, slice_get, slice_index, slice_index_or, if◌then◌else◌}
use Rattle.std.specs.List.{count_by}
use Rattle.std.specs.Option.{option_or, option_map_or}
use Rattle.protocol_lang.specs.Meaning.{first_value, next_action}
use Rattle.protocol_lang.specs.declared.meaning.Action.{Action}
use Rattle.protocol_lang.specs.declared.meaning.Action.TheVariants as actions
use Rattle.room_spec.specs.Rooms.{RoomSpec, processes}
use Rattle.transcript.specs.declared.event.Event.{Event}
use Rattle.transcript.specs.declared.event.Event.TheVariants.{Write, Snap, Decide}

-- ---- what a list of events says of one process

abbrev pub process_of : Event → ℕ
process_of (Write p v) = p
process_of (Snap p row) = p
process_of (Decide p v) = p

-- an event of process p
abbrev pub event_by : ℕ → Event → Option Event
event_by p event = if process_of event == p then Some event else None

-- the value that process p writes
abbrev pub written_by : ℕ → Event → Option ℕ
written_by p (Write q v) = if q == p then Some v else None
written_by p (Snap q row) = None
written_by p (Decide q v) = None

-- the snapshot that process p takes
abbrev pub seen_by : ℕ → Event → Option (List (Option ℕ))
seen_by p (Write q v) = None
seen_by p (Snap q row) = if q == p then Some row.items else None
seen_by p (Decide q v) = None

abbrev pub is_write_by : ℕ → Event → Bool
is_write_by p (Write q v) = q == p
is_write_by p (Snap q row) = false
is_write_by p (Decide q v) = false

abbrev pub is_snap_by : ℕ → Event → Bool
is_snap_by p (Write q v) = false
is_snap_by p (Snap q row) = q == p
is_snap_by p (Decide q v) = false

-- what the last event that has it has of something
abbrev pub latest : {A : Type 0} → (Event → Option A) → List Event → Option A
latest pick [] = None
latest pick (event ∷ events) = option_or (latest pick events) (pick event)

-- the last write of a process, or nothing
abbrev pub last_write : List Event → ℕ → Option ℕ
last_write events p = latest (written_by p) events

-- What the protocol asks of process p: its first value if it has no snapshot yet, and then what follows its
-- latest one, as its input, its number and the number of its snapshots have it.
abbrev pub action_due : RoomSpec → List Event → ℕ → Action
action_due spec events p =
    option_map_or
    (λ row. next_action spec.protocol (slice_index spec.inputs p) p (count_by (is_snap_by p) events) row)
    (latest (seen_by p) events)
    (actions.Write (first_value spec.protocol (slice_index spec.inputs p) p (processes spec)))

-- ---- which event may come next

abbrev pub IsNothingOrSnap : Option Event → Type 0
IsNothingOrSnap None = Unit {0}
IsNothingOrSnap (Some (Write p v)) = ⊥
IsNothingOrSnap (Some (Snap p row)) = Unit {0}
IsNothingOrSnap (Some (Decide p v)) = ⊥

abbrev pub IsSnap : Option Event → Type 0
IsSnap None = ⊥
IsSnap (Some (Write p v)) = ⊥
IsSnap (Some (Snap p row)) = Unit {0}
IsSnap (Some (Decide p v)) = ⊥

abbrev pub IsWrite : Option Event → Type 0
IsWrite None = ⊥
IsWrite (Some (Write p v)) = Unit {0}
IsWrite (Some (Snap p row)) = ⊥
IsWrite (Some (Decide p v)) = ⊥

-- after these events process p may write v
pub record MayWrite (spec : RoomSpec) (before : List Event) (p v : ℕ) : Type 0 where
  pub process : p < processes spec
  -- it begins, or has just taken a snapshot
  pub in_turn : IsNothingOrSnap (latest (event_by p) before)
  pub value : action_due spec before p ≡ actions.Write v
  pub rounds : count_by (is_write_by p) before < spec.rounds

-- after these events process p may see this
pub record MaySnap (spec : RoomSpec) (before : List Event) (p : ℕ) (row : List (Option ℕ)) : Type 0 where
  pub process : p < processes spec
  pub width : length row ≡ processes spec
  -- it has just written
  pub in_turn : IsWrite (latest (event_by p) before)
  -- each entry is that process's last write, or nothing
  pub entries : (q : ℕ) → q < processes spec → slice_index_or row q None ≡ last_write before q

-- after these events process p may decide v
pub record MayDecide (spec : RoomSpec) (before : List Event) (p v : ℕ) : Type 0 where
  pub process : p < processes spec
  -- it has just taken a snapshot
  pub in_turn : IsSnap (latest (event_by p) before)
  pub value : action_due spec before p ≡ actions.Decide v

abbrev pub IsEnabled : RoomSpec → List Event → Event → Type 0
IsEnabled spec before (Write p v) = MayWrite spec before p v
IsEnabled spec before (Snap p row) = MaySnap spec before p row.items
IsEnabled spec before (Decide p v) = MayDecide spec before p v

-- By these events process p has no round left, and its last snapshot asks for one more write.
pub record IsOutOfRounds (spec : RoomSpec) (events : List Event) (p : ℕ) : Type 0 where
  pub writes : spec.rounds ≤ count_by (is_write_by p) events
  pub snaps : spec.rounds ≤ count_by (is_snap_by p) events
  pub value : ℕ
  pub asked : action_due spec events p ≡ actions.Write value

-- ---- runs

-- each event may follow those before it
abbrev pub IsRun : RoomSpec → List Event → Type 0
IsRun spec events = (t : ℕ) (event : Event) → slice_get events t ≡ Some event → IsEnabled spec (take t events) event

-- t is the first place whose event may not follow those before it
pub record IsFirstBreak (spec : RoomSpec) (events : List Event) (t : ℕ) : Type 0 where
  pub event : Event
  pub there : slice_get events t ≡ Some event
  pub breaks : IsEnabled spec (take t events) event → ⊥
  pub run_before : IsRun spec (take t events)
