-- The history that agreed snapshots have: which events, in which order.
use Rattle.std.specs.Prelude.{◌≡◌, ℕ, zero, suc, ◌+◌, ◌-◌, ◌<◌, ◌≤◌, ◌⊎◌, max, List, [], ◌∷◌, ◌++◌, length, map, Option, Some, None, slice_index, ◌==◌, if◌then◌else◌, ⊤}
use Rattle.std.specs.List.{range_with_len, sum, Contains}
use Rattle.protocol_lang.specs.Meaning.{first_value, next_action}
use Rattle.protocol_lang.specs.declared.meaning.Action.{Action}
use Rattle.protocol_lang.specs.declared.meaning.Action.TheVariants as actions
use Rattle.room_spec.specs.Rooms.{RoomSpec, processes}
use Rattle.room_core.specs.Agreements.{DoCompare}
use Rattle.transcript.specs.declared.event.Event.{Event}
use Rattle.transcript.specs.declared.event.Event.TheVariants.{Write, Snap, Decide}

-- ---- where a history comes from

-- the snapshot of a process after its write of this round
pub record Snapshot : Type 0 where
  pub process : ℕ
  pub round : ℕ

-- What process p writes as its r-th value, the snapshots that were agreed on, in the order of the history, how many
-- writes of each process each of them shows, how many writes of each process there are, and what is decided after a snapshot.
pub record Source : Type 0 where
  pub written : ℕ → ℕ → ℕ
  pub order : List Snapshot
  pub row : ℕ → ℕ → List ℕ
  pub greatest : ℕ → ℕ
  pub decision : ℕ → ℕ → Option ℕ

abbrev pub row_of : Source → Snapshot → List ℕ
row_of src s = src.row s.process s.round

-- how many writes of process p the snapshot shows
abbrev pub entry_of : Source → Snapshot → ℕ → ℕ
entry_of src s p = slice_index (row_of src s) p

-- the last value of process p after r writes of it
abbrev pub shown : Source → ℕ → ℕ → Option ℕ
shown src p r = if r == 0 then None else Some (src.written p r)

-- what the snapshot shows
abbrev pub shown_row : Source → Snapshot → List (Option ℕ)
shown_row src s = map (λ p. shown src p (entry_of src s p)) (range_with_len 0 (length (row_of src s)))

-- ---- the history

-- the events of process 0, then those of process 1, up to n processes
abbrev pub by_process : (ℕ → List Event) → ℕ → List Event
by_process events zero = []
by_process events (suc n) = by_process events n ++ events n

-- how many writes of process p these snapshots show
abbrev pub shown_before : Source → List Snapshot → ℕ → ℕ
shown_before src [] p = 0
shown_before src (s ∷ earlier) p = max (entry_of src s p) (shown_before src earlier p)

-- the writes of process p after the first `from`, up to `upto`
abbrev pub new_writes : Source → ℕ → ℕ → ℕ → List Event
new_writes src p from upto = map (λ r. Write p (src.written p r)) (range_with_len (from + 1) (upto - from))

abbrev pub decided : ℕ → Option ℕ → List Event
decided p None = []
decided p (Some v) = Decide p v ∷ []

-- the writes that a snapshot is the first to show
abbrev pub writes_for : Source → ℕ → List Snapshot → Snapshot → List Event
writes_for src n earlier s = by_process (λ p. new_writes src p (shown_before src earlier p) (entry_of src s p)) n

-- those, the snapshot, and the decision after it if there is one
abbrev pub block : Source → ℕ → List Snapshot → Snapshot → List Event
block src n earlier s =
    (writes_for src n earlier s ++ Snap s.process (record { items = shown_row src s }) ∷ [])
    ++ decided s.process (src.decision s.process s.round)

abbrev pub blocks : Source → ℕ → List Snapshot → List Snapshot → List Event
blocks src n earlier [] = []
blocks src n earlier (s ∷ rest) = block src n earlier s ++ blocks src n (earlier ++ s ∷ []) rest

-- the writes that no snapshot shows
abbrev pub last_writes : Source → ℕ → List Event
last_writes src n = by_process (λ p. new_writes src p (shown_before src src.order p) (src.greatest p)) n

abbrev pub history_from : RoomSpec → Source → List Event
history_from spec src = blocks src (processes spec) [] src.order ++ last_writes src (processes spec)

-- ---- what makes it a run

-- by the sum of the row, and then by process
abbrev pub IsBefore : Source → Snapshot → Snapshot → Type 0
IsBefore src s t = (sum (row_of src s) < sum (row_of src t)) ⊎ ((sum (row_of src s) ≡ sum (row_of src t)) × (s.process < t.process))

abbrev pub IsRising : Source → List Snapshot → Type 0
IsRising src [] = ⊤
IsRising src (s ∷ rest) = ((t : Snapshot) → Contains rest t → IsBefore src s t) × IsRising src rest

-- what the protocol asks_after for after a snapshot
abbrev pub asks_after : RoomSpec → Source → Snapshot → Action
asks_after spec src s = next_action spec.protocol (slice_index spec.inputs s.process) s.process s.round (shown_row src s)

-- what is known of one agreed snapshot
pub record IsAgreed (spec : RoomSpec) (src : Source) (s : Snapshot) : Type 0 where
  pub process : s.process < processes spec
  pub round : 1 ≤ s.round
  pub width : length (row_of src s) ≡ processes spec
  -- it shows its own last write
  pub own : entry_of src s s.process ≡ s.round
  -- a process writes again only after a snapshot that was agreed on
  pub before : (p r : ℕ) → p < processes spec → 1 ≤ r → r < entry_of src s p → Contains src.order (record { process = p; round = r })
  pub shows : (p : ℕ) → p < processes spec → entry_of src s p ≤ src.greatest p
  pub goes_on : s.round < src.greatest s.process → asks_after spec src s ≡ actions.Write (src.written s.process (s.round + 1))
  pub decides : (v : ℕ) → src.decision s.process s.round ≡ Some v → (asks_after spec src s ≡ actions.Decide v) × (src.greatest s.process ≡ s.round)

-- what makes the history of a source a run
pub record IsSource (spec : RoomSpec) (src : Source) : Type 0 where
  pub agreed : (s : Snapshot) → Contains src.order s → IsAgreed spec src s
  pub rising : IsRising src src.order
  pub compare : (s t : Snapshot) → Contains src.order s → Contains src.order t → DoCompare (row_of src s) (row_of src t)
  pub rounds : (p : ℕ) → p < processes spec → src.greatest p ≤ spec.rounds
  pub passed : (p r : ℕ) → p < processes spec → 1 ≤ r → r < src.greatest p → Contains src.order (record { process = p; round = r })
  pub begins : (p : ℕ) → p < processes spec → 1 ≤ src.greatest p → src.written p 1 ≡ first_value spec.protocol (slice_index spec.inputs p) p (processes spec)
