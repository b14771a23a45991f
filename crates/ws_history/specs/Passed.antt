-- Histories from the agreements that are passed, in whatever order they were found.
use Rattle.std.specs.Prelude.{◌≡◌, ℕ, ◌+◌, ◌<◌, ◌≤◌, true, Bool, length, Some, slice_index}
use Rattle.std.specs.List.{Contains}
use Rattle.protocol_lang.specs.Meaning.{first_value}
use Rattle.protocol_lang.specs.declared.meaning.Action.TheVariants as actions
use Rattle.room_spec.specs.Rooms.{RoomSpec, processes}
use Rattle.room_core.specs.Agreements.{DoCompare}
use Rattle.ws_history.specs.Histories.{Snapshot, Source, row_of, entry_of, asks_after}
use Rattle.ws_history.specs.Orders.{in_order, all_passed, IsPassed}

-- what is known of one passed agreement
pub record IsKnown (spec : RoomSpec) (src : Source) (passed : ℕ → ℕ → Bool) (s : Snapshot) : Type 0 where
  pub width : length (row_of src s) ≡ processes spec
  -- it shows its own last write
  pub own : entry_of src s s.process ≡ s.round
  -- a process writes again only after an agreement that is passed
  pub before : (p r : ℕ) → p < processes spec → 1 ≤ r → r < entry_of src s p → passed p r ≡ true
  pub shows : (p : ℕ) → p < processes spec → entry_of src s p ≤ src.greatest p
  pub goes_on : s.round < src.greatest s.process → asks_after spec src s ≡ actions.Write (src.written s.process (s.round + 1))
  pub decides : (v : ℕ) → src.decision s.process s.round ≡ Some v → (asks_after spec src s ≡ actions.Decide v) × (src.greatest s.process ≡ s.round)

-- a source whose snapshots are the agreements that are passed, in order
pub record IsOfPassed (spec : RoomSpec) (src : Source) (passed : ℕ → ℕ → Bool) : Type 0 where
  pub order : src.order ≡ in_order src.row (all_passed passed (processes spec) spec.rounds)
  pub known : (s : Snapshot) → IsPassed passed (processes spec) spec.rounds s → IsKnown spec src passed s
  pub compare : (s t : Snapshot) → IsPassed passed (processes spec) spec.rounds s → IsPassed passed (processes spec) spec.rounds t
      → DoCompare (row_of src s) (row_of src t)
  pub rounds : (p : ℕ) → p < processes spec → src.greatest p ≤ spec.rounds
  pub behind : (p r : ℕ) → p < processes spec → 1 ≤ r → r < src.greatest p → passed p r ≡ true
  pub begins : (p : ℕ) → p < processes spec → 1 ≤ src.greatest p → src.written p 1 ≡ first_value spec.protocol (slice_index spec.inputs p) p (processes spec)

-- some snapshot has the decision v of process p
abbrev pub IsDecided : Source → ℕ → ℕ → Type 0
IsDecided src p v = (s : Snapshot) × Contains src.order s × (s.process ≡ p) × (src.decision s.process s.round ≡ Some v)
