-- What each process writes after what was agreed on.
use Rattle.std.specs.Prelude.{◌≡◌, ℕ, ◌+◌, ◌≤◌}
use Rattle.protocol_lang.specs.Meaning.{first_value}
use Rattle.protocol_lang.specs.declared.meaning.Action.TheVariants as actions
use Rattle.room_spec.specs.Rooms.{RoomSpec, processes}
use Rattle.room_core.specs.Fields.{Fields}
use Rattle.room_core.specs.Agreements.{IsFixedAt, asks, input_at}

-- The write of process p in round r has this value: the first by its input, each later one by what was agreed on before it.
pub data IsDue (spec : RoomSpec) (fields : Fields) (p r value : ℕ) : Type 0 where
  first_write : r ≡ 1 → value ≡ first_value spec.protocol (input_at spec fields p) p (processes spec) → IsDue spec fields p r value
  next_write : (k : ℕ) → 1 ≤ k → r ≡ k + 1 → IsFixedAt spec fields p k → asks spec fields p k ≡ actions.Write value → IsDue spec fields p r value
