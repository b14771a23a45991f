-- What a snapshot shows, as a list of entries, and that their values are at most the greatest.
use Rattle.std.specs.Prelude.{◌≡◌, ℕ, ◌≤◌, ◌<◌, List, Option, IfSome, length, slice_index, unwrap_or}
use Rattle.std.specs.List.{AllByRecursion}
use Rattle.protocol_lang.specs.Numbers.{greatest}
use Rattle.protocol_lang.specs.Meaning.{first_value, next_action}
use Rattle.protocol_lang.specs.declared.meaning.Action.TheVariants as actions
use Rattle.room_spec.specs.Rooms.{RoomSpec, processes}
use Rattle.room_core.specs.Fields.{StepMap, Fields, row_of_steps}
use Rattle.room_core.specs.Agreements.{shown, shown_by}

abbrev pub or_zero : Option ℕ → ℕ
or_zero number = unwrap_or number 0

-- what a snapshot shows of each process: its last write, or nothing
abbrev pub entry_of : RoomSpec → Fields → ℕ → ℕ → Option ℕ
entry_of spec fields p row = shown spec fields p row

abbrev pub shown_by_map : RoomSpec → Fields → StepMap → List (Option ℕ)
shown_by_map spec fields snapshot = shown_by spec fields (row_of_steps spec snapshot)

-- an entry that is there is at most the greatest value
abbrev pub IsSmallEntry : Option ℕ → Type 0
IsSmallEntry entry = IfSome entry (λ value. value ≤ greatest)

abbrev pub AreSmall : List (Option ℕ) → Type 0
AreSmall entries = AllByRecursion IsSmallEntry entries

-- no input is above the greatest value, and no write of the protocol, in a round of the room and if the input and no entry are
pub record HasSmallValues (spec : RoomSpec) : Type 0 where
  pub inputs : (p : ℕ) → slice_index spec.inputs p ≤ greatest
  pub own : (i : ℕ) → slice_index spec.own i ≤ greatest
  pub first : (p input : ℕ) → p < processes spec → input ≤ greatest → first_value spec.protocol input p (processes spec) ≤ greatest
  pub next : (p input k value : ℕ) (view : List (Option ℕ)) → p < processes spec → input ≤ greatest → k ≤ spec.rounds → length view ≡ processes spec → AreSmall view → next_action spec.protocol input p k view ≡ actions.Write value → value ≤ greatest
