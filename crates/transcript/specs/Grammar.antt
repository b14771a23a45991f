-- The lines that say events.
use Rattle.std.specs.Prelude.{◌≡◌, ◌≤◌, ℕ, true, List, [], ◌∷◌, length, map, Option, Some, None, codes}
use Rattle.std.specs.List.{AllByRecursion, join_with_byte}
use Rattle.std.specs.Fmt.{decimal}
use Rattle.protocol_lang.specs.Numbers.{greatest}
use Rattle.protocol_lang.specs.Limits.{IsEntry}
use Rattle.room_spec.specs.Names.{is_name}
use Rattle.transcript.specs.declared.event.Event.{Event}
use Rattle.transcript.specs.declared.event.Event.TheVariants.{Write, Snap, Decide}
use Rattle.transcript.specs.Runs.{process_of}
use Rattle.protocol_lang.specs.declared.meaning.TheConstants.{MAX_PROCESSES}
use Rattle.transcript.specs.declared.event_line.TheConstants.{MAX_PROCESS}

-- a value, or `.` for nothing
abbrev pub entry_text : Option ℕ → List ℕ
entry_text None = codes "."
entry_text (Some value) = decimal value

-- what comes after the name: the process, what it did, and the value or the row
abbrev pub event_fields : Event → List (List ℕ)
event_fields (Write p v) = decimal p ∷ codes "write" ∷ decimal v ∷ []
event_fields (Snap p row) = decimal p ∷ codes "snap" ∷ map entry_text row.items
event_fields (Decide p v) = decimal p ∷ codes "decide" ∷ decimal v ∷ []

-- the line of an event in the room of this name: the fields, with one space between each two
abbrev pub event_line : List ℕ → Event → List ℕ
event_line name event = join_with_byte 32 (name ∷ event_fields event)

-- an entry for each of 1 to 16 processes
pub record IsRow (entries : List (Option ℕ)) : Type 0 where
  pub some : 1 ≤ length entries
  pub few : length entries ≤ MAX_PROCESSES
  pub values : AllByRecursion IsEntry entries

abbrev pub HasValues : Event → Type 0
HasValues (Write p v) = v ≤ greatest
HasValues (Snap p row) = IsRow row.items
HasValues (Decide p v) = v ≤ greatest

-- the line says the event in the room of this name
pub record IsEventLine (line name : List ℕ) (event : Event) : Type 0 where
  pub text : line ≡ event_line name event
  pub room : is_name name ≡ true
  pub process : process_of event ≤ MAX_PROCESS
  pub values : HasValues event
