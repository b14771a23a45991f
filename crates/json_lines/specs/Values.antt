-- What texts, states of processes and events are as JSON.
use Rattle.std.specs.Prelude.{ℕ, List, map, Option, Some, None, if◌then◌else◌, codes}
use Rattle.std.specs.Str.{is_utf8}
use Rattle.serde_json.specs.Data.{Data, array, member, no_members, null, number, object, string, unsigned}
use Rattle.serde_json.specs.View.{items_of}
use Rattle.transcript.specs.declared.event.Event.{Event}
use Rattle.transcript.specs.declared.event.Event.TheVariants.{Write, Snap, Decide}
use Rattle.ws_history.specs.declared.states.ProcessState.{ProcessState}
use Rattle.ws_history.specs.declared.states.ProcessState.TheVariants.{Decided, Spent, Held, Going}

-- a text as a string; bytes that are not UTF-8 are no text
abbrev pub text_data : List ℕ → Data
text_data bytes = if is_utf8 bytes then string bytes else null

abbrev pub number_data : ℕ → Data
number_data n = number (unsigned n)

abbrev pub numbers_data : List ℕ → Data
numbers_data numbers = array (items_of (map number_data numbers))

abbrev pub process_data : ProcessState → Data
process_data (Decided v) = object (member (codes "state") (string (codes "decided")) (member (codes "value") (number (unsigned v)) no_members))
process_data (Held i) = object (member (codes "by") (number (unsigned i)) (member (codes "state") (string (codes "held")) no_members))
process_data Spent = object (member (codes "state") (string (codes "spent")) no_members)
process_data Going = object (member (codes "state") (string (codes "going")) no_members)

abbrev pub processes_data : List ProcessState → Data
processes_data states = array (items_of (map process_data states))

-- an entry of a snapshot: a value, or nothing
abbrev pub entry_data : Option ℕ → Data
entry_data None = null
entry_data (Some v) = number (unsigned v)

abbrev pub row_data : List (Option ℕ) → Data
row_data row = array (items_of (map entry_data row))

-- a write or a decision, by its word
abbrev pub deed_data : List ℕ → ℕ → ℕ → Data
deed_data word p v = object (member (codes "event") (string word) (member (codes "process") (number (unsigned p)) (member (codes "value") (number (unsigned v)) no_members)))

abbrev pub event_data : Event → Data
event_data (Write p v) = deed_data (codes "write") p v
event_data (Snap p row) = object (member (codes "event") (string (codes "snap")) (member (codes "process") (number (unsigned p)) (member (codes "row") (row_data row.items) no_members)))
event_data (Decide p v) = deed_data (codes "decide") p v

abbrev pub events_data : List Event → Data
events_data events = array (items_of (map event_data events))
