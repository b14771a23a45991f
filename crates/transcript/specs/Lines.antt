-- How an event line is read: by its fields, up to the first fault.
use Rattle.std.specs.Prelude.{◌≡◌, ◌≤◌, ℕ, List, [], ◌∷◌, ◌++◌, length, Option, Some, None, Result, Ok, Err, nat_le, nat_lt, if◌then◌else◌, codes, decimal}
use Rattle.std.specs.Str.{bytes_eq}
use Rattle.protocol_lang.specs.Results.{◌>>=◌}
use Rattle.protocol_lang.specs.Numbers.{greatest, number_of}
use Rattle.room_spec.specs.Names.{is_name}
use Rattle.room_spec.specs.Texts.{fields_of}
use Rattle.transcript.specs.declared.event.Event.{Event}
use Rattle.transcript.specs.declared.word.EventWord.{EventWord}
use Rattle.transcript.specs.declared.word.EventWord.TheVariants as words
use Rattle.transcript.specs.declared.event.Event.TheVariants.{Write, Snap, Decide}
use Rattle.transcript.specs.declared.fault.LineFault.{LineFault}
use Rattle.transcript.specs.declared.fault.LineFault.TheVariants.{BadName, BadWord, BadNumber, BadLength, TooLong}
use Rattle.protocol_lang.specs.declared.meaning.TheConstants.{MAX_PROCESSES}
use Rattle.transcript.specs.declared.event_line.TheConstants.{MAX_LINE, MAX_PROCESS}

abbrev pub up_to : ℕ → Option ℕ → Result ℕ LineFault
up_to most None = Err BadNumber
up_to most (Some number) = if nat_le number most then Ok number else Err BadNumber

-- the number that a field is, of at most `most`
abbrev pub number_in : ℕ → List ℕ → Result ℕ LineFault
number_in most field = up_to most (number_of field)

abbrev pub entry_of : ℕ → Result (Option ℕ) LineFault
entry_of value = Ok (Some value)

-- an entry of a snapshot: a value, or `.` for nothing
abbrev pub entry_in : List ℕ → Result (Option ℕ) LineFault
entry_in field = if bytes_eq field (codes ".") then Ok None else number_in greatest field >>= entry_of

abbrev pub entries_in : List (List ℕ) → Result (List (Option ℕ)) LineFault
entries_in [] = Ok []
entries_in (field ∷ fields) = entry_in field >>= λ entry. entries_in fields >>= λ entries. Ok (entry ∷ entries)

-- the one value after `write` and `decide`
abbrev pub value_in : List (List ℕ) → Result ℕ LineFault
value_in [] = Err BadLength
value_in (field ∷ []) = number_in greatest field
value_in (first ∷ second ∷ fields) = Err BadLength

abbrev pub row_in : List (List ℕ) → Result (List (Option ℕ)) LineFault
row_in fields = if nat_lt MAX_PROCESSES (length fields) then Err BadLength else entries_in fields

abbrev pub write_by : ℕ → ℕ → Result Event LineFault
write_by p v = Ok (Write p v)

abbrev pub snap_by : ℕ → List (Option ℕ) → Result Event LineFault
snap_by p entries = Ok (Snap p (record { items = entries }))

abbrev pub decide_by : ℕ → ℕ → Result Event LineFault
decide_by p v = Ok (Decide p v)

-- the event of process p, by its word and the fields after it
abbrev pub event_of : List ℕ → List (List ℕ) → ℕ → Result Event LineFault
event_of word fields p =
    if bytes_eq word (codes "write") then value_in fields >>= write_by p
    else if bytes_eq word (codes "snap") then row_in fields >>= snap_by p
    else if bytes_eq word (codes "decide") then value_in fields >>= decide_by p
    else Err BadWord

-- the fields after the name: the process, the word and at least one more
abbrev pub event_in : List (List ℕ) → Result Event LineFault
event_in [] = Err BadLength
event_in (process ∷ []) = Err BadLength
event_in (process ∷ word ∷ fields) = if nat_lt 0 (length fields) then number_in MAX_PROCESS process >>= event_of word fields else Err BadLength

abbrev pub of_room : List ℕ → Event → Result (List ℕ × Event) LineFault
of_room name event = Ok (name, event)

abbrev pub named_event : List (List ℕ) → Result (List ℕ × Event) LineFault
named_event [] = Err BadName
named_event (name ∷ fields) = if is_name name then event_in fields >>= of_room name else Err BadName

-- the room's name and the event that a line says, or its first fault
abbrev pub line_in : List ℕ → Result (List ℕ × Event) LineFault
line_in line = if nat_lt MAX_LINE (length line) then Err TooLong else named_event (fields_of line)

-- ---- the same in two steps: a line is cut into its parts, and these are read

-- the word of an event line, as text
abbrev pub word_text : EventWord → List ℕ
word_text words.Write = codes "write"
word_text words.Snap = codes "snap"
word_text words.Decide = codes "decide"

-- the text doesn't begin with one of them and a space
abbrev pub IsStray : List ℕ → Type 0
IsStray text = (word : EventWord) (values : List ℕ) → text ≡ word_text word ++ 32 ∷ values → ⊥

-- the first field, the number of the process, the word, and what follows it
pub record LineParts : Type 0 where
  pub name : List ℕ
  pub process : ℕ
  pub word : EventWord
  pub values : List ℕ

-- the line's fields are those of its parts
pub record IsCutInto (line : List ℕ) (parts : LineParts) : Type 0 where
  pub short : length line ≤ MAX_LINE
  pub fields : fields_of line ≡ parts.name ∷ decimal parts.process ∷ word_text parts.word ∷ fields_of parts.values
  pub process : parts.process ≤ MAX_PROCESS

-- the event that they say, whatever the name is
abbrev pub event_said : LineParts → Result Event LineFault
event_said parts = event_of (word_text parts.word) (fields_of parts.values) parts.process

-- the same with the name, which has to be one
abbrev pub line_said : LineParts → Result (List ℕ × Event) LineFault
line_said parts = if is_name parts.name then event_said parts >>= of_room parts.name else Err BadName
