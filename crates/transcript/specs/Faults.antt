-- The faults of an event line: their numbers, what they say, and which of them a line has.
use Rattle.std.specs.Prelude.{ℕ, Bool, false, not, ◌&&◌, ◌||◌, List, [], ◌∷◌, length, drop, get_or, Option, Some, None, Result, Ok, Err, nat_le, nat_lt, if◌then◌else◌, codes}
use Rattle.std.specs.List.{list_all}
use Rattle.std.specs.Str.{bytes_eq}
use Rattle.protocol_lang.specs.Numbers.{greatest, number_of}
use Rattle.room_spec.specs.Names.{is_name}
use Rattle.room_spec.specs.Texts.{fields_of}
use Rattle.transcript.specs.declared.fault.LineFault.{LineFault}
use Rattle.transcript.specs.declared.fault.LineFault.TheVariants.{BadName, BadWord, BadNumber, BadLength, TooLong}
use Rattle.transcript.specs.declared.event_line.TheConstants.{MAX_LINE, MAX_PROCESS}

abbrev pub code_of : LineFault → ℕ
code_of BadName = 30
code_of BadWord = 31
code_of BadNumber = 32
code_of BadLength = 33
code_of TooLong = 34

unfoldable pub sentence_of : LineFault → List ℕ
sentence_of BadName = codes "the line does not begin with a valid name"
sentence_of BadWord = codes "the third field is not `write`, `snap` or `decide`"
sentence_of BadNumber = codes "a field is not a number, or the number is out of range"
sentence_of BadLength = codes "the line has too few or too many fields"
sentence_of TooLong = codes "the line has more than 256 bytes"

-- ---- what is asked of the fields

abbrev pub is_up_to : ℕ → Option ℕ → Bool
is_up_to most None = false
is_up_to most (Some number) = nat_le number most

-- the field is a number of at most `most`
abbrev pub is_number : ℕ → List ℕ → Bool
is_number most field = is_up_to most (number_of field)

abbrev pub is_snap : List ℕ → Bool
is_snap word = bytes_eq word (codes "snap")

abbrev pub is_word : List ℕ → Bool
is_word word = bytes_eq word (codes "write") || bytes_eq word (codes "decide") || is_snap word

-- the most fields of a line with this word: a value, or an entry for each of 16 processes
abbrev pub most_fields : List ℕ → ℕ
most_fields word = if is_snap word then 19 else 4

-- what may come after the word: a value, or in a snapshot `.` too
abbrev pub is_entry : List ℕ → List ℕ → Bool
is_entry word field = (is_snap word && bytes_eq field (codes ".")) || is_number greatest field

-- ---- which fault a line has

-- the field of this number, from 0; a field that is missing is empty
abbrev pub field : List (List ℕ) → ℕ → List ℕ
field fields place = get_or fields place []

-- what is wrong with a line of these fields, in the order in which it is judged
abbrev pub wrongs : List ℕ → List (List ℕ) → List (Bool × LineFault)
wrongs line fields =
    (nat_lt MAX_LINE (length line), TooLong)
    ∷ (not (is_name (field fields 0)), BadName)
    ∷ (nat_lt (length fields) 4, BadLength)
    ∷ (not (is_number MAX_PROCESS (field fields 1)), BadNumber)
    ∷ (not (is_word (field fields 2)), BadWord)
    ∷ (nat_lt (most_fields (field fields 2)) (length fields), BadLength)
    ∷ (not (list_all (is_entry (field fields 2)) (drop 3 fields)), BadNumber)
    ∷ []

-- the first of them that holds
abbrev pub first_of : List (Bool × LineFault) → Option LineFault
first_of [] = None
first_of (wrong ∷ others) = if wrong.0 then Some wrong.1 else first_of others

-- the fault of a line, or nothing if it says an event
abbrev pub first_fault : List ℕ → Option LineFault
first_fault line = first_of (wrongs line (fields_of line))

abbrev pub fault_in : {A : Type 0} → Result A LineFault → Option LineFault
fault_in (Ok read) = None
fault_in (Err fault) = Some fault
