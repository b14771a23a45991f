-- What is said of all faults of a script.
use Rattle.std.specs.Prelude.{ℕ, ◌+◌, ◌==◌, ◌||◌, ◌&&◌, Bool, false, List, [], ◌∷◌, ◌++◌, length, take, map, Option, Some, None, Result, Ok, Err, is_some, nat_eq, codes, decimal, if◌then◌else◌}
use Rattle.std.specs.List.{list_any, starts_with}
use Rattle.std.specs.Result.{is_err}
use Rattle.room_files.specs.Kinds.{block_of}
use Rattle.room_files.specs.declared.kinds.Kinds.TheVariants.{All}
use Rattle.room_spec.specs.Rooms.{RoomSpec}
use Rattle.room_spec.specs.Texts.{first_line, later_lines}
use Rattle.room_spec.specs.declared.fault.SpecFault.{SpecFault}
use Rattle.room_files.specs.Blocks.{block_extent, fault_text, refused_line}
use Rattle.room_files.specs.Faults.{text_sentence}
use Rattle.room_files.specs.Lines.{text_lines}
use Rattle.room_files.specs.declared.fault.TextFault.TheVariants.{NoCommand}
use Rattle.room_files.specs.declared.fault.BlockFault.TheVariants.{NameTaken}
use Rattle.service_core.specs.Replies.{name_in, refusal_sentence}
use Rattle.service_core.specs.declared.command.Command.{Command}
use Rattle.service_core.specs.declared.reply.Refusal.{Refusal}
use Rattle.service_core.specs.declared.reply.Refusal.TheVariants as refusals
use Rattle.script_play.specs.Script.{block_after, command_in, is_open, text_after}
use Rattle.fault_text.specs.Blocks.{block_fault, later_line, line_fault}
use Rattle.fault_text.specs.Hints.{advice, hint}
use Rattle.fault_text.specs.Lines.{indented, indented_all}
use Rattle.fault_text.specs.Phrases.{form_fault}
use Rattle.fault_text.specs.Places.{place_notes}
use Rattle.fault_text.specs.Spots.{SpotParts, block_spot, form_spot, refusal_spot}
use Rattle.fault_text.specs.UnknownNames.{MetNames, has_room_line, is_met, met, more_note, near_room}
use Rattle.fault_text.specs.declared.hints.TheConstants.{NO_COMMAND}
use Rattle.fault_text.specs.declared.phrases.TheConstants.{COMMANDS}
use Rattle.file_faults.specs.Json.{enough_in, fault_in, more_in}
use Rattle.file_faults.specs.OpenRooms.{RoomsByName, refusal_of, rooms_after, rooms_begun, simulators_of}
use Rattle.file_faults.specs.Walks.{Parts, said_from}
use Rattle.file_faults.specs.declared.scripts.TheConstants.{COUNTED, MORE_COMMANDS, NOT_OPEN}
use Rattle.fault_text.specs.declared.refusals.TheConstants.{MOST_EXPLAINED}

-- the line that says that a block is refused, for people, and what is said of its fault
abbrev pub fault_said : ℕ → List ℕ → SpecFault → List ℕ
fault_said number block fault = codes "    " ++ (refused_line number (fault_text fault) ++ block_fault number block fault)

-- What is known of a script's rooms from its lines before: which are open, and the names of no open room that commands had.
pub record KnownRooms : Type 0 where
  pub rooms : RoomsByName
  pub unknown_names : MetNames

-- ---- blocks

-- a room of its name is open
abbrev pub taken_said : RoomsByName → ℕ → List ℕ → RoomSpec → List ℕ
taken_said rooms number block spec = if is_some (simulators_of spec.name rooms) then line_fault number block 2 NameTaken else []

-- a block's first fault, or that a room of its name is open
abbrev pub read_said : RoomsByName → ℕ → List ℕ → Result (RoomSpec × ℕ) SpecFault → List ℕ
read_said rooms number block (Err fault) = fault_said number block fault
read_said rooms number block (Ok read) = taken_said rooms number block read.0

abbrev pub block_said : RoomsByName → ℕ → List ℕ → List ℕ
block_said rooms number block = read_said rooms number block (block_of All block)

abbrev pub rooms_after_read : RoomsByName → Result (RoomSpec × ℕ) SpecFault → RoomsByName
rooms_after_read rooms (Err fault) = rooms
rooms_after_read rooms (Ok read) = rooms_begun rooms read.0

-- ---- commands

-- the line of this number, which is no command
abbrev pub bad_command : ℕ → List ℕ → List ℕ
bad_command number line = form_fault number (text_sentence NoCommand) line (map (λ form. form.now) COMMANDS) ++ hint (advice (map (λ entry. entry.now) NO_COMMAND) line)

-- no room of this name is open: a block of the script has the name, or one has a name near it
abbrev pub meant : List ℕ → List ℕ → List ℕ
meant script name = if has_room_line name script then indented NOT_OPEN.now else near_room script name

-- which is said of the first line that has the name
abbrev pub absent_said : List ℕ → MetNames → ℕ → List ℕ → List ℕ → List ℕ
absent_said script unknown_names number line name =
    if is_met name unknown_names then [] else indented_all (place_notes number (refusal_sentence refusals.NoRoom) [] line) ++ meant script name

abbrev pub count_note : ℕ → List ℕ
count_note simulators = COUNTED.now ++ ((32 ∷ decimal simulators) ++ codes "\n")

-- how many simulators the open room has, if there is one
abbrev pub simulators_note : Option ℕ → List ℕ
simulators_note None = []
simulators_note (Some simulators) = count_note simulators

-- why the line's command is refused
abbrev pub refused_said : List ℕ → KnownRooms → ℕ → List ℕ → List ℕ → Option Refusal → List ℕ
refused_said script known number line name None = []
refused_said script known number line name (Some refusals.NoRoom) = absent_said script known.unknown_names number line name
refused_said script known number line name (Some refusal) =
    indented_all (place_notes number (refusal_sentence refusal) [] line) ++ simulators_note (simulators_of name known.rooms)

-- the line of this number, unless it is a command that is done
abbrev pub line_said : List ℕ → KnownRooms → ℕ → List ℕ → Option Command → List ℕ
line_said script known number line None = bad_command number line
line_said script known number line (Some command) = refused_said script known number line (name_in command) (refusal_of known.rooms command)

abbrev pub met_if_absent : MetNames → List ℕ → Option Refusal → MetNames
met_if_absent unknown_names name (Some refusals.NoRoom) = met name unknown_names
met_if_absent unknown_names name refusal = unknown_names

abbrev pub known_after_command : KnownRooms → Option Command → KnownRooms
known_after_command known None = known
known_after_command known (Some command) =
    record { rooms = rooms_after known.rooms command; unknown_names = met_if_absent known.unknown_names (name_in command) (refusal_of known.rooms command) }

-- ---- entries

abbrev pub block_in_front : List ℕ → List ℕ
block_in_front text = take (block_extent text) text

-- the block after a line `open`, or another line
abbrev pub entry_said : List ℕ → KnownRooms → ℕ → List ℕ → List ℕ
entry_said script known number text =
    if is_open (first_line text) then block_said known.rooms (later_line number 1) (block_in_front (later_lines text))
    else line_said script known number (first_line text) (command_in (first_line text))

abbrev pub known_after : KnownRooms → List ℕ → KnownRooms
known_after known text =
    if is_open (first_line text) then record { rooms = rooms_after_read known.rooms (block_of All (block_in_front (later_lines text))); unknown_names = known.unknown_names }
    else known_after_command known (command_in (first_line text))

abbrev pub next_number : ℕ → List ℕ → List ℕ → ℕ
next_number number line later = later_line number (1 + length (text_lines (block_after line later)))

-- the block after a line `open` is refused
abbrev pub is_block_refused : List ℕ → Bool
is_block_refused text = is_open (first_line text) && is_err (block_of All (block_in_front (later_lines text)))

-- the place of a block's first fault, or of its name, which is taken
abbrev pub read_spot : ℕ → List ℕ → Result (RoomSpec × ℕ) SpecFault → SpotParts
read_spot number block (Err fault) = block_spot number block fault
read_spot number block (Ok read) = refusal_spot number block NameTaken

-- the place of the first byte of a line whose command is refused
abbrev pub refused_spot : ℕ → Option Refusal → SpotParts
refused_spot number None = record { line = number; place = Some 1; what = [] }
refused_spot number (Some refusal) = record { line = number; place = Some 1; what = refusal_sentence refusal }

abbrev pub line_spot : KnownRooms → ℕ → List ℕ → Option Command → SpotParts
line_spot known number line None = form_spot number (text_sentence NoCommand) line (map (λ form. form.now) COMMANDS)
line_spot known number line (Some command) = refused_spot number (refusal_of known.rooms command)

-- the place of what is said of an entry
abbrev pub entry_spot : KnownRooms → ℕ → List ℕ → SpotParts
entry_spot known number text =
    if is_open (first_line text) then read_spot (later_line number 1) (block_in_front (later_lines text)) (block_of All (block_in_front (later_lines text)))
    else line_spot known number (first_line text) (command_in (first_line text))

-- what is said of an entry, as text or as JSON
abbrev pub entry_in : Bool → List ℕ → KnownRooms → ℕ → List ℕ → List ℕ
entry_in json script known number text = fault_in json (is_block_refused text) (entry_spot known number text) (entry_said script known number text)

abbrev pub entries : Bool → List ℕ → Parts KnownRooms
entries json script = record {
  said = entry_in json script;
  known = λ known number text. known_after known text;
  next = λ number text. next_number number (first_line text) (later_lines text);
  later = λ text. text_after (first_line text) (later_lines text);
  ends = λ known. more_in json (more_note MORE_COMMANDS.now known.unknown_names);
  enough = enough_in json;
}

abbrev pub none_known : KnownRooms
none_known = record { rooms = []; unknown_names = record { names = []; more = 0 } }

abbrev pub begins_with_block : List ℕ → Bool
begins_with_block script = starts_with nat_eq script (codes "bgsim ")

-- its first line has a carriage return, as each line of a file from elsewhere
abbrev pub ends_as_elsewhere : List ℕ → Bool
ends_as_elsewhere script = list_any (λ byte. byte == 13) (first_line script)

-- a file that begins with a block is no script, and one from elsewhere has no line of a script: only the first fault is explained
abbrev pub explained_at_most : List ℕ → ℕ
explained_at_most script = if begins_with_block script || ends_as_elsewhere script then 1 else MOST_EXPLAINED

unfoldable pub script_said : Bool → List ℕ → List ℕ
script_said json script = said_from (entries json script) (length script) (explained_at_most script) none_known 1 script

abbrev pub script_faults : List ℕ → List ℕ
script_faults script = script_said false script
