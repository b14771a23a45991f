-- What a script asks for.
use Rattle.std.specs.Prelude.{◌≡◌, ◌≤◌, ⊤, true, false, ℕ, zero, suc, ◌+◌, Bool, ◌&&◌, List, [], ◌∷◌, length, take, drop, Option, Some, None, Result, Ok, Err, nat_le, if◌then◌else◌, codes, decimal, is_some}
use Rattle.std.specs.List.{join_with_byte}
use Rattle.std.specs.Str.{bytes_eq}
use Rattle.protocol_lang.specs.Numbers.{number_of}
use Rattle.room_spec.specs.Names.{is_name}
use Rattle.room_spec.specs.Texts.{first_line, later_lines, fields_of}
use Rattle.service_core.specs.declared.command.Command.{Command}
use Rattle.service_core.specs.declared.command.Command.TheVariants.{Begin, Step, Crash, Settle, Report, Close}
use Rattle.service_core.specs.Replies.{name_in}
use Rattle.room_files.specs.Blocks.{block_extent}
use Rattle.room_files.specs.Faults.{FaultAt}
use Rattle.room_files.specs.Lines.{text_lines}
use Rattle.room_files.specs.declared.fault.TextFault.TheVariants.{NoCommand}
use Rattle.script_play.specs.declared.entries.Entry.{Entry as First}
use Rattle.script_play.specs.declared.entries.Entry.TheVariants as first

-- ---- commands

abbrev pub within : ℕ → ℕ → Option ℕ → Option ℕ
within least most None = None
within least most (Some number) = if nat_le least number && nat_le number most then Some number else None

-- the number that a field is, from `least` to `most`
abbrev pub number_within : ℕ → ℕ → List ℕ → Option ℕ
number_within least most field = within least most (number_of field)

abbrev pub bare_command : List ℕ → List ℕ → Option Command
bare_command word name =
    if bytes_eq word (codes "settle") then Some (Settle name)
    else if bytes_eq word (codes "report") then Some (Report name)
    else if bytes_eq word (codes "close") then Some (Close name)
    else None

abbrev pub crash_command : List ℕ → Option ℕ → Option Command
crash_command name None = None
crash_command name (Some sim) = Some (Crash name sim)

abbrev pub step_command : List ℕ → Option ℕ → Option ℕ → Option Command
step_command name None count = None
step_command name (Some sim) None = None
step_command name (Some sim) (Some count) = Some (Step name sim count)

-- the command of this word to the room of this name, with the numbers after the name
abbrev pub command_to : List ℕ → List ℕ → List (List ℕ) → Option Command
command_to word name [] = bare_command word name
command_to word name (sim ∷ []) = if bytes_eq word (codes "crash") then crash_command name (number_within 0 255 sim) else None
command_to word name (sim ∷ count ∷ []) = if bytes_eq word (codes "step") then step_command name (number_within 0 255 sim) (number_within 1 65535 count) else None
command_to word name (sim ∷ count ∷ other ∷ others) = None

abbrev pub command_of : List (List ℕ) → Option Command
command_of [] = None
command_of (word ∷ []) = None
command_of (word ∷ name ∷ numbers) = if is_name name then command_to word name numbers else None

-- the command that a line is, or nothing; a block is opened by other means
abbrev pub command_in : List ℕ → Option Command
command_in line = command_of (fields_of line)

-- the command for steps of the room that these bytes name, if they are a name
abbrev pub steps_for : List ℕ → ℕ → ℕ → Option Command
steps_for name sim count = if is_name name then Some (Step name sim count) else None

-- ---- the lines of commands

-- the word of a command, the name of its room, and its numbers
abbrev pub command_fields : Command → List (List ℕ)
command_fields (Begin spec) = []
command_fields (Step name sim count) = codes "step" ∷ name ∷ decimal sim ∷ decimal count ∷ []
command_fields (Crash name sim) = codes "crash" ∷ name ∷ decimal sim ∷ []
command_fields (Settle name) = codes "settle" ∷ name ∷ []
command_fields (Report name) = codes "report" ∷ name ∷ []
command_fields (Close name) = codes "close" ∷ name ∷ []

-- the numbers are in range; a room is begun by a block, and by no single line
abbrev pub HasNumbers : Command → Type 0
HasNumbers (Begin spec) = ⊥
HasNumbers (Step name sim count) = (sim ≤ 255) × (1 ≤ count) × (count ≤ 65535)
HasNumbers (Crash name sim) = sim ≤ 255
HasNumbers (Settle name) = ⊤
HasNumbers (Report name) = ⊤
HasNumbers (Close name) = ⊤

-- the line asks for the command: its fields, with one space between each two
pub record IsCommandLine (line : List ℕ) (command : Command) : Type 0 where
  pub text : line ≡ join_with_byte 32 (command_fields command)
  pub room : is_name (name_in command) ≡ true
  pub numbers : HasNumbers command

-- ---- scripts

-- what a script asks for at one place: a command, or to open the room of a block whose first line has this number
pub data Entry : Type 0 where
  Ask : Command → Entry
  Open : ℕ → List ℕ → Entry

abbrev pub is_open : List ℕ → Bool
is_open line = bytes_eq line (codes "open")

-- the block that belongs to a line, after which the text goes on so
abbrev pub block_after : List ℕ → List ℕ → List ℕ
block_after line text = if is_open line then take (block_extent text) text else []

-- what comes after the line and its block
abbrev pub text_after : List ℕ → List ℕ → List ℕ
text_after line text = if is_open line then drop (block_extent text) text else text

-- the script begins with the line `open` and this block, or with this other line
abbrev pub StandsFirst : List ℕ → First → Type 0
StandsFirst script (first.Block block) = (is_open (first_line script) ≡ true) × (block.now ≡ block_after (first_line script) (later_lines script))
StandsFirst script (first.Line line) = (is_open (first_line script) ≡ false) × (line.now ≡ first_line script)

-- how many lines that is
abbrev pub entry_lines : First → ℕ
entry_lines (first.Block block) = 1 + length (text_lines block.now)
entry_lines (first.Line line) = 1

abbrev pub asked : ℕ → Option Command → Result Entry FaultAt
asked number None = Err (number, NoCommand)
asked number (Some command) = Ok (Ask command)

-- what the line of this number asks for with its block, or its fault
abbrev pub entry_at : ℕ → List ℕ → List ℕ → Result Entry FaultAt
entry_at number line block = if is_open line then Ok (Open (number + 1) block) else asked number (command_in line)

-- what comes first asks for this, where its first line has this number, or for nothing
abbrev pub asks_at : ℕ → First → Result Entry FaultAt
asks_at number (first.Block block) = Ok (Open (number + 1) block.now)
asks_at number (first.Line line) = asked number (command_in line.now)

-- it asks for something
abbrev pub is_asking : First → Bool
is_asking (first.Block block) = true
is_asking (first.Line line) = is_some (command_in line.now)

abbrev pub and_then : Result Entry FaultAt → Result (List Entry) FaultAt → Result (List Entry) FaultAt
and_then (Err fault) later = Err fault
and_then (Ok entry) (Err fault) = Err fault
and_then (Ok entry) (Ok entries) = Ok (entry ∷ entries)

-- what a text asks for whose first line has this number, in at most this many entries, or its first fault
unfoldable pub script_from : ℕ → ℕ → List ℕ → Result (List Entry) FaultAt
script_from zero number text = Ok []
script_from (suc most) number [] = Ok []
script_from (suc most) number (byte ∷ bytes) =
    let line = first_line (byte ∷ bytes) in
    let later = later_lines (byte ∷ bytes) in
    and_then (entry_at number line (block_after line later)) (script_from most (number + 1 + length (text_lines (block_after line later))) (text_after line later))

-- a script has no more entries than bytes
abbrev pub script_says : List ℕ → Result (List Entry) FaultAt
script_says input = script_from (length input) 1 input
