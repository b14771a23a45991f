-- How a room block is read: line by line, up to the first fault.
use Rattle.std.specs.Prelude.{◌≡◌, ◌≤◌, ◌⊎◌, ⊤, ℕ, true, zero, suc, ◌+◌, ◌*◌, Bool, ◌&&◌, min, List, [], ◌∷◌, ◌++◌, length, take, drop, replicate, slice_index, Option, Some, None, Result, Ok, Err, nat_eq, nat_le, nat_lt, ◌==◌, if◌then◌else◌, codes}
use Rattle.std.specs.List.{list_all, list_any, position, starts_with, sum_by}
use Rattle.std.specs.Option.{option_map, option_and_then}
use Rattle.std.specs.Str.{bytes_eq}
use Rattle.protocol_lang.specs.Results.{◌>>=◌}
use Rattle.protocol_lang.specs.Numbers.{number_of}
use Rattle.protocol_lang.specs.Reading.{MayLackMemory, reading}
use Rattle.protocol_lang.specs.declared.protocol.Protocol.{Protocol}
use Rattle.protocol_lang.specs.declared.fault.ParseFault.{ParseFault}
use Rattle.protocol_lang.specs.declared.fault.ParseFault.TheVariants.{OutOfMemory}
use Rattle.room_spec.specs.Names.{is_name}
use Rattle.room_spec.specs.Rooms.{RoomSpec, AreOwn, bits_of, is_value, most_bits}
use Rattle.room_spec.specs.Texts.{first_line, later_lines, lines_of, fields_of}
use Rattle.room_spec.specs.declared.fault.SpecFault.{SpecFault}
use Rattle.room_spec.specs.declared.fault.SpecFault.TheVariants.{Truncated, BadLine, BadName, BadProtocol, Inputs, Simulators, Rounds, Turns, TooWide, CrashLine, Repeated, TaskLine, Processes}
use Rattle.room_spec.specs.declared.version.Version.{Version}
use Rattle.room_spec.specs.declared.version.Version.TheVariants.{One, Two}
use Rattle.protocol_lang.specs.declared.meaning.TheConstants.{MAX_PROCESSES}
use Rattle.room_spec.specs.declared.spec.TheConstants.{MAX_AGREED, MAX_ROUNDS, MAX_SIMULATORS, MAX_TURNS}

-- ---- where a block ends

abbrev pub is_end : List ℕ → Bool
is_end line = bytes_eq line (codes "end")

-- how many bytes the lines take with their line ends
abbrev pub extent_of : List (List ℕ) → ℕ
extent_of lines = sum_by (λ line. length line + 1) lines

-- how many bytes are before the first line `end`
unfoldable pub body_len : List ℕ → Option ℕ
body_len text = option_map (λ before. extent_of (take before (lines_of text))) (position is_end (lines_of text))

-- the same with that line, which alone may end with the text instead of a line end
abbrev pub block_len : List ℕ → Option ℕ
block_len text = option_map (λ body. min (body + 4) (length text)) (body_len text)

-- the text ends with its first line `end`: what comes before that line, and how many lines these are
pub record IsEnded (text body : List ℕ) (lines : ℕ) : Type 0 where
  pub body_is : body_len text ≡ Some (length body)
  pub bytes : body ≡ take (length body) text
  pub whole : block_len text ≡ Some (length text)
  pub lines_are : option_map suc (position is_end (lines_of text)) ≡ Some lines

-- ---- the lines, each read from the front of a text; it gives what it says and the lines after it

-- what comes after a word and its space at the front of a line
abbrev pub value_after : List ℕ → List ℕ → Option (List ℕ)
value_after word line = if starts_with nat_eq line word then Some (drop (length word) line) else None

abbrev pub version_of : List ℕ → Result Version SpecFault
version_of line = if bytes_eq line (codes "bgsim 1") then Ok One else if bytes_eq line (codes "bgsim 2") then Ok Two else Err (BadLine 1)

abbrev pub version_line : List ℕ → Result (Version × List ℕ) SpecFault
version_line text = version_of (first_line text) >>= λ version. Ok (version, later_lines text)

-- a reduction's other lines are those of version 2
abbrev pub reduction_of : List ℕ → Result Version SpecFault
reduction_of line = if bytes_eq line (codes "reduction 1") then Ok Two else Err (BadLine 1)

abbrev pub reduction_line : List ℕ → Result (Version × List ℕ) SpecFault
reduction_line text = reduction_of (first_line text) >>= λ version. Ok (version, later_lines text)

abbrev pub named : Option (List ℕ) → Result (List ℕ) SpecFault
named None = Err (BadLine 2)
named (Some name) = if is_name name then Ok name else Err BadName

abbrev pub name_line : List ℕ → Result (List ℕ × List ℕ) SpecFault
name_line text = named (value_after (codes "room ") (first_line text)) >>= λ name. Ok (name, later_lines text)

-- all of the numbers that the fields are, or nothing if one is none
abbrev pub with_number : Option ℕ → Option (List ℕ) → Option (List ℕ)
with_number None numbers = None
with_number (Some number) None = None
with_number (Some number) (Some numbers) = Some (number ∷ numbers)

abbrev pub numbers_of : List (List ℕ) → Option (List ℕ)
numbers_of [] = Some []
numbers_of (field ∷ fields) = with_number (number_of field) (numbers_of fields)

-- the numbers after the word `inputs`
abbrev pub inputs_of : List (List ℕ) → Option (List ℕ)
inputs_of [] = None
inputs_of (word ∷ fields) = if bytes_eq word (codes "inputs") then numbers_of fields else None

-- these are 1 to `most` values
abbrev pub are_values : ℕ → List ℕ → Bool
are_values most values = nat_le 1 (length values) && nat_le (length values) most && list_all is_value values

abbrev pub are_inputs : List ℕ → Bool
are_inputs values = are_values MAX_PROCESSES values

abbrev pub up_to_values : ℕ → Option (List ℕ) → Result (List ℕ) SpecFault
up_to_values most None = Err (BadLine 3)
up_to_values most (Some values) = if are_values most values then Ok values else Err Inputs

abbrev pub in_range : Option (List ℕ) → Result (List ℕ) SpecFault
in_range found = up_to_values MAX_PROCESSES found

abbrev pub inputs_line : List ℕ → Result (List ℕ × List ℕ) SpecFault
inputs_line text = in_range (inputs_of (fields_of (first_line text))) >>= λ values. Ok (values, later_lines text)

-- the inputs of the simulators
abbrev pub own_line : List ℕ → Result (List ℕ × List ℕ) SpecFault
own_line text = up_to_values MAX_SIMULATORS (inputs_of (fields_of (first_line text))) >>= λ values. Ok (values, later_lines text)

abbrev pub up_to : ℕ → SpecFault → ℕ → Option ℕ → Result ℕ SpecFault
up_to most fault line None = Err (BadLine line)
up_to most fault line (Some number) = if nat_le 1 number && nat_le number most then Ok number else Err fault

-- the line of this number has a word and a number from 1 to `most`
abbrev pub number_line : ℕ → List ℕ → ℕ → SpecFault → List ℕ → Result (ℕ × List ℕ) SpecFault
number_line line word most fault text =
    up_to most fault line (option_and_then number_of (value_after word (first_line text))) >>= λ number. Ok (number, later_lines text)

abbrev pub fitting : ℕ → ℕ → Result ℕ SpecFault
fitting most bits = if nat_le bits most then Ok bits else Err TooWide

-- how many values the task of the line after the turns allows
abbrev pub agreed : Option ℕ → Result ℕ SpecFault
agreed None = Err (TaskLine 7)
agreed (Some most) = if nat_le 1 most && nat_le most MAX_AGREED then Ok most else Err (TaskLine 7)

-- the same, by the words after `task`
abbrev pub task_of : List ℕ → Result ℕ SpecFault
task_of words = agreed (option_and_then number_of (value_after (codes "agree ") words))

-- what comes after the word `task` at the front of that line; in version 1 no line is one of a task
abbrev pub task_words : Version → List ℕ → Option (List ℕ)
task_words One line = None
task_words Two line = value_after (codes "task ") line

abbrev pub task_in : List ℕ → Option (List ℕ) → Result (Option ℕ × List ℕ) SpecFault
task_in text None = Ok (None, text)
task_in text (Some words) = task_of words >>= λ most. Ok (Some most, later_lines text)

-- the task, if the next line is one of a task, and what comes after it
abbrev pub task_line : Version → List ℕ → Result (Option ℕ × List ℕ) SpecFault
task_line version text = task_in text (task_words version (first_line text))

-- the number of the line after the turns and the task
abbrev pub line_behind_task : Option ℕ → ℕ
line_behind_task None = 7
line_behind_task (Some most) = 8

abbrev pub is_protocol : List ℕ → Bool
is_protocol line = bytes_eq line (codes "protocol")

abbrev pub both : Option ℕ → Option ℕ → Option (ℕ × ℕ)
both None other = None
both (Some number) None = None
both (Some number) (Some other) = Some (number, other)

-- the fuse that the words after `crash` say
abbrev pub fuse_in : List (List ℕ) → Option (ℕ × ℕ)
fuse_in (simulator ∷ word ∷ steps ∷ []) = if bytes_eq word (codes "after") then both (number_of simulator) (number_of steps) else None
fuse_in words = None

-- it is a fuse of one of m simulators; `line` is the number of its line
abbrev pub of_simulator : ℕ → ℕ → Option (ℕ × ℕ) → Result (ℕ × ℕ) SpecFault
of_simulator line m None = Err (CrashLine line)
of_simulator line m (Some fuse) = if nat_lt fuse.0 m && is_value fuse.1 then Ok fuse else Err (CrashLine line)

abbrev pub has_fuse : List (ℕ × ℕ) → ℕ → Bool
has_fuse fuses simulator = list_any (λ fuse. fuse.0 == simulator) fuses

-- its simulator has none of the fuses before it
abbrev pub unrepeated : ℕ → List (ℕ × ℕ) → ℕ × ℕ → Result (Option (ℕ × ℕ)) SpecFault
unrepeated line fuses fuse = if has_fuse fuses fuse.0 then Err (Repeated line) else Ok (Some fuse)

-- the number of the line after the crash lines of these fuses, of which the first has the number `first`
abbrev pub line_behind : ℕ → List (ℕ × ℕ) → ℕ
line_behind first fuses = first + length fuses

abbrev pub said : ℕ → ℕ → List (ℕ × ℕ) → List ℕ → Option (List ℕ) → Result (Option (ℕ × ℕ)) SpecFault
said first m fuses line None = if is_protocol line then Ok None else Err (BadLine (line_behind first fuses))
said first m fuses line (Some words) = of_simulator (line_behind first fuses) m (fuse_in (fields_of words)) >>= unrepeated (line_behind first fuses) fuses

-- what the line after the crash lines of these fuses says: one more fuse, or nothing if it is `protocol`
abbrev pub said_next : ℕ → ℕ → List (ℕ × ℕ) → List ℕ → Result (Option (ℕ × ℕ)) SpecFault
said_next first m fuses line = said first m fuses line (value_after (codes "crash ") line)

abbrev pub onward : (List (ℕ × ℕ) → List ℕ → Result (List (ℕ × ℕ) × List ℕ) SpecFault) → List (ℕ × ℕ) → List ℕ → Option (ℕ × ℕ) → Result (List (ℕ × ℕ) × List ℕ) SpecFault
onward fuses_from fuses later None = Ok (fuses, later)
onward fuses_from fuses later (Some fuse) = fuses_from (fuses ++ fuse ∷ []) later

-- the fuses of m simulators, of which some were said, and what comes after the line `protocol`; that is one of the
-- next `most` lines, since each simulator has one crash line at most
unfoldable pub fuses_from : ℕ → ℕ → ℕ → List (ℕ × ℕ) → List ℕ → Result (List (ℕ × ℕ) × List ℕ) SpecFault
fuses_from zero first m fuses text = Err (BadLine (line_behind first fuses))
fuses_from (suc most) first m fuses text = said_next first m fuses (first_line text) >>= onward (fuses_from most first m) fuses (later_lines text)

abbrev pub fuse_lines : ℕ → ℕ → List ℕ → Result (List (ℕ × ℕ) × List ℕ) SpecFault
fuse_lines first m text = fuses_from (suc m) first m [] text

abbrev pub protocol_of : Result Protocol ParseFault → Result Protocol SpecFault
protocol_of (Ok protocol) = Ok protocol
protocol_of (Err fault) = Err (BadProtocol fault)

-- what the lines before that of the rounds say
pub record Head : Type 0 where
  pub version : Version
  pub name : List ℕ
  pub inputs : List ℕ
  pub own : List ℕ
  pub simulators : ℕ

-- its limits
pub record IsHeadWithin (head : Head) : Type 0 where
  pub name : is_name head.name ≡ true
  pub inputs : are_inputs head.inputs ≡ true
  pub own : AreOwn head.own head.version head.inputs head.simulators
  pub simulators : (1 ≤ head.simulators) × (head.simulators ≤ MAX_SIMULATORS)

-- the lines from that of the rounds on, in their order, after those that say the rest of a room; `end` goes on with the room that all of
-- them say, but for its protocol, and with the protocol's text
abbrev pub rounds_in : {A : Type 0} → ((Protocol → RoomSpec) → List ℕ → Result A SpecFault) → Version → List ℕ → List ℕ → List ℕ → ℕ → List ℕ → Result A SpecFault
rounds_in end version name inputs own simulators text =
    number_line 5 (codes "rounds ") MAX_ROUNDS Rounds text
    >>= λ rounds. fitting (most_bits version) (simulators * length inputs * bits_of rounds.0)
    >>= λ bits. number_line 6 (codes "turns ") MAX_TURNS Turns rounds.1
    >>= λ turns. task_line version turns.1
    >>= λ task. fuse_lines (line_behind_task task.0) simulators task.1
    >>= λ fuses. end (λ protocol. record { version = version; name = name; inputs = inputs; own = own; simulators = simulators; rounds = rounds.0; turns = turns.0; task = task.0; fuses = fuses.0; protocol = protocol }) fuses.1

abbrev pub after_head : {A : Type 0} → ((Protocol → RoomSpec) → List ℕ → Result A SpecFault) → Head → List ℕ → Result A SpecFault
after_head end head text = rounds_in end head.version head.name head.inputs head.own head.simulators text

-- the lines before that; `next` goes on with what they say and with the lines after them
abbrev pub head_in : {A : Type 0} → (Head → List ℕ → Result A SpecFault) → List ℕ → Result A SpecFault
head_in next body =
    version_line body
    >>= λ version. name_line version.1
    >>= λ name. inputs_line name.1
    >>= λ inputs. number_line 4 (codes "simulators ") MAX_SIMULATORS Simulators inputs.1
    >>= λ simulators. next (record { version = version.0; name = name.0; inputs = inputs.0; own = []; simulators = simulators.0 }) simulators.1

-- The same of a reduction. Its inputs are those of the simulators, of which there are as many; then comes the number of processes.
abbrev pub reduction_head_in : {A : Type 0} → (Head → List ℕ → Result A SpecFault) → List ℕ → Result A SpecFault
reduction_head_in next body =
    reduction_line body
    >>= λ version. name_line version.1
    >>= λ name. own_line name.1
    >>= λ own. number_line 4 (codes "processes ") MAX_PROCESSES Processes own.1
    >>= λ processes. next (record { version = version.0; name = name.0; inputs = replicate processes.0 (slice_index own.0 0); own = own.0; simulators = length own.0 }) processes.1

-- all lines before the protocol's text
abbrev pub lines_in : {A : Type 0} → ((Protocol → RoomSpec) → List ℕ → Result A SpecFault) → List ℕ → Result A SpecFault
lines_in end body = head_in (after_head end) body

abbrev pub reduction_lines_in : {A : Type 0} → ((Protocol → RoomSpec) → List ℕ → Result A SpecFault) → List ℕ → Result A SpecFault
reduction_lines_in end body = reduction_head_in (after_head end) body

-- a head and the lines after it
unfoldable pub head_read : List ℕ → Result (Head × List ℕ) SpecFault
head_read body = head_in (λ head text. Ok (head, text)) body

unfoldable pub reduction_head_read : List ℕ → Result (Head × List ℕ) SpecFault
reduction_head_read body = reduction_head_in (λ head text. Ok (head, text)) body

abbrev pub with_protocol : (Protocol → RoomSpec) → List ℕ → Result RoomSpec SpecFault
with_protocol room text = protocol_of (reading text) >>= λ protocol. Ok (room protocol)

-- what the lines before the line `end` say
unfoldable pub room_in : List ℕ → Result RoomSpec SpecFault
room_in body = lines_in with_protocol body

-- the protocol's text, if no line before it has a fault
unfoldable pub protocol_text_in : List ℕ → Result (List ℕ) SpecFault
protocol_text_in body = lines_in (λ room text. Ok text) body

-- what the lines after a head say, and the protocol's text
unfoldable pub rounds_read : Head → List ℕ → Result RoomSpec SpecFault
rounds_read head text = after_head with_protocol head text

unfoldable pub rounds_text : Head → List ℕ → Result (List ℕ) SpecFault
rounds_text head text = after_head (λ room text. Ok text) head text

-- what a reduction's lines before the line `end` say, and its protocol's text
unfoldable pub reduction_in : List ℕ → Result RoomSpec SpecFault
reduction_in body = reduction_lines_in with_protocol body

unfoldable pub reduction_text_in : List ℕ → Result (List ℕ) SpecFault
reduction_text_in body = reduction_lines_in (λ room text. Ok text) body

-- what a block at the front of a text says and how many bytes it takes, or its first fault, by how many bytes are before its line
-- `end`; `read` reads these
abbrev pub before_end : (List ℕ → Result RoomSpec SpecFault) → List ℕ → Option ℕ → Result (RoomSpec × ℕ) SpecFault
before_end read text None = Err Truncated
before_end read text (Some body) = read (take body text) >>= λ room. Ok (room, min (body + 4) (length text))

abbrev pub room_before : List ℕ → Option ℕ → Result (RoomSpec × ℕ) SpecFault
room_before text body = before_end room_in text body

abbrev pub block_in : List ℕ → Result (RoomSpec × ℕ) SpecFault
block_in text = room_before text (body_len text)

abbrev pub reduction_block_in : List ℕ → Result (RoomSpec × ℕ) SpecFault
reduction_block_in text = before_end reduction_in text (body_len text)

-- an allocation for the protocol failed
abbrev pub out_of_memory : SpecFault
out_of_memory = BadProtocol OutOfMemory

-- Where memory may be refused to lines: none of those before the protocol's text has a fault, and in that text it is refused at a
-- token that has none, after others that have none. `text_in` finds that text.
pub record MayLackBy (text_in : List ℕ → Result (List ℕ) SpecFault) (body : List ℕ) : Type 0 where
  pub text : List ℕ
  pub head : text_in body ≡ Ok text
  pub lacks : MayLackMemory text

-- the same of the block at the front of a text
pub record MayLackAtBy (text_in : List ℕ → Result (List ℕ) SpecFault) (text : List ℕ) : Type 0 where
  pub body : ℕ
  pub ends : body_len text ≡ Some body
  pub lines : MayLackBy text_in (take body text)

abbrev pub MayLackIn : List ℕ → Type 0
MayLackIn body = MayLackBy protocol_text_in body

abbrev pub MayLackAt : List ℕ → Type 0
MayLackAt text = MayLackAtBy protocol_text_in text

-- what a function returned is this; or, if `lacks` holds, an allocation for the protocol failed
abbrev pub OrMemory : {A : Type 0} → Type 0 → Result A SpecFault → Result A SpecFault → Type 0
OrMemory lacks result wanted = (result ≡ wanted) ⊎ ((result ≡ Err out_of_memory) × lacks)

-- an allocation for the protocol failed of the block at the front of a text
abbrev pub LacksMemory : List ℕ → Type 0
LacksMemory text = OrMemory (MayLackAt text) (Err out_of_memory) (block_in text)

-- the same of what a function returned, seen by `view`
abbrev pub GivesOrMemory : {X Y : Type 0} → Type 0 → (X → Y) → Result X SpecFault → Result Y SpecFault → Type 0
GivesOrMemory lacks view (Ok x) wanted = wanted ≡ Ok (view x)
GivesOrMemory lacks view (Err fault) wanted = OrMemory lacks (Err fault) wanted

abbrev pub UnlessMemory : SpecFault → Type 0 → Type 0
UnlessMemory (BadProtocol OutOfMemory) fact = ⊤
UnlessMemory fault fact = fact
