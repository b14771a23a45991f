-- The grammar of room blocks, apart from how they are read.
use Rattle.std.specs.Prelude.{◌≡◌, ◌≢◌, ℕ, suc, All, ◌+◌, ◌*◌, ◌≤◌, ◌<◌, Bool, true, false, not, ◌&&◌, if◌then◌else◌, ◌⊎◌, List, [], ◌∷◌, ◌++◌, length, take, map, Option, Some, None, IfSome, Result, Err, ⊤, codes}
use Rattle.std.specs.List.{after_first, flat_map, join_with_byte, list_all}
use Rattle.std.specs.Fmt.{decimal}
use Rattle.protocol_lang.specs.Numbers.{number_of}
use Rattle.protocol_lang.specs.Reading.{reading}
use Rattle.protocol_lang.specs.Grammar.{IsText}
use Rattle.protocol_lang.specs.FirstFaults as texts
use Rattle.protocol_lang.specs.declared.fault.ParseFault.{ParseFault}
use Rattle.room_spec.specs.Names.{is_name}
use Rattle.room_spec.specs.Rooms.{RoomSpec, AreFuses, AreOwn, IsTaskIn, IsWithinLimits, bits_of, is_reduction, is_value, most_bits, processes}
use Rattle.room_spec.specs.Texts.{is_line_end, lines_of, fields_of}
use Rattle.room_spec.specs.Blocks.{is_end, is_protocol, numbers_of, are_inputs, are_values, block_in, reduction_block_in}
use Rattle.room_spec.specs.declared.fault.SpecFault.{SpecFault}
use Rattle.room_spec.specs.declared.fault.SpecFault.TheVariants.{Truncated, BadLine, BadName, BadProtocol, Inputs, Simulators, Rounds, Turns, TooWide, CrashLine, Repeated, TaskLine, Processes}
use Rattle.room_spec.specs.declared.version.Version.{Version}
use Rattle.room_spec.specs.declared.version.Version.TheVariants.{One, Two}
use Rattle.protocol_lang.specs.declared.meaning.TheConstants.{MAX_PROCESSES}
use Rattle.room_spec.specs.declared.spec.TheConstants.{MAX_AGREED, MAX_ROUNDS, MAX_SIMULATORS, MAX_TURNS}

-- ---- lines

abbrev pub line_end : List ℕ
line_end = 10 ∷ []

-- no byte is a line end
abbrev pub is_line : List ℕ → Bool
is_line line = list_all (λ byte. not (is_line_end byte)) line

-- each of the lines with its line end
abbrev pub text_of : List (List ℕ) → List ℕ
text_of lines = flat_map (λ line. line ++ line_end) lines

-- the input begins with these bytes and a line end, or has these bytes alone; they take its first `len` bytes
abbrev pub IsInFront : List ℕ → List ℕ → ℕ → Type 0
IsInFront bytes input len = ((len ≡ length bytes + 1) × (take len input ≡ bytes ++ line_end)) ⊎ ((len ≡ length bytes) × (input ≡ bytes))

-- ---- where a block ends

-- lines that can come before the line `end`
abbrev pub are_before_end : List (List ℕ) → Bool
are_before_end lines = list_all (λ line. is_line line && not (is_end line)) lines

-- the first `len` bytes of the input are its lines up to and with the first that is `end`
pub record EndsAt (input : List ℕ) (len : ℕ) : Type 0 where
  pub lines : List (List ℕ)
  pub no_end : are_before_end lines ≡ true
  pub bytes : IsInFront (text_of lines ++ codes "end") input len

-- ---- blocks

-- the line of a version
abbrev pub version_text : Version → List ℕ
version_text One = codes "bgsim 1"
version_text Two = codes "bgsim 2"

-- the line of a task, by how many different values it allows
abbrev pub agree_line : ℕ → List ℕ
agree_line most = codes "task agree " ++ decimal most

-- the line of a room's task, if it has one
abbrev pub task_lines : Option ℕ → List (List ℕ)
task_lines None = []
task_lines (Some most) = agree_line most ∷ []

-- the line of a fuse
abbrev pub crash_line : ℕ × ℕ → List ℕ
crash_line fuse = codes "crash " ++ (decimal fuse.0 ++ (codes " after " ++ decimal fuse.1))

-- the line of inputs
abbrev pub values_line : List ℕ → List ℕ
values_line inputs = join_with_byte 32 (codes "inputs" ∷ map decimal inputs)

-- the lines from that of the rounds on, before the protocol's text
abbrev pub lines_from_rounds : RoomSpec → List (List ℕ)
lines_from_rounds room =
    (codes "rounds " ++ decimal room.rounds)
    ∷ (codes "turns " ++ decimal room.turns)
    ∷ (task_lines room.task ++ (map crash_line room.fuses ++ codes "protocol" ∷ []))

-- the lines before the protocol's text
abbrev pub head_lines : RoomSpec → List (List ℕ)
head_lines room =
    version_text room.version
    ∷ (codes "room " ++ room.name)
    ∷ values_line room.inputs
    ∷ (codes "simulators " ++ decimal room.simulators)
    ∷ lines_from_rounds room

-- the same of a reduction: the inputs of its simulators, one each, and the number of processes
abbrev pub reduction_lines : RoomSpec → List (List ℕ)
reduction_lines room =
    codes "reduction 1"
    ∷ (codes "room " ++ room.name)
    ∷ values_line room.own
    ∷ (codes "processes " ++ decimal (processes room))
    ∷ lines_from_rounds room

-- the block's bytes, where its protocol has this text
abbrev pub block_text : RoomSpec → List ℕ → List ℕ
block_text room text = text_of (head_lines room) ++ (text ++ codes "end")

abbrev pub reduction_text : RoomSpec → List ℕ → List ℕ
reduction_text room text = text_of (reduction_lines room) ++ (text ++ codes "end")

-- the first `len` bytes of the input are a block that says this room; the protocol's text is whole lines, of which none is `end`
pub record IsBlock (input : List ℕ) (room : RoomSpec) (len : ℕ) : Type 0 where
  pub limits : IsWithinLimits room
  pub ordinary : room.own ≡ []
  pub fuses : list_all (λ fuse. is_value fuse.1) room.fuses ≡ true
  pub lines : List (List ℕ)
  pub no_end : are_before_end lines ≡ true
  pub protocol : IsText (text_of lines) room.protocol
  pub bytes : IsInFront (block_text room (text_of lines)) input len

-- the same of a reduction
pub record IsReductionBlock (input : List ℕ) (room : RoomSpec) (len : ℕ) : Type 0 where
  pub limits : IsWithinLimits room
  pub reduction : is_reduction room ≡ true
  pub fuses : list_all (λ fuse. is_value fuse.1) room.fuses ≡ true
  pub lines : List (List ℕ)
  pub no_end : are_before_end lines ≡ true
  pub protocol : IsText (text_of lines) room.protocol
  pub bytes : IsInFront (reduction_text room (text_of lines)) input len

-- ---- faults

-- the number of the line that has the fault; none if it is of the whole block or of the protocol's text
abbrev pub line_of : SpecFault → Option ℕ
line_of Truncated = None
line_of (BadLine line) = Some line
line_of BadName = Some 2
line_of (BadProtocol fault) = None
line_of Inputs = Some 3
line_of Simulators = Some 4
line_of Rounds = Some 5
line_of Turns = Some 6
line_of TooWide = Some 5
line_of (CrashLine line) = Some line
line_of (Repeated line) = Some line
line_of (TaskLine line) = Some line
line_of Processes = Some 4

-- each other text with a line `end` and with the same lines up to the one that has the fault has it too, as `block` reads texts
abbrev pub IsLocalTo : (List ℕ → Result (RoomSpec × ℕ) SpecFault) → List ℕ → SpecFault → Type 0
IsLocalTo block text fault =
    IfSome (line_of fault) (λ line. (other : List ℕ) (len : ℕ) → EndsAt other len → take line (lines_of other) ≡ take line (lines_of text) → block other ≡ Err fault)

abbrev pub IsLocal : List ℕ → SpecFault → Type 0
IsLocal text fault = IsLocalTo block_in text fault

abbrev pub IsReductionLocal : List ℕ → SpecFault → Type 0
IsReductionLocal text fault = IsLocalTo reduction_block_in text fault

-- the lines after the first line `protocol`
abbrev pub behind_protocol : List (List ℕ) → List (List ℕ)
behind_protocol lines = after_first is_protocol lines

-- a fault of no one line: there is no line `end`, or the text after the line `protocol` has the protocol's fault
abbrev pub IsOfText : List ℕ → SpecFault → Type 0
IsOfText text Truncated = All (λ line. line ≢ codes "end") (lines_of text)
IsOfText text (BadProtocol fault) = (len : ℕ) × (at : EndsAt text len) × (reading (text_of (behind_protocol at.lines)) ≡ Err fault)
IsOfText text fault = ⊤

-- ---- why a line is the first fault

-- the limits of what a room's head says, but for the width of its step numbers
pub record IsHead (room : RoomSpec) : Type 0 where
  pub name : is_name room.name ≡ true
  pub inputs : are_inputs room.inputs ≡ true
  pub simulators : (1 ≤ room.simulators) × (room.simulators ≤ MAX_SIMULATORS)
  pub rounds : (1 ≤ room.rounds) × (room.rounds ≤ MAX_ROUNDS)
  pub turns : (1 ≤ room.turns) × (room.turns ≤ MAX_TURNS)
  pub task : IsTaskIn room.version room.task
  pub fuses : AreFuses room.fuses room.simulators
  pub values : list_all (λ fuse. is_value fuse.1) room.fuses ≡ true
  pub own : AreOwn room.own room.version room.inputs room.simulators

-- the lines before the protocol's text, by whether the room is a reduction
abbrev pub lines_before_text : Bool → RoomSpec → List (List ℕ)
lines_before_text false room = head_lines room
lines_before_text true room = reduction_lines room

-- how many bits the step numbers of all simulators take, by the number of rounds
abbrev pub width_of : RoomSpec → ℕ → ℕ
width_of room rounds = room.simulators * processes room * bits_of rounds

-- The lines begin the head of a room of this kind. Its step numbers fit, unless these are at most four lines, the line of the
-- rounds being the fifth: in version 1 16 inputs and 8 simulators are valid lines that no rounds can follow.
pub record Begin (reduction : Bool) (lines : List (List ℕ)) : Type 0 where
  pub room : RoomSpec
  pub head : IsHead room
  pub kind : is_reduction room ≡ reduction
  pub fits : 5 ≤ length lines → width_of room room.rounds ≤ most_bits room.version
  pub more : List (List ℕ)
  pub parts : lines_before_text reduction room ≡ lines ++ more

-- the line is this word and a numeral of this number
abbrev pub IsNumberLine : List ℕ → List ℕ → ℕ → Type 0
IsNumberLine word line number = (numeral : List ℕ) × (line ≡ word ++ numeral) × (number_of numeral ≡ Some number)

-- between the line's spaces are the word `inputs` and numerals of these numbers
abbrev pub IsInputsLine : List ℕ → List ℕ → Type 0
IsInputsLine line numbers = (numerals : List (List ℕ)) × (fields_of line ≡ codes "inputs" ∷ numerals) × (numbers_of numerals ≡ Some numbers)

abbrev pub BeginsWith : List ℕ → List ℕ → Type 0
BeginsWith word line = (rest : List ℕ) × (line ≡ word ++ rest)

abbrev pub IsCrashOrProtocol : List ℕ → Type 0
IsCrashOrProtocol line = BeginsWith (codes "crash ") line ⊎ (line ≡ codes "protocol")

-- the line has the form of the line after these in the block of an ordinary room, whatever name or numbers it has
abbrev pub HasOrdinaryForm : List (List ℕ) → List ℕ → Type 0
HasOrdinaryForm [] line = (line ≡ codes "bgsim 1") ⊎ (line ≡ codes "bgsim 2")
HasOrdinaryForm (version ∷ []) line = BeginsWith (codes "room ") line
HasOrdinaryForm (version ∷ name ∷ []) line = (numbers : List ℕ) × IsInputsLine line numbers
HasOrdinaryForm (version ∷ name ∷ inputs ∷ []) line = (number : ℕ) × IsNumberLine (codes "simulators ") line number
HasOrdinaryForm (version ∷ name ∷ inputs ∷ simulators ∷ []) line = (number : ℕ) × IsNumberLine (codes "rounds ") line number
HasOrdinaryForm (version ∷ name ∷ inputs ∷ simulators ∷ rounds ∷ []) line = (number : ℕ) × IsNumberLine (codes "turns ") line number
HasOrdinaryForm (version ∷ name ∷ inputs ∷ simulators ∷ rounds ∷ turns ∷ []) line = ((version ≡ codes "bgsim 2") × BeginsWith (codes "task ") line) ⊎ IsCrashOrProtocol line
HasOrdinaryForm (version ∷ name ∷ inputs ∷ simulators ∷ rounds ∷ turns ∷ next ∷ crashes) line = IsCrashOrProtocol line

-- the same in the block of a reduction
abbrev pub HasReductionForm : List (List ℕ) → List ℕ → Type 0
HasReductionForm [] line = line ≡ codes "reduction 1"
HasReductionForm (first ∷ []) line = BeginsWith (codes "room ") line
HasReductionForm (first ∷ name ∷ []) line = (numbers : List ℕ) × IsInputsLine line numbers
HasReductionForm (first ∷ name ∷ own ∷ []) line = (number : ℕ) × IsNumberLine (codes "processes ") line number
HasReductionForm (first ∷ name ∷ own ∷ processes ∷ []) line = (number : ℕ) × IsNumberLine (codes "rounds ") line number
HasReductionForm (first ∷ name ∷ own ∷ processes ∷ rounds ∷ []) line = (number : ℕ) × IsNumberLine (codes "turns ") line number
HasReductionForm (first ∷ name ∷ own ∷ processes ∷ rounds ∷ turns ∷ []) line = BeginsWith (codes "task ") line ⊎ IsCrashOrProtocol line
HasReductionForm (first ∷ name ∷ own ∷ processes ∷ rounds ∷ turns ∷ next ∷ crashes) line = IsCrashOrProtocol line

abbrev pub HasForm : Bool → List (List ℕ) → List ℕ → Type 0
HasForm false before line = HasOrdinaryForm before line
HasForm true before line = HasReductionForm before line

-- the line is this word and a numeral whose number isn't from 1 to `most`
abbrev pub IsOutOfRange : List ℕ → ℕ → List ℕ → Type 0
IsOutOfRange word most line = (number : ℕ) × IsNumberLine word line number × ((number < 1) ⊎ (most < number))

-- the line before that of the rounds has a number of simulators that isn't 1 to 8, or in a reduction one of processes that isn't 1 to 16
abbrev pub IsBadCount : Bool → SpecFault → List ℕ → Type 0
IsBadCount false Simulators line = IsOutOfRange (codes "simulators ") MAX_SIMULATORS line
IsBadCount true Processes line = IsOutOfRange (codes "processes ") MAX_PROCESSES line
IsBadCount reduction fault line = ⊥

-- how many inputs the line of inputs may have: one of each process, or in a reduction of each simulator
abbrev pub most_inputs : Bool → ℕ
most_inputs reduction = if reduction then MAX_SIMULATORS else MAX_PROCESSES

-- with the number of rounds that the line says the step numbers of the room need more bits than its version allows
abbrev pub IsTooWide : RoomSpec → List ℕ → Type 0
IsTooWide room line = (rounds : ℕ) × (line ≡ codes "rounds " ++ decimal rounds) × (1 ≤ rounds) × (rounds ≤ MAX_ROUNDS) × (most_bits room.version < width_of room rounds)

-- the line is that of a fuse of one of the room's simulators
abbrev pub IsFuseLine : RoomSpec → List ℕ → ℕ × ℕ → Type 0
IsFuseLine room line fuse = (line ≡ crash_line fuse) × (fuse.0 < room.simulators) × (is_value fuse.1 ≡ true)

-- the line is that of a task
abbrev pub IsTaskLine : List ℕ → ℕ → Type 0
IsTaskLine line most = (line ≡ agree_line most) × (1 ≤ most) × (most ≤ MAX_AGREED)

-- one of the lines is a crash of this simulator
abbrev pub HasCrashOf : List (List ℕ) → ℕ → Type 0
HasCrashOf lines simulator = (front : List (List ℕ)) × (steps : ℕ) × (rest : List (List ℕ)) × (lines ≡ front ++ crash_line (simulator, steps) ∷ rest)

-- what the fault says of the line after these, which begin the head of this room
abbrev pub IsReason : Bool → SpecFault → RoomSpec → List (List ℕ) → List ℕ → Type 0
IsReason reduction Truncated room before line = ⊥
IsReason reduction (BadLine number) room before line = HasForm reduction before line → ⊥
IsReason reduction BadName room before line = (name : List ℕ) × (line ≡ codes "room " ++ name) × (is_name name ≡ false)
IsReason reduction (BadProtocol fault) room before line = ⊥
IsReason reduction Inputs room before line = (numbers : List ℕ) × IsInputsLine line numbers × (are_values (most_inputs reduction) numbers ≡ false)
IsReason reduction Simulators room before line = IsBadCount reduction Simulators line
IsReason reduction Processes room before line = IsBadCount reduction Processes line
IsReason reduction Rounds room before line = IsOutOfRange (codes "rounds ") MAX_ROUNDS line
IsReason reduction Turns room before line = IsOutOfRange (codes "turns ") MAX_TURNS line
IsReason reduction TooWide room before line = IsTooWide room line
IsReason reduction (CrashLine number) room before line = BeginsWith (codes "crash ") line × ((fuse : ℕ × ℕ) → IsFuseLine room line fuse → ⊥)
IsReason reduction (Repeated number) room before line = (fuse : ℕ × ℕ) × IsFuseLine room line fuse × HasCrashOf before fuse.0
IsReason reduction (TaskLine number) room before line = (room.version ≡ Two) × BeginsWith (codes "task ") line × ((most : ℕ) → IsTaskLine line most → ⊥)

-- Of the block's lines, up to and with `end`, those before this one begin the head of a room of this kind and aren't all of it.
-- This one is the next line of no such head, for the fault's reason; the fault has its number.
pub record IsOutOfPlace (reduction : Bool) (text : List ℕ) (fault : SpecFault) : Type 0 where
  pub len : ℕ
  pub ends : EndsAt text len
  pub before : List (List ℕ)
  pub line : List ℕ
  pub more : List (List ℕ)
  pub lines : ends.lines ++ codes "end" ∷ [] ≡ before ++ line ∷ more
  pub number : line_of fault ≡ Some (suc (length before))
  pub begins : Begin reduction before
  pub within : begins.more ≢ []
  pub never : Begin reduction (before ++ line ∷ []) → ⊥
  pub reason : IsReason reduction fault begins.room before line

-- The block's lines are all of such a room's head and the lines of a text that has this first fault of a protocol.
pub record IsBadProtocol (reduction : Bool) (text : List ℕ) (fault : ParseFault) : Type 0 where
  pub len : ℕ
  pub ends : EndsAt text len
  pub room : RoomSpec
  pub head : IsHead room
  pub kind : is_reduction room ≡ reduction
  pub fits : width_of room room.rounds ≤ most_bits room.version
  pub more : List (List ℕ)
  pub lines : ends.lines ≡ lines_before_text reduction room ++ more
  pub first : texts.IsFirstFault (text_of more) fault

-- Why the block is refused: no line is `end`, or the first line that can't follow those before it, or the protocol's text.
abbrev pub IsFirstFaultOf : Bool → List ℕ → SpecFault → Type 0
IsFirstFaultOf reduction text Truncated = All (λ line. line ≢ codes "end") (lines_of text)
IsFirstFaultOf reduction text (BadProtocol fault) = IsBadProtocol reduction text fault
IsFirstFaultOf reduction text fault = IsOutOfPlace reduction text fault

abbrev pub IsFirstFault : List ℕ → SpecFault → Type 0
IsFirstFault text fault = IsFirstFaultOf false text fault

abbrev pub IsReductionFirstFault : List ℕ → SpecFault → Type 0
IsReductionFirstFault text fault = IsFirstFaultOf true text fault
