-- What is warned of in a room that is valid.
use Rattle.std.specs.Prelude.{ℕ, ◌+◌, ◌-◌, ◌*◌, ◌==◌, ◌&&◌, Bool, not, List, [], ◌∷◌, ◌++◌, length, take, nat_lt, codes, if◌then◌else◌}
use Rattle.room_spec.specs.Rooms.{RoomSpec, is_reduction, processes}
use Rattle.room_spec.specs.Texts.{first_line}
use Rattle.fault_text.specs.Blocks.{later_line, line_ends, program_of}
use Rattle.fault_text.specs.Lines.{last_line, line_at}
use Rattle.room_warnings.specs.Calls.{calls_none}
use Rattle.room_warnings.specs.Json.{warning_in}
use Rattle.room_warnings.specs.Rules.{holds_always}
use Rattle.room_warnings.specs.Words.{has_word}
use Rattle.room_warnings.specs.declared.warnings.TheConstants.{ALWAYS, NO_DECISION, NO_PROCESS, ONE_PROCESS, TOO_FEW, TOO_FEW_SHARED, TOO_FEW_SHARED_UNDECIDED, TOO_FEW_UNDECIDED}

-- ---- inputs

-- each value of the line `inputs` is the input of a process of its own, so one value says that there is one process; a reduction has a line that says it
abbrev pub inputs_warning : Bool → ℕ → List ℕ → RoomSpec → List ℕ
inputs_warning json first block spec = if (processes spec == 1) && not (is_reduction spec) then warning_in json (later_line first 2) ONE_PROCESS.now [] (line_at 3 block) else []

-- ---- turns

-- how many turns a simulator that runs alone takes for a process before its first write: in a reduction one, to agree on its input
abbrev pub turns_before : RoomSpec → ℕ
turns_before spec = if is_reduction spec then 1 else 0

-- the sentence for an ordinary room, or that for a reduction
abbrev pub too_few : RoomSpec → List ℕ → List ℕ → List ℕ
too_few spec ordinary shared = if is_reduction spec then shared else ordinary

-- A turn takes one process through at most one round. So a simulator that runs alone needs a turn for each process, and, if no process decides,
-- for each round of each. Several simulators may finish with fewer turns each.
abbrev pub turns_sentence : Bool → RoomSpec → List ℕ
turns_sentence decides spec =
    if nat_lt spec.turns (processes spec * (1 + turns_before spec)) then too_few spec TOO_FEW.now TOO_FEW_SHARED.now
    else if not decides && nat_lt spec.turns (processes spec * (spec.rounds + turns_before spec)) then too_few spec TOO_FEW_UNDECIDED.now TOO_FEW_SHARED_UNDECIDED.now
    else []

abbrev pub turns_warning : Bool → ℕ → List ℕ → List ℕ → List ℕ
turns_warning json first block sentence = if length sentence == 0 then [] else warning_in json (later_line first 5) sentence [] (line_at 6 block)

-- ---- numbers

-- of a room whose protocol has `decide` or not
unfoldable pub number_warnings : Bool → ℕ → List ℕ → Bool → RoomSpec → List ℕ
number_warnings json first block decides spec = inputs_warning json first block spec ++ turns_warning json first block (turns_sentence decides spec)

-- ---- protocols

abbrev pub decide_warning : Bool → ℕ → ℕ → Bool → List ℕ
decide_warning json first lines decides = if decides then [] else warning_in json (later_line first (lines - 1)) NO_DECISION.now [] (codes "protocol")

-- at the place where a protocol's text has these bytes
abbrev pub place_sentence : ℕ → List ℕ → List ℕ
place_sentence n rest = if calls_none n rest then NO_PROCESS.now else if holds_always rest then ALWAYS.now else []

-- a place of a protocol's text, which has these bytes before it and after it; before the text there are this many lines of the block
abbrev pub program_warning : Bool → ℕ → ℕ → List ℕ → List ℕ → List ℕ → List ℕ
program_warning json first lines sentence before behind = warning_in json (later_line first (lines + line_ends before)) sentence (last_line before) (first_line behind)

abbrev pub sentence_if : Bool → ℕ → ℕ → List ℕ → List ℕ → List ℕ → List ℕ
sentence_if json first lines program rest sentence = if length sentence == 0 then [] else program_warning json first lines sentence (take (length program - length rest) program) rest

abbrev pub at_place : Bool → ℕ → ℕ → ℕ → List ℕ → List ℕ → List ℕ
at_place json n first lines program rest = sentence_if json first lines program rest (place_sentence n rest)

-- from that place on
unfoldable pub from_place : Bool → ℕ → ℕ → ℕ → List ℕ → List ℕ → List ℕ
from_place json n first lines program [] = []
from_place json n first lines program (byte ∷ rest) = at_place json n first lines program (byte ∷ rest) ++ from_place json n first lines program rest

-- ---- rooms

abbrev pub warnings_in : Bool → ℕ → List ℕ → RoomSpec → ℕ → List ℕ → List ℕ
warnings_in json first block spec lines program =
    number_warnings json first block (has_word (codes "decide") program) spec
    ++ (decide_warning json first lines (has_word (codes "decide") program) ++ from_place json (processes spec) first lines program program)

-- what is warned of in the room of this block, whose first line has this number, as text or as JSON
abbrev pub room_warnings : Bool → ℕ → List ℕ → RoomSpec → List ℕ
room_warnings json first block spec = warnings_in json first block spec (program_of block).0 (program_of block).1
