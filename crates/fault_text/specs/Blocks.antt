-- What the fault of a block is about.
use Rattle.std.specs.Prelude.{ℕ, zero, suc, ◌+◌, ◌-◌, ◌==◌, ◌&&◌, ◌||◌, Bool, List, [], ◌∷◌, ◌++◌, map, min, take, drop, Option, Some, None, nat_eq, nat_le, codes, if◌then◌else◌}
use Rattle.std.specs.List.{count_by, starts_with}
use Rattle.std.specs.Str.{bytes_eq, str_eq_ignore_ascii_case}
use Rattle.protocol_lang.specs.Faults.{sentence_of as protocol_sentence}
use Rattle.protocol_lang.specs.FirstFaults.{place_of}
use Rattle.protocol_lang.specs.declared.fault.ParseFault.{ParseFault}
use Rattle.protocol_lang.specs.declared.fault.ParseFault.TheVariants.{BadToken, Unexpected, ViewInFirst}
use Rattle.room_spec.specs.Blocks.{is_protocol}
use Rattle.room_spec.specs.Texts.{first_line, is_line_end, later_lines}
use Rattle.room_spec.specs.declared.fault.SpecFault.{SpecFault}
use Rattle.room_spec.specs.declared.fault.SpecFault.TheVariants.{Truncated, BadLine, BadName, BadProtocol, Inputs, Simulators, Rounds, Turns, TooWide, CrashLine, Repeated, TaskLine, Processes}
use Rattle.room_files.specs.Faults.{block_sentence}
use Rattle.room_files.specs.Lines.{text_lines}
use Rattle.room_files.specs.declared.fault.BlockFault.{BlockFault}
use Rattle.room_files.specs.declared.fault.BlockFault.TheVariants as blocks
use Rattle.fault_text.specs.Choices.{choices_note, comparison_hint, last_rule_hint}
use Rattle.fault_text.specs.Hints.{advice, hint, letters_of, token_hints, unknown_hints}
use Rattle.fault_text.specs.Lines.{indented, indented_all, last_line, line_at}
use Rattle.fault_text.specs.Phrases.{fits_one, form_fault}
use Rattle.fault_text.specs.Places.{heading, place_notes}
use Rattle.fault_text.specs.declared.blocks.TheConstants.{END_MISSING, FIRST_WORDS, HEAD_LINES, LATER_LINES, NOT_END, REDUCTION_WIDTHS, WIDTHS}
use Rattle.fault_text.specs.declared.hints.TheConstants.{NO_BLOCK}
use Rattle.fault_text.specs.declared.phrases.TheConstants.{COMMANDS}

-- the number of a line that is this many after another; no input has as many lines as numbers can count
abbrev pub later_line : ℕ → ℕ → ℕ
later_line first count = min (first + count) 18446744073709551615

-- ---- lines

abbrev pub is_second : List ℕ → Bool
is_second line = bytes_eq line (codes "bgsim 2")

-- it is a block of a reduction: its first line begins as such a block's does
abbrev pub is_reduction : List ℕ → Bool
is_reduction text = starts_with nat_eq (line_at 1 text) (codes "reduction")

-- version 2 and reductions have a task, in line 7
abbrev pub may_have_task : List ℕ → Bool
may_have_task text = is_second (line_at 1 text) || is_reduction text

-- the form of the line of this number, up to 6, in an ordinary room's block
abbrev pub room_form : ℕ → List ℕ
room_form line =
    if line == 1 then codes "bgsim B"
    else if line == 2 then codes "room N"
    else if line == 3 then codes "inputs VW"
    else if line == 4 then codes "simulators M"
    else if line == 5 then codes "rounds S"
    else codes "turns T"

-- the same in a reduction's
abbrev pub reduction_form : ℕ → List ℕ
reduction_form line =
    if line == 1 then codes "reduction 1"
    else if line == 3 then codes "inputs VO"
    else if line == 4 then codes "processes Q"
    else room_form line

-- the same in a block with which this text begins
abbrev pub first_form : List ℕ → ℕ → List ℕ
first_form text line = if is_reduction text then reduction_form line else room_form line

-- the forms of one from 7 on, in a block with which this text begins
abbrev pub later_forms : List ℕ → ℕ → List (List ℕ)
later_forms text line =
    if (line == 7) && may_have_task text then map (λ form. form.now) LATER_LINES else drop 1 (map (λ form. form.now) LATER_LINES)

abbrev pub forms_at : List ℕ → ℕ → List (List ℕ)
forms_at text line = if nat_le line 6 then first_form text line ∷ [] else later_forms text line

-- the line that has the fault
abbrev pub line_of : SpecFault → ℕ
line_of Truncated = 1
line_of (BadLine line) = line
line_of BadName = 2
line_of (BadProtocol fault) = 1
line_of Inputs = 3
line_of Simulators = 4
line_of Rounds = 5
line_of Turns = 6
line_of TooWide = 5
line_of (CrashLine line) = line
line_of (Repeated line) = line
line_of (TaskLine line) = line
line_of Processes = 4

-- where the line belongs that hasn't its form, or with which a block begins that doesn't end, if it looks like another line
abbrev pub other_kind : BlockFault → List ℕ → List ℕ
other_kind (blocks.Spec Truncated) line = hint (advice (map (λ entry. entry.now) NO_BLOCK) line)
other_kind (blocks.Spec (BadLine number)) line = hint (advice (map (λ entry. entry.now) NO_BLOCK) line)
other_kind fault line = []

-- the sentence of the fault about the block's line
abbrev pub line_fault : ℕ → List ℕ → ℕ → BlockFault → List ℕ
line_fault first text line fault = form_fault (later_line first (line - 1)) (block_sentence fault) (line_at line text) (forms_at text line) ++ other_kind fault (line_at line text)

-- ---- protocols

abbrev pub line_ends : List ℕ → ℕ
line_ends text = count_by is_line_end text

-- how many lines there are up to the first line `protocol` of the first `most` lines, after those that were passed; and what comes after it
unfoldable pub program_from : ℕ → ℕ → List ℕ → ℕ × List ℕ
program_from zero passed text = (passed, [])
program_from (suc most) passed text = if is_protocol (first_line text) then (passed + 1, later_lines text) else program_from most (passed + 1) (later_lines text)

-- if a token can't be there, or there is none, those that could
abbrev pub choices_if : List ℕ → ParseFault → List ℕ
choices_if before (Unexpected place) = indented (choices_note before)
choices_if before (BadToken place) = indented (choices_note before)
choices_if before fault = []

-- what may help with a text that has these bytes before the place of its fault, these from one before it on, and these from there on
abbrev pub token_fault_hints : List ℕ → List ℕ → List ℕ → ParseFault → List ℕ
token_fault_hints before around back (BadToken place) = token_hints around back ++ (last_rule_hint before ++ unknown_hints back)
token_fault_hints before around back (Unexpected place) = token_hints around back ++ (last_rule_hint before ++ comparison_hint before)
token_fault_hints before around back (ViewInFirst place) = indented FIRST_WORDS.now
token_fault_hints before around back fault = []

-- the sentence about a place of a protocol's text, which has these bytes before it and after it; before the text there are this many lines of
-- the block
abbrev pub program_place : ℕ → ℕ → List ℕ → List ℕ → List ℕ → List ℕ
program_place first lines sentence before behind = indented_all (place_notes (later_line first (lines + line_ends before)) sentence (last_line before) (first_line behind))

-- what is said of the fault of a protocol's text, before which there are this many lines of the block
abbrev pub fault_in : ℕ → ℕ × List ℕ → ParseFault → Option ℕ → List ℕ
fault_in first program fault None = indented (heading (later_line first program.0) (protocol_sentence fault))
fault_in first program fault (Some place) =
    program_place first program.0 (protocol_sentence fault) (take place program.1) (drop place program.1)
    ++ (choices_if (take place program.1) fault ++ token_fault_hints (take place program.1) (drop (place - 1) program.1) (first_line (drop place program.1)) fault)

-- how many lines a block has up to its line `protocol`, and what comes after that line
abbrev pub program_of : List ℕ → ℕ × List ℕ
program_of text = program_from HEAD_LINES 0 text

abbrev pub program_fault : ℕ → List ℕ → ParseFault → List ℕ
program_fault first text fault = fault_in first (program_of text) fault (place_of fault)

-- ---- blocks

-- what takes how many bits of the step numbers
abbrev pub widths : List ℕ → List ℕ
widths text = if is_reduction text then REDUCTION_WIDTHS.now else WIDTHS.now

-- the number of the line that says how many simulators there are; in a reduction each has an input
abbrev pub simulators_line : List ℕ → ℕ
simulators_line text = if is_reduction text then 3 else 4

-- which simulators the room has, by the line that says how many they are
abbrev pub crash_note : List ℕ → List ℕ
crash_note simulators = indented (codes "the room has `" ++ (simulators ++ codes "`, which are counted from 0"))

-- the first word of the line is `end` in small or capital letters
abbrev pub is_like_end : List ℕ → Bool
is_like_end line = str_eq_ignore_ascii_case (take (letters_of line) line) (codes "end")

-- the line may be meant as a block's last, or is one of a script or a transcript that can't be in a block
abbrev pub is_end_place : List ℕ → Bool
is_end_place line = is_like_end line || (bytes_eq line (codes "events") || fits_one line (map (λ form. form.now) COMMANDS))

-- the first such line, with its number, if the first of these lines has this number
unfoldable pub end_place : ℕ → List (List ℕ) → Option (ℕ × List ℕ)
end_place number [] = None
end_place number (line ∷ lines) = if is_end_place line then Some (number, line) else end_place (later_line number 1) lines

abbrev pub end_note : ℕ → List ℕ → List ℕ
end_note number line = if is_like_end line then indented_all (place_notes number NOT_END.now [] line) else indented_all (place_notes number END_MISSING.now [] line)

abbrev pub end_note_if : Option (ℕ × List ℕ) → List ℕ
end_note_if None = []
end_note_if (Some place) = end_note place.0 place.1

-- which line of a text may be meant as the last of the block with which it begins, or comes after it; the block has no line `end`
abbrev pub end_notes : ℕ → List ℕ → List ℕ
end_notes first text = if fits_one (first_line text) (first_form text 1 ∷ []) then end_note_if (end_place (later_line first 1) (text_lines (later_lines text))) else []

-- besides what is said of the fault's line: how many bits step numbers take, which simulators there are, which line may be meant as the last
abbrev pub block_notes : ℕ → List ℕ → SpecFault → List ℕ
block_notes first text TooWide = indented (widths text)
block_notes first text (CrashLine line) = crash_note (line_at (simulators_line text) text)
block_notes first text Truncated = end_notes first text
block_notes first text fault = []

-- what is said of a fault that is not one of the protocol's text
abbrev pub head_fault : ℕ → List ℕ → SpecFault → List ℕ
head_fault first text fault = line_fault first text (line_of fault) (blocks.Spec fault) ++ block_notes first text fault

-- what is said of a block's fault, with which this text begins; its first line has this number in the input
abbrev pub block_fault : ℕ → List ℕ → SpecFault → List ℕ
block_fault first text (BadProtocol fault) = program_fault first text fault
block_fault first text fault = head_fault first text fault
