-- What is said of all faults of a transcript's event lines.
use Rattle.std.specs.Prelude.{ℕ, Bool, false, List, [], ◌∷◌, ◌++◌, codes, drop, length, map, Some, Result, Ok, Err, ◌&&◌, ◌||◌, if◌then◌else◌}
use Rattle.std.specs.Result.{is_err}
use Rattle.room_spec.specs.Rooms.{RoomSpec}
use Rattle.room_files.specs.Blocks.{block_extent}
use Rattle.room_files.specs.Lines.{text_lines}
use Rattle.room_spec.specs.Texts.{first_line, later_lines}
use Rattle.transcript.specs.Faults.{sentence_of}
use Rattle.transcript.specs.Lines.{line_in}
use Rattle.transcript.specs.declared.event.Event.{Event}
use Rattle.transcript.specs.declared.fault.LineFault.{LineFault}
use Rattle.history_checker.specs.Verdicts.{has_room, no_room_sentence}
use Rattle.fault_text.specs.Blocks.{later_line}
use Rattle.fault_text.specs.Hints.{advice, hint}
use Rattle.fault_text.specs.Lines.{indented, indented_all}
use Rattle.fault_text.specs.Phrases.{fits_one, form_fault}
use Rattle.fault_text.specs.Places.{place_notes}
use Rattle.fault_text.specs.Refusals.{named_refusals}
use Rattle.fault_text.specs.Spots.{SpotParts, form_spot}
use Rattle.fault_text.specs.UnknownNames.{MetNames, is_met, met, more_note, near_room}
use Rattle.fault_text.specs.declared.refusals.RefusedBlock.{RefusedBlock}
use Rattle.fault_text.specs.declared.hints.TheConstants.{NO_EVENT}
use Rattle.fault_text.specs.declared.phrases.TheConstants.{EVENTS}
use Rattle.file_faults.specs.Json.{enough_in, fault_in, more_in}
use Rattle.file_faults.specs.Scripts.{block_in_front}
use Rattle.file_faults.specs.Walks.{Parts, said_from}
use Rattle.file_faults.specs.declared.events.TheConstants.{BLOCK_LINES, BLOCKS_BEFORE, EVENTS_ONLY, MORE_LINES, REPORT_LINES}
use Rattle.fault_text.specs.declared.refusals.TheConstants.{MOST_EXPLAINED}

-- What a transcript has before its event lines: its rooms, and the blocks of it that are refused.
pub record OpenedParts : Type 0 where
  pub rooms : List RoomSpec
  pub input : List ℕ
  pub refused : List RefusedBlock

-- no room has the name, which is said of the first line that has it, with a name that is near it, and that a block of this name is refused,
-- if one is
abbrev pub unknown_name_said : OpenedParts → MetNames → ℕ → List ℕ → List ℕ → List ℕ
unknown_name_said opened unknown_names number line name =
    if is_met name unknown_names then [] else indented_all (place_notes number no_room_sentence [] line) ++ (near_room opened.input name ++ named_refusals opened.input name opened.refused)

-- the line has the name of no room, unless a room has it
abbrev pub no_room_said : OpenedParts → MetNames → ℕ → List ℕ → List ℕ → List ℕ
no_room_said opened unknown_names number line name = if has_room name opened.rooms then [] else unknown_name_said opened unknown_names number line name

-- the line has this fault, and its place is elsewhere
abbrev pub misplaced_said : ℕ → List ℕ → LineFault → List ℕ → List ℕ
misplaced_said number line fault elsewhere = indented_all (place_notes number (sentence_of fault) [] line) ++ indented elsewhere

-- the line is no event line: it may be one of a block, or of a report, or else it should have one of the forms of event lines
abbrev pub bad_line_said : ℕ → List ℕ → LineFault → List ℕ
bad_line_said number line fault =
    if fits_one line (map (λ form. form.now) BLOCK_LINES) then misplaced_said number line fault BLOCKS_BEFORE.now
    else if fits_one line (map (λ form. form.now) REPORT_LINES) then misplaced_said number line fault EVENTS_ONLY.now
    else form_fault number (sentence_of fault) line (map (λ form. form.now) EVENTS) ++ hint (advice (map (λ entry. entry.now) NO_EVENT) line)

abbrev pub line_said : OpenedParts → MetNames → ℕ → List ℕ → Result (List ℕ × Event) LineFault → List ℕ
line_said opened unknown_names number line (Ok read) = no_room_said opened unknown_names number line read.0
line_said opened unknown_names number line (Err fault) = bad_line_said number line fault

-- the first line of a text
abbrev pub event_said : OpenedParts → MetNames → ℕ → List ℕ → List ℕ
event_said opened unknown_names number text = line_said opened unknown_names number (first_line text) (line_in (first_line text))

abbrev pub met_unless : Bool → List ℕ → MetNames → MetNames
met_unless there name unknown_names = if there then unknown_names else met name unknown_names

abbrev pub met_if : OpenedParts → MetNames → Result (List ℕ × Event) LineFault → MetNames
met_if opened unknown_names (Ok read) = met_unless (has_room read.0 opened.rooms) read.0 unknown_names
met_if opened unknown_names (Err fault) = unknown_names

-- the names of no room after it
abbrev pub unknown_names_after : OpenedParts → MetNames → List ℕ → MetNames
unknown_names_after opened unknown_names text = met_if opened unknown_names (line_in (first_line text))

-- a block among event lines is explained by its first line, which is no event line
abbrev pub begins_late_block : List ℕ → Bool
begins_late_block text = fits_one (first_line text) (codes "bgsim B" ∷ []) && is_err (line_in (first_line text))

abbrev pub next_event : ℕ → List ℕ → ℕ
next_event number text = if begins_late_block text then later_line number (length (text_lines (block_in_front text))) else later_line number 1

abbrev pub later_events : List ℕ → List ℕ
later_events text = if begins_late_block text then drop (block_extent (later_lines text)) (later_lines text) else later_lines text

-- the place of what is said of a line
abbrev pub bad_line_spot : ℕ → List ℕ → LineFault → SpotParts
bad_line_spot number line fault =
    if fits_one line (map (λ form. form.now) BLOCK_LINES) || fits_one line (map (λ form. form.now) REPORT_LINES) then record { line = number; place = Some 1; what = sentence_of fault }
    else form_spot number (sentence_of fault) line (map (λ form. form.now) EVENTS)

abbrev pub line_spot : ℕ → List ℕ → Result (List ℕ × Event) LineFault → SpotParts
line_spot number line (Ok read) = record { line = number; place = Some 1; what = no_room_sentence }
line_spot number line (Err fault) = bad_line_spot number line fault

abbrev pub event_spot : ℕ → List ℕ → SpotParts
event_spot number text = line_spot number (first_line text) (line_in (first_line text))

-- what is said of a line, as text or as JSON
abbrev pub event_in : Bool → OpenedParts → MetNames → ℕ → List ℕ → List ℕ
event_in json opened unknown_names number text = fault_in json false (event_spot number text) (event_said opened unknown_names number text)

abbrev pub event_lines : Bool → OpenedParts → Parts MetNames
event_lines json opened = record {
  said = event_in json opened;
  known = λ unknown_names number text. unknown_names_after opened unknown_names text;
  next = next_event;
  later = later_events;
  ends = λ unknown_names. more_in json (more_note MORE_LINES.now unknown_names);
  enough = enough_in json;
}

abbrev pub events_said : Bool → OpenedParts → ℕ → List ℕ → List ℕ
events_said json opened first transcript = said_from (event_lines json opened) (length transcript) MOST_EXPLAINED (record { names = []; more = 0 }) first transcript

abbrev pub event_faults : OpenedParts → ℕ → List ℕ → List ℕ
event_faults opened first transcript = events_said false opened first transcript
