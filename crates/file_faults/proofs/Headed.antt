-- What is said of a fault begins with what its object says.
use Rattle.std.proofs.Common.{ℕ, ◌||◌, Bool, true, false, cond, List, [], ◌++◌, map, Option, Some, None, refl}
use Rattle.std.specs.Prelude.{Result, Ok, Err, ◌&&◌, is_some}
use Rattle.std.specs.Result.{is_err}
use Rattle.room_files.specs.Kinds.{block_of}
use Rattle.room_files.specs.declared.kinds.Kinds.TheVariants.{All}
use Rattle.room_spec.specs.Rooms.{RoomSpec}
use Rattle.room_spec.specs.Texts.{first_line, later_lines}
use Rattle.room_spec.specs.declared.fault.SpecFault.{SpecFault}
use Rattle.room_files.specs.Blocks.{fault_text, why_text}
use Rattle.room_files.specs.Faults.{text_sentence}
use Rattle.room_files.specs.declared.fault.BlockFault.TheVariants as blocks
use Rattle.room_files.specs.declared.fault.TextFault.{TextFault}
use Rattle.room_files.specs.declared.fault.TextFault.TheVariants.{NoCommand}
use Rattle.history_checker.specs.Verdicts.{has_room, no_room_sentence}
use Rattle.service_core.specs.Replies.{name_in, refusal_sentence}
use Rattle.service_core.specs.declared.command.Command.{Command}
use Rattle.service_core.specs.declared.reply.Refusal.{Refusal}
use Rattle.service_core.specs.declared.reply.Refusal.TheVariants as refusals
use Rattle.script_play.specs.Script.{command_in, is_open}
use Rattle.transcript.specs.Faults.{sentence_of}
use Rattle.transcript.specs.Lines.{line_in}
use Rattle.transcript.specs.declared.event.Event.{Event}
use Rattle.transcript.specs.declared.fault.LineFault.{LineFault}
use Rattle.fault_text.specs.Blocks.{block_fault, later_line, line_fault}
use Rattle.fault_text.specs.Hints.{advice, hint}
use Rattle.fault_text.specs.Lines.{indented, indented_all}
use Rattle.fault_text.specs.Phrases.{fits_one, form_fault}
use Rattle.fault_text.specs.Places.{place_notes}
use Rattle.fault_text.specs.Refusals.{named_refusals, noted_refusal, why_said}
use Rattle.fault_text.specs.Spots.{IsSaidAt, SpotParts, form_spot, refusal_spot}
use Rattle.fault_text.specs.UnknownNames.{MetNames, is_met, near_room}
use Rattle.fault_text.specs.declared.hints.TheConstants.{NO_COMMAND, NO_EVENT}
use Rattle.fault_text.specs.declared.phrases.TheConstants.{COMMANDS, EVENTS}
use Rattle.fault_text.specs.declared.refusals.RefusedBlock.{RefusedBlock}
use Rattle.fault_text.proofs.CallerLemmas.{and_more, form_said, refusal_said}
use Rattle.file_faults.specs.Events.{OpenedParts, event_said, event_spot, line_said as event_line_said, line_spot as event_line_spot}
use Rattle.file_faults.specs.Files.{unread_said, unread_spot}
use Rattle.file_faults.specs.Json.{IsHeaded}
use Rattle.file_faults.specs.OpenRooms.{refusal_of, simulators_of}
use Rattle.file_faults.specs.Scripts.{KnownRooms, block_in_front, entry_said, entry_spot, is_block_refused, line_said, line_spot, meant, read_said, read_spot, refused_said, refused_spot, simulators_note}
use Rattle.file_faults.specs.declared.events.TheConstants.{BLOCK_LINES, BLOCKS_BEFORE, EVENTS_ONLY, REPORT_LINES}
use Rattle.file_faults.specs.declared.files.TheConstants.{NO_EVENTS}

abbrev first_byte : ℕ → List ℕ → SpotParts
first_byte number what = record { line = number; place = Some 1; what = what }

-- the caret is below the first byte of a line
at_first : (number : ℕ) (what line hints : List ℕ) → IsSaidAt (first_byte number what) (indented_all (place_notes number what [] line) ++ hints)
at_first number what line hints = (line, 0, hints, refl, refl)

-- ---- scripts

taken_headed : (taken : Bool) (number : ℕ) (block : List ℕ) → IsHeaded false (refusal_spot number block blocks.NameTaken) (cond taken (line_fault number block 2 blocks.NameTaken) [])
taken_headed true number block some = refusal_said number block blocks.NameTaken
taken_headed false number block some = absurd (some refl)

block_headed : (known : KnownRooms) (number : ℕ) (block : List ℕ) (read : Result (RoomSpec × ℕ) SpecFault)
    → IsHeaded (is_err read) (read_spot number block read) (read_said known.rooms number block read)
block_headed known number block (Err fault) some = (number, fault_text fault, block_fault number block fault, refl, refusal_said number block (blocks.Spec fault))
block_headed known number block (Ok read) some = taken_headed (is_some (simulators_of read.0.name known.rooms)) number block some

absent_headed : (met : Bool) (number : ℕ) (what line hints : List ℕ) → IsHeaded false (first_byte number what) (cond met [] (indented_all (place_notes number what [] line) ++ hints))
absent_headed true number what line hints some = absurd (some refl)
absent_headed false number what line hints some = at_first number what line hints

refused_headed : (script : List ℕ) (known : KnownRooms) (number : ℕ) (line name : List ℕ) (refusal : Option Refusal)
    → IsHeaded false (refused_spot number refusal) (refused_said script known number line name refusal)
refused_headed script known number line name None some = absurd (some refl)
refused_headed script known number line name (Some refusals.NoRoom) some =
    absent_headed (is_met name known.unknown_names) number (refusal_sentence refusals.NoRoom) line (meant script name) some
refused_headed script known number line name (Some refusals.NameTaken) some = at_first number (refusal_sentence refusals.NameTaken) line (simulators_note (simulators_of name known.rooms))
refused_headed script known number line name (Some refusals.NoSimulator) some = at_first number (refusal_sentence refusals.NoSimulator) line (simulators_note (simulators_of name known.rooms))
refused_headed script known number line name (Some refusals.OutOfMemory) some = at_first number (refusal_sentence refusals.OutOfMemory) line (simulators_note (simulators_of name known.rooms))

line_headed : (script : List ℕ) (known : KnownRooms) (number : ℕ) (line : List ℕ) (command : Option Command)
    → IsHeaded false (line_spot known number line command) (line_said script known number line command)
line_headed script known number line None some =
    let commands = map (λ form. form.now) COMMANDS in
    and_more (form_spot number (text_sentence NoCommand) line commands) (form_fault number (text_sentence NoCommand) line commands) (hint (advice (map (λ entry. entry.now) NO_COMMAND) line))
    (form_said number (text_sentence NoCommand) line commands)
line_headed script known number line (Some command) some = refused_headed script known number line (name_in command) (refusal_of known.rooms command) some

one_headed : (opens : Bool) (script : List ℕ) (known : KnownRooms) (number : ℕ) (block line : List ℕ) (read : Result (RoomSpec × ℕ) SpecFault) (command : Option Command)
    → IsHeaded (opens && is_err read) (cond opens (read_spot (later_line number 1) block read) (line_spot known number line command))
    (cond opens (read_said known.rooms (later_line number 1) block read) (line_said script known number line command))
one_headed true script known number block line read command some = block_headed known (later_line number 1) block read some
one_headed false script known number block line read command some = line_headed script known number line command some

pub entry_headed : (script : List ℕ) (known : KnownRooms) (number : ℕ) (text : List ℕ) → IsHeaded (is_block_refused text) (entry_spot known number text) (entry_said script known number text)
entry_headed script known number text some =
    let block = block_in_front (later_lines text) in
    one_headed (is_open (first_line text)) script known number block (first_line text) (block_of All block) (command_in (first_line text)) some

-- ---- events

unknown_name_headed : (there : Bool) (met : Bool) (number : ℕ) (what line hints : List ℕ) → IsHeaded false (first_byte number what) (cond there [] (cond met [] (indented_all (place_notes number what [] line) ++ hints)))
unknown_name_headed true met number what line hints some = absurd (some refl)
unknown_name_headed false met number what line hints some = absent_headed met number what line hints some

bad_line_headed : (of_block of_report : Bool) (number : ℕ) (what line before alone hints : List ℕ) (forms : List (List ℕ))
    → IsSaidAt (cond (of_block || of_report) (first_byte number what) (form_spot number what line forms))
    (cond of_block (indented_all (place_notes number what [] line) ++ before) (cond of_report (indented_all (place_notes number what [] line) ++ alone) (form_fault number what line forms ++ hints)))
bad_line_headed true of_report number what line before alone hints forms = at_first number what line before
bad_line_headed false true number what line before alone hints forms = at_first number what line alone
bad_line_headed false false number what line before alone hints forms = and_more (form_spot number what line forms) (form_fault number what line forms) hints (form_said number what line forms)

event_line_headed : (opened : OpenedParts) (unknown_names : MetNames) (number : ℕ) (line : List ℕ) (read : Result (List ℕ × Event) LineFault)
    → IsHeaded false (event_line_spot number line read) (event_line_said opened unknown_names number line read)
event_line_headed opened unknown_names number line (Ok read) some =
    unknown_name_headed (has_room read.0 opened.rooms) (is_met read.0 unknown_names) number no_room_sentence line (near_room opened.input read.0 ++ named_refusals opened.input read.0 opened.refused) some
event_line_headed opened unknown_names number line (Err fault) some =
    bad_line_headed (fits_one line (map (λ form. form.now) BLOCK_LINES)) (fits_one line (map (λ form. form.now) REPORT_LINES)) number (sentence_of fault) line
    (indented BLOCKS_BEFORE.now) (indented EVENTS_ONLY.now) (hint (advice (map (λ entry. entry.now) NO_EVENT) line)) (map (λ form. form.now) EVENTS)

pub event_headed : (opened : OpenedParts) (unknown_names : MetNames) (number : ℕ) (text : List ℕ) → IsHeaded false (event_spot number text) (event_said opened unknown_names number text)
event_headed opened unknown_names number text some = event_line_headed opened unknown_names number (first_line text) (line_in (first_line text)) some

-- ---- blocks, and what a transcript lacks

pub refusal_headed : (text : List ℕ) (refusal : RefusedBlock) → IsHeaded true (refusal_spot refusal.line text refusal.fault) (noted_refusal text refusal)
unfolding noted_refusal
refusal_headed text refusal some = (refusal.line, why_text refusal.fault, why_said refusal.line text refusal.fault, refl, refusal_said refusal.line text refusal.fault)

pub unread_headed : (line : ℕ) (fault : TextFault) → IsHeaded false (unread_spot line fault) (unread_said line fault)
unread_headed line fault some = (indented NO_EVENTS.now, refl)
