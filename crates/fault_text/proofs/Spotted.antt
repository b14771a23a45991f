-- What is said of a fault begins with what its spot says.
use Rattle.std.proofs.Common.{◌∙◌, ℕ, ◌+◌, ◌-◌, List, [], ◌++◌, length, take, drop, Option, Some, None, refl, sym, ap, ap₂}
use Rattle.std.proofs.lemmas.List.{append-nil, append_assoc, drop_at, take_at}
use Rattle.protocol_lang.specs.Faults.{sentence_of as protocol_sentence}
use Rattle.protocol_lang.specs.FirstFaults.{place_of}
use Rattle.protocol_lang.specs.declared.fault.ParseFault.{ParseFault}
use Rattle.room_spec.specs.Texts.{first_line}
use Rattle.room_spec.specs.declared.fault.SpecFault.{SpecFault}
use Rattle.room_spec.specs.declared.fault.SpecFault.TheVariants as faults
use Rattle.room_files.specs.declared.fault.BlockFault.{BlockFault}
use Rattle.room_files.specs.declared.fault.BlockFault.TheVariants as blocks
use Rattle.room_files.specs.Faults.{block_sentence}
use Rattle.fault_text.specs.Blocks.{block_fault, block_notes, choices_if, fault_in, forms_at, head_fault, later_line, line_ends, line_fault, line_of, other_kind, program_of, token_fault_hints}
use Rattle.fault_text.specs.Lines.{indented, indented_all, last_line, line_at}
use Rattle.fault_text.specs.Phrases.{form_fault, form_notes, place_in}
use Rattle.fault_text.specs.Places.{heading, place_notes}
use Rattle.fault_text.specs.Refusals.{why_said}
use Rattle.fault_text.specs.Spots.{IsSaidAt, IsSaidIn, SpotParts, block_spot, form_spot, line_spot, refusal_spot, spot_in}

-- more may be said after it
more_in : (number : ℕ) (place : Option ℕ) (what said more : List ℕ) → IsSaidIn number place what said → IsSaidIn number place what (said ++ more)
more_in number None what said more (hints, is) = (hints ++ more, ap (λ t. t ++ more) is ∙ append_assoc (indented (heading number what)) hints more)
more_in number (Some place) what said more (line, before, hints, at, is) = (line, before, hints ++ more, at, ap (λ t. t ++ more) is ∙ append_assoc (indented_all (place_notes number what (take before line) (drop before line))) hints more)

pub and_more : (spot : SpotParts) (said more : List ℕ) → IsSaidAt spot said → IsSaidAt spot (said ++ more)
and_more spot said more is = more_in spot.line spot.place spot.what said more is

pub form_said : (number : ℕ) (what line : List ℕ) (forms : List (List ℕ)) → IsSaidAt (form_spot number what line forms) (form_fault number what line forms)
unfolding form_fault
form_said number what line forms = (line, place_in line forms, form_notes (place_in line forms) line forms, refl, refl)

line_said : (first : ℕ) (text : List ℕ) (line : ℕ) (fault : BlockFault) → IsSaidAt (line_spot first text line fault) (line_fault first text line fault)
line_said first text line fault =
    let number = later_line first (line - 1) in
    let spot = form_spot number (block_sentence fault) (line_at line text) (forms_at text line) in
    and_more spot (form_fault number (block_sentence fault) (line_at line text) (forms_at text line)) (other_kind fault (line_at line text))
    (form_said number (block_sentence fault) (line_at line text) (forms_at text line))

head_said : (first : ℕ) (text : List ℕ) (fault : SpecFault) → IsSaidAt (line_spot first text (line_of fault) (blocks.Spec fault)) (head_fault first text fault)
head_said first text fault =
    let spot = line_spot first text (line_of fault) (blocks.Spec fault) in
    and_more spot (line_fault first text (line_of fault) (blocks.Spec fault)) (block_notes first text fault) (line_said first text (line_of fault) (blocks.Spec fault))

-- the line that has the place
place_said : (number : ℕ) (what front back hints : List ℕ) → IsSaidIn number (Some (length front + 1)) what (indented_all (place_notes number what front back) ++ hints)
place_said number what front back hints =
    let parts = ap₂ (λ f b. indented_all (place_notes number what f b) ++ hints) (sym (take_at front back (length front) refl)) (sym (drop_at front back (length front) refl)) in
    (front ++ back, length front, hints, refl, parts)

in_program_said : (first : ℕ) (program : ℕ × List ℕ) (fault : ParseFault) (place : Option ℕ) → IsSaidAt (spot_in first program fault place) (fault_in first program fault place)
in_program_said first program fault None = ([], sym (append-nil _))
in_program_said first program fault (Some place) =
    let before = take place program.1 in
    let behind = drop place program.1 in
    place_said (later_line first (program.0 + line_ends before)) (protocol_sentence fault) (last_line before) (first_line behind)
    (choices_if before fault ++ token_fault_hints before (drop (place - 1) program.1) (first_line behind) fault)

block_said : (first : ℕ) (text : List ℕ) (fault : SpecFault) → IsSaidAt (block_spot first text fault) (block_fault first text fault)
block_said first text (faults.BadProtocol fault) = in_program_said first (program_of text) fault (place_of fault)
block_said first text faults.Truncated = head_said first text faults.Truncated
block_said first text (faults.BadLine line) = head_said first text (faults.BadLine line)
block_said first text faults.BadName = head_said first text faults.BadName
block_said first text faults.Inputs = head_said first text faults.Inputs
block_said first text faults.Simulators = head_said first text faults.Simulators
block_said first text faults.Rounds = head_said first text faults.Rounds
block_said first text faults.Turns = head_said first text faults.Turns
block_said first text faults.TooWide = head_said first text faults.TooWide
block_said first text (faults.CrashLine line) = head_said first text (faults.CrashLine line)
block_said first text (faults.Repeated line) = head_said first text (faults.Repeated line)
block_said first text (faults.TaskLine line) = head_said first text (faults.TaskLine line)
block_said first text faults.Processes = head_said first text faults.Processes

pub refusal_said : (first : ℕ) (text : List ℕ) (fault : BlockFault) → IsSaidAt (refusal_spot first text fault) (why_said first text fault)
refusal_said first text (blocks.Spec fault) = block_said first text fault
refusal_said first text blocks.NameTaken = line_said first text 2 blocks.NameTaken
