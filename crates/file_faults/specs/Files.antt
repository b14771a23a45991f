-- What is said of all faults of a file of rooms, and of a transcript.
use Rattle.std.specs.Prelude.{◌≡◌, ℕ, true, false, List, [], ◌∷◌, ◌++◌, drop, take, None, Result, Ok, Err}
use Rattle.std.specs.List.{flat_map}
use Rattle.history_checker.specs.Verdicts.{FedEvent}
use Rattle.room_files.specs.Blocks.{Setup}
use Rattle.room_files.specs.Faults.{FaultAt, text_sentence}
use Rattle.room_files.specs.Inputs.{all_blocks, blocks_in}
use Rattle.room_files.specs.declared.fault.TextFault.{TextFault}
use Rattle.room_files.specs.declared.kinds.Kinds.TheVariants.{All}
use Rattle.fault_text.specs.Lines.{from_line, indented}
use Rattle.fault_text.specs.Places.{heading}
use Rattle.fault_text.specs.Refusals.{noted_refusal, noted_refusals, refusal_line}
use Rattle.fault_text.specs.Spots.{SpotParts, refusal_spot}
use Rattle.fault_text.specs.declared.refusals.RefusedBlock.{RefusedBlock}
use Rattle.fault_text.specs.declared.refusals.TheConstants.{MOST_EXPLAINED}
use Rattle.file_faults.specs.Events.{event_faults, events_said}
use Rattle.file_faults.specs.Json.{enough_in, fault_in}
use Rattle.file_faults.specs.declared.files.TheConstants.{NO_EVENTS}

-- what is said of blocks that are refused by these lines
abbrev pub AreRefusalsSaid : List ℕ → List ℕ → List ℕ → Type 0
AreRefusalsSaid input refused said = (refusals : List RefusedBlock) × (refused ≡ flat_map refusal_line refusals) × (said ≡ noted_refusals input refusals)

-- of all blocks of a file of rooms that are refused
abbrev pub AreRoomFaults : List ℕ → List ℕ → Type 0
AreRoomFaults input said = AreRefusalsSaid input (all_blocks All input).refused said

abbrev pub AddsRoomFaults : List ℕ → List ℕ → List ℕ → Type 0
AddsRoomFaults input old new = (said : List ℕ) × AreRoomFaults input said × (new ≡ old ++ said)

-- of the refused blocks and the event lines of a transcript; if it has no line `events`, of its blocks, and that it ends too early
abbrev pub AreFaultsAfter : List ℕ → Result (Setup × List ℕ) FaultAt → List ℕ → Type 0
AreFaultsAfter input (Ok read) said =
    (refusals : List RefusedBlock) × (read.0.refused ≡ flat_map refusal_line refusals)
    × (said ≡ noted_refusals input refusals ++ event_faults (record { rooms = read.0.rooms; input = input; refused = refusals }) read.0.line read.1)
AreFaultsAfter input (Err fault) said = (refused : List ℕ) × AreRoomFaults input refused × (said ≡ refused ++ (indented (heading fault.0 (text_sentence fault.1)) ++ indented NO_EVENTS.now))

unfoldable pub AreTranscriptFaults : List ℕ → List ℕ → Type 0
AreTranscriptFaults input said = AreFaultsAfter input (blocks_in All input) said

-- ---- as JSON

-- of a refused block, with which this text begins
abbrev pub refusal_object : List ℕ → RefusedBlock → List ℕ
refusal_object text refusal = fault_in true true (refusal_spot refusal.line text refusal.fault) (noted_refusal text refusal)

abbrev pub all_objects : List ℕ → List RefusedBlock → List ℕ
all_objects input refusals = flat_map (λ refusal. refusal_object (from_line refusal.line input) refusal) refusals

-- there are more
abbrev pub more_if : List RefusedBlock → List ℕ
more_if [] = []
more_if (refusal ∷ others) = enough_in true

-- of all refused blocks: the first are explained
abbrev pub refusal_objects : List ℕ → List RefusedBlock → List ℕ
refusal_objects input refusals = all_objects input (take MOST_EXPLAINED refusals) ++ more_if (drop MOST_EXPLAINED refusals)

abbrev pub AreRoomObjects : List ℕ → List ℕ → Type 0
AreRoomObjects input said = (refusals : List RefusedBlock) × ((all_blocks All input).refused ≡ flat_map refusal_line refusals) × (said ≡ refusal_objects input refusals)

abbrev pub AddsRoomObjects : List ℕ → List ℕ → List ℕ → Type 0
AddsRoomObjects input old new = (said : List ℕ) × AreRoomObjects input said × (new ≡ old ++ said)

-- a transcript ends before its line `events`
abbrev pub unread_spot : ℕ → TextFault → SpotParts
unread_spot line fault = record { line = line; place = None; what = text_sentence fault }

abbrev pub unread_said : ℕ → TextFault → List ℕ
unread_said line fault = indented (heading line (text_sentence fault)) ++ indented NO_EVENTS.now

abbrev pub AreObjectsAfter : List ℕ → Result (Setup × List ℕ) FaultAt → List ℕ → Type 0
AreObjectsAfter input (Ok read) said =
    (refusals : List RefusedBlock) × (read.0.refused ≡ flat_map refusal_line refusals)
    × (said ≡ refusal_objects input refusals ++ events_said true (record { rooms = read.0.rooms; input = input; refused = refusals }) read.0.line read.1)
AreObjectsAfter input (Err fault) said = (refused : List ℕ) × AreRoomObjects input refused × (said ≡ refused ++ fault_in true false (unread_spot fault.0 fault.1) (unread_said fault.0 fault.1))

unfoldable pub AreTranscriptObjects : List ℕ → List ℕ → Type 0
AreTranscriptObjects input said = AreObjectsAfter input (blocks_in All input) said

-- ---- laws

-- a transcript can be read, and none of its blocks is refused
abbrev pub IsWhole : Result (Setup × List FedEvent) FaultAt → Type 0
IsWhole (Ok read) = read.0.refused ≡ []
IsWhole (Err fault) = ⊥
