-- Lines reported one by one.
use Rattle.std.proofs.Common.{◌≡◌, ◌≢◌, ◌∙◌, inl, ℕ, Bool, true, false, List, [], length, Option, Some, None, Result, Ok, Err, codes, if◌then◌else◌, refl, sym, ap}
use Rattle.std.specs.Prelude.{IsSome}
use Rattle.std.specs.Str.{bytes_eq}
use Rattle.room_spec.specs.Blocks.{block_len}
use Rattle.room_spec.specs.Texts.{first_line, later_lines}
use Rattle.room_files.specs.Lines.{text_lines}
use Rattle.room_spec.specs.Rooms.{RoomSpec}
use Rattle.transcript.specs.declared.event.Event.{Event}
use Rattle.transcript.specs.declared.fault.LineFault.{LineFault}
use Rattle.history_checker.specs.Verdicts.{has_room}
use Rattle.room_files.specs.Blocks.{IsFaultOr, Setup, no_blocks, pass_lines}
use Rattle.room_files.specs.Faults.{FaultAt}
use Rattle.room_files.specs.Inputs.{BeginsWithBlock, MayLackMemory, blocks_from, blocks_in, fed_from, input_says, next_block, of_known_room}
use Rattle.room_files.specs.declared.fault.InputFault.{InputFault}
use Rattle.room_files.specs.declared.fault.TextFault.TheVariants.{NoRoom}
use Rattle.room_files.specs.declared.fault.InputFault.TheVariants.{BadInput, Memory}
use Rattle.room_files.specs.declared.kinds.Kinds.TheVariants.{All}

pub known : (rooms : List RoomSpec) (line : ℕ) (said : Result (List ℕ × Event) LineFault) (read : List ℕ × Event) → said ≡ Ok read → has_room read.0 rooms ≡ true
    → of_known_room rooms line said ≡ Ok (record { name = read.0; event = read.1; line = line })
known rooms line said read is there = rw (is, there) refl

pub unknown : (rooms : List RoomSpec) (line : ℕ) (said : Result (List ℕ × Event) LineFault) (read : List ℕ × Event) → said ≡ Ok read → has_room read.0 rooms ≡ false → of_known_room rooms line said ≡ Err (line, NoRoom)
unknown rooms line said read is none = rw (is, none) refl

-- where a room is, there are rooms
pub has_some : (name : List ℕ) (rooms : List RoomSpec) → has_room name rooms ≡ true → rooms ≢ []
has_some name rooms has none = let bad = sym has ∙ ap (has_room name) none in absurd cc

-- ---- want of memory

begins_by : (later : Setup → List ℕ → Result (Setup × List ℕ) FaultAt) (input : List ℕ) (is_events : Bool) (found : Option ℕ) (setup : Setup) (rest : List ℕ)
    → (if is_events then Ok (pass_lines 1 no_blocks, later_lines input) else next_block later All no_blocks input found) ≡ Ok (setup, rest) → setup.rooms ≢ [] → (is_events ≡ false) × IsSome found
begins_by later input true found setup rest is some = absurd (some (ap (λ (r : Result (Setup × List ℕ) FaultAt). rooms_read r) (sym is)))
  where
    rooms_read : Result (Setup × List ℕ) FaultAt → List RoomSpec
    rooms_read (Ok read) = read.0.rooms
    rooms_read (Err fault) = []
begins_by later input false None setup rest is some = absurd cc
begins_by later input false (Some len) setup rest is some = (refl, refl)

-- where blocks opened rooms the input begins with one
begins : (input : List ℕ) (setup : Setup) (rest : List ℕ) → blocks_in All input ≡ Ok (setup, rest) → setup.rooms ≢ [] → BeginsWithBlock input
unfolding blocks_from
begins input setup rest is some = begins_by (blocks_from All (length input)) input (bytes_eq (first_line input) (codes "events")) (block_len input) setup rest is some

-- a fault of the events is that of the whole input
pub events_fault : (input : List ℕ) (setup : Setup) (rest : List ℕ) (fault : InputFault) → blocks_in All input ≡ Ok (setup, rest) → IsFaultOr (setup.rooms ≢ []) (fed_from setup.rooms [] setup.line (text_lines rest)) fault
    → IsFaultOr (MayLackMemory All input) (input_says All input) fault
events_fault input setup rest Memory is some = inl (begins input setup rest is some)
events_fault input setup rest (BadInput line fault) is bad = rw (is, bad) refl
