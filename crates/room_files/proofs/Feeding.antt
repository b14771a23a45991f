-- Events fed one by one.
use Rattle.std.proofs.Common.{◌≡◌, ◌∙◌, ℕ, ◌+◌, List, [], ◌∷◌, ◌++◌, Result, Ok, Err, refl, sym, ap}
use Rattle.room_spec.specs.Rooms.{RoomSpec}
use Rattle.transcript.specs.Lines.{line_in, line_said, LineParts}
use Rattle.history_checker.specs.Verdicts.{FedEvent, RoomState, specs_of}
use Rattle.history_checker.specs.Shown.{HasFed, IsUnfed}
use Rattle.history_checker.specs.declared.fault.FeedFault.{FeedFault}
use Rattle.history_checker.specs.declared.fault.FeedFault.TheVariants.{BadLine, NoRoom}
use Rattle.room_files.specs.declared.fault.InputFault.{InputFault}
use Rattle.room_files.specs.declared.fault.InputFault.TheVariants.{BadInput, Memory}
use Rattle.room_files.specs.Blocks.{Setup, IsFaultOr}
use Rattle.room_files.specs.Faults.{FaultAt, of_fed}
use Rattle.room_files.specs.Lines.{text_lines}
use Rattle.room_files.specs.Inputs.{blocks_in, later_events, fed_from, input_says, of_known_room, then_fed, with_fed}
use Rattle.room_files.specs.declared.kinds.Kinds.{Kinds}

-- what became of a line, by its parts
pub line_fed : (rooms after : List RoomState) (line : ℕ) (parts : LineParts) (fed : HasFed parts line rooms after) → of_known_room (specs_of rooms) line (line_said parts) ≡ Ok fed.one
line_fed rooms after line parts fed = rw (fed.said, fed.known) (ap (λ (n : ℕ). Ok (record { name = fed.one.name; event = fed.one.event; line = n })) (sym fed.numbered))

pub line_unfed : (rooms : List RoomSpec) (line : ℕ) (parts : LineParts) (fault : FeedFault) → IsUnfed parts rooms fault → of_known_room rooms line (line_said parts) ≡ Err (line, of_fed fault)
line_unfed rooms line parts (BadLine fault) bad = rw bad refl
line_unfed rooms line parts (NoRoom none) unknown = rw (unknown.1, unknown.2) refl

pub fed_step : (rooms : List RoomSpec) (fed : List FedEvent) (line : ℕ) (text : List ℕ) (texts : List (List ℕ)) (one : FedEvent) → of_known_room rooms line (line_in text) ≡ Ok one
    → fed_from rooms fed line (text ∷ texts) ≡ fed_from rooms (fed ++ one ∷ []) (line + 1) texts
unfolding fed_from
fed_step rooms fed line text texts one is = ap (then_fed (λ so_far. fed_from rooms so_far (line + 1) texts) fed) is

pub fed_fault : (rooms : List RoomSpec) (fed : List FedEvent) (line : ℕ) (text : List ℕ) (texts : List (List ℕ)) (fault : FaultAt) → of_known_room rooms line (line_in text) ≡ Err fault
    → fed_from rooms fed line (text ∷ texts) ≡ Err fault
unfolding fed_from
fed_fault rooms fed line text texts fault is = ap (then_fed (λ so_far. fed_from rooms so_far (line + 1) texts) fed) is

pub fed_end : (rooms : List RoomSpec) (fed : List FedEvent) (line : ℕ) → fed_from rooms fed line [] ≡ Ok fed
unfolding fed_from
fed_end rooms fed line = refl

pub fault_fed : (memory : Type 0) (rooms : List RoomSpec) (fed : List FedEvent) (line : ℕ) (text : List ℕ) (texts : List (List ℕ)) (whole : Result (List FedEvent) FaultAt) (fault : InputFault)
    → whole ≡ fed_from rooms fed line (text ∷ texts) → IsFaultOr memory (of_known_room rooms line (line_in text)) fault → IsFaultOr memory whole fault
fault_fed memory rooms fed line text texts whole Memory is lacks = lacks
fault_fed memory rooms fed line text texts whole (BadInput at wrong) is bad = is ∙ fed_fault rooms fed line text texts (at, wrong) bad

-- what an input says, by its blocks and the events behind them
pub said : (kinds : Kinds) (input : List ℕ) (setup : Setup) (transcript : List ℕ) (fed : List FedEvent) → blocks_in kinds input ≡ Ok (setup, transcript) → fed_from setup.rooms [] setup.line (text_lines transcript) ≡ Ok fed → input_says kinds input ≡ Ok (setup, fed)
said kinds input setup transcript fed read reported = ap later_events read ∙ ap (with_fed setup) reported
