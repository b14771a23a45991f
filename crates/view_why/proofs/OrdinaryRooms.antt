-- If only ordinary rooms are read, no room is a reduction.
use Rattle.std.proofs.Common.{◌≡◌, ◌∙◌, ℕ, suc, zero, ◌*◌, Bool, true, false, List, [], ◌∷◌, ◌++◌, length, min, take, drop, ◌+◌, Option, Some, None, refl, sym, ap, subst}
use Rattle.std.specs.Prelude.{Result, Ok, Err, codes, if◌then◌else◌}
use Rattle.std.specs.List.{All}
use Rattle.std.specs.Str.{bytes_eq}
use Rattle.std.proofs.lemmas.List.Elements.{All-nil, All-push}
use Rattle.protocol_lang.specs.Results.{◌>>=◌}
use Rattle.protocol_lang.specs.Reading.{reading}
use Rattle.protocol_lang.specs.declared.protocol.Protocol.{Protocol}
use Rattle.room_spec.specs.Blocks.{before_end, block_len, body_len, fitting, fuse_lines, inputs_line, line_behind_task, name_line, number_line, protocol_of, room_in, task_line, version_line}
use Rattle.room_spec.specs.Rooms.{RoomSpec, bits_of, has_own, is_reduction, most_bits}
use Rattle.room_spec.specs.Texts.{first_line, later_lines}
use Rattle.room_spec.specs.declared.fault.SpecFault.{SpecFault}
use Rattle.room_spec.specs.declared.fault.SpecFault.TheVariants.{Simulators, Rounds, Turns}
use Rattle.room_spec.specs.declared.version.Version.{Version}
use Rattle.history_checker.specs.Verdicts.{FedEvent, has_room}
use Rattle.room_files.specs.Blocks.{Setup, after_block, no_blocks, open_block, pass_lines, refuse}
use Rattle.room_files.specs.Faults.{FaultAt}
use Rattle.room_files.specs.Inputs.{blocks_from, blocks_in, fed_from, input_says, later_events, next_block, with_fed}
use Rattle.room_files.specs.Lines.{text_lines}
use Rattle.room_files.specs.Kinds.{block_of}
use Rattle.room_files.specs.declared.kinds.Kinds.TheVariants.{Ordinary}
use Rattle.view_why.specs.Why.{AreOrdinary}

-- ---- a block

then_ok : {A B : Type 0} (r : Result A SpecFault) (next : A → Result B SpecFault) (y : B) → (r >>= next) ≡ Ok y → (x : A) × (next x ≡ Ok y)
then_ok (Ok x) next y is = (x, is)
then_ok (Err fault) next y is = absurd cc

abbrev from_text : Version → List ℕ → List ℕ → ℕ → ℕ → ℕ → Option ℕ → List (ℕ × ℕ) → List ℕ → Result RoomSpec SpecFault
from_text version name inputs simulators rounds turns task fuses text =
    protocol_of (reading text) >>= λ protocol. Ok (record { version = version; name = name; inputs = inputs; own = []; simulators = simulators; rounds = rounds; turns = turns; task = task; fuses = fuses; protocol = protocol })

abbrev from_task : Version → List ℕ → List ℕ → ℕ → ℕ → ℕ → List ℕ → Result RoomSpec SpecFault
from_task version name inputs simulators rounds turns text =
    task_line version text >>= λ task. fuse_lines (line_behind_task task.0) simulators task.1 >>= λ fuses. from_text version name inputs simulators rounds turns task.0 fuses.0 fuses.1

abbrev from_rounds : Version → List ℕ → List ℕ → ℕ → List ℕ → Result RoomSpec SpecFault
from_rounds version name inputs simulators text =
    number_line 5 (codes "rounds ") 15 Rounds text >>= λ rounds. fitting (most_bits version) (simulators * length inputs * bits_of rounds.0) >>= λ bits. number_line 6 (codes "turns ") 65535 Turns rounds.1
    >>= λ turns. from_task version name inputs simulators rounds.0 turns.0 turns.1

abbrev from_inputs : Version → List ℕ → List ℕ → Result RoomSpec SpecFault
from_inputs version name text = inputs_line text >>= λ inputs. number_line 4 (codes "simulators ") 8 Simulators inputs.1 >>= λ simulators. from_rounds version name inputs.0 simulators.0 simulators.1

text_ordinary : (version : Version) (name inputs : List ℕ) (simulators rounds turns : ℕ) (task : Option ℕ) (fuses : List (ℕ × ℕ)) (text : List ℕ) (room : RoomSpec) → from_text version name inputs simulators rounds turns task fuses text ≡ Ok room → is_reduction room ≡ false
text_ordinary version name inputs simulators rounds turns task fuses text room is =
    let made = then_ok (protocol_of (reading text)) (λ protocol. Ok (record { version = version; name = name; inputs = inputs; own = []; simulators = simulators; rounds = rounds; turns = turns; task = task; fuses = fuses; protocol = protocol })) room is in
    same_own made.1
  where
    kind_of : Result RoomSpec SpecFault → Bool
    kind_of (Ok one) = is_reduction one
    kind_of (Err fault) = false

    same_own : {P : Protocol} → ◌≡◌ {A = Result RoomSpec SpecFault} (Ok (record { version = version; name = name; inputs = inputs; own = []; simulators = simulators; rounds = rounds; turns = turns; task = task; fuses = fuses; protocol = P })) (Ok room) → is_reduction room ≡ false
    same_own e = sym (ap kind_of e)

task_ordinary : (version : Version) (name inputs : List ℕ) (simulators rounds turns : ℕ) (text : List ℕ) (room : RoomSpec) → from_task version name inputs simulators rounds turns text ≡ Ok room → is_reduction room ≡ false
task_ordinary version name inputs simulators rounds turns text room is =
    let task = then_ok (task_line version text) (λ task. fuse_lines (line_behind_task task.0) simulators task.1 >>= λ fuses. from_text version name inputs simulators rounds turns task.0 fuses.0 fuses.1) room is in
    let fuses = then_ok (fuse_lines (line_behind_task task.0.0) simulators task.0.1) (λ fuses. from_text version name inputs simulators rounds turns task.0.0 fuses.0 fuses.1) room task.1 in
    text_ordinary version name inputs simulators rounds turns task.0.0 fuses.0.0 fuses.0.1 room fuses.1

rounds_ordinary : (version : Version) (name inputs : List ℕ) (simulators : ℕ) (text : List ℕ) (room : RoomSpec) → from_rounds version name inputs simulators text ≡ Ok room → is_reduction room ≡ false
rounds_ordinary version name inputs simulators text room is =
    let rounds = then_ok (number_line 5 (codes "rounds ") 15 Rounds text) (λ rounds. fitting (most_bits version) (simulators * length inputs * bits_of rounds.0) >>= λ bits. number_line 6 (codes "turns ") 65535 Turns rounds.1 >>= λ turns. from_task version name inputs simulators rounds.0 turns.0 turns.1) room is in
    let bits = then_ok (fitting (most_bits version) (simulators * length inputs * bits_of rounds.0.0)) (λ bits. number_line 6 (codes "turns ") 65535 Turns rounds.0.1 >>= λ turns. from_task version name inputs simulators rounds.0.0 turns.0 turns.1) room rounds.1 in
    let turns = then_ok (number_line 6 (codes "turns ") 65535 Turns rounds.0.1) (λ turns. from_task version name inputs simulators rounds.0.0 turns.0 turns.1) room bits.1 in
    task_ordinary version name inputs simulators rounds.0.0 turns.0.0 turns.0.1 room turns.1

inputs_ordinary : (version : Version) (name text : List ℕ) (room : RoomSpec) → from_inputs version name text ≡ Ok room → is_reduction room ≡ false
inputs_ordinary version name text room is =
    let inputs = then_ok (inputs_line text) (λ inputs. number_line 4 (codes "simulators ") 8 Simulators inputs.1 >>= λ simulators. from_rounds version name inputs.0 simulators.0 simulators.1) room is in
    let simulators = then_ok (number_line 4 (codes "simulators ") 8 Simulators inputs.0.1) (λ simulators. from_rounds version name inputs.0.0 simulators.0 simulators.1) room inputs.1 in
    rounds_ordinary version name inputs.0.0 simulators.0.0 simulators.0.1 room simulators.1

room_ordinary : (body : List ℕ) (room : RoomSpec) → room_in body ≡ Ok room → is_reduction room ≡ false
unfolding room_in
room_ordinary body room is =
    let version = then_ok (version_line body) (λ version. name_line version.1 >>= λ name. from_inputs version.0 name.0 name.1) room is in
    let name = then_ok (name_line version.0.1) (λ name. from_inputs version.0.0 name.0 name.1) room version.1 in
    inputs_ordinary version.0.0 name.0.0 name.0.1 room name.1

block_ordinary : (text : List ℕ) (body : Option ℕ) (read : RoomSpec × ℕ) → before_end room_in text body ≡ Ok read → is_reduction read.0 ≡ false
block_ordinary text None read is = absurd cc
block_ordinary text (Some body) read is = by (room_in (take body text)) refl is
  where
    by : (r : Result RoomSpec SpecFault) → room_in (take body text) ≡ r → (r >>= λ room. Ok (room, min (body + 4) (length text))) ≡ Ok read → is_reduction read.0 ≡ false
    by (Ok room) found e = let same : room ≡ read.0 = cc in subst (λ (one : RoomSpec). is_reduction one ≡ false) same (room_ordinary (take body text) room found)
    by (Err fault) found e = absurd cc

-- ---- one block after the other

open_ordinary : (setup : Setup) (read : Result (RoomSpec × ℕ) SpecFault) → ((one : RoomSpec × ℕ) → read ≡ Ok one → is_reduction one.0 ≡ false) → AreOrdinary setup.rooms → AreOrdinary (open_block setup read).rooms
open_ordinary setup (Err fault) each so_far = so_far
open_ordinary setup (Ok one) each so_far = by (has_room one.0.name setup.rooms)
  where
    by : (taken : Bool) → AreOrdinary (if taken then refuse setup (codes "41") else record { rooms = setup.rooms ++ one.0 ∷ []; refused = setup.refused; line = setup.line }).rooms
    by true = so_far
    by false = All-push (λ (room : RoomSpec). is_reduction room ≡ false) setup.rooms one.0 so_far (each one refl)

setup_in : Result (Setup × List ℕ) FaultAt → Setup
setup_in (Ok read) = read.0
setup_in (Err fault) = no_blocks

-- if it is so of what comes later
next_ordinary : (later : Setup → List ℕ → Result (Setup × List ℕ) FaultAt) → ((setup : Setup) (rest : List ℕ) (read : Setup × List ℕ) → AreOrdinary setup.rooms → later setup rest ≡ Ok read → AreOrdinary read.0.rooms)
    → (setup : Setup) (rest : List ℕ) (read : Setup × List ℕ) (ends : Bool) (found : Option ℕ) → AreOrdinary setup.rooms
    → (if ends then Ok (pass_lines 1 setup, later_lines rest) else next_block later Ordinary setup rest found) ≡ Ok read → AreOrdinary read.0.rooms
unfolding setup_in
next_ordinary later each setup rest read true found so_far is = subst (λ (after : Setup). AreOrdinary after.rooms) (ap setup_in is) so_far
next_ordinary later each setup rest read false None so_far is = absurd cc
next_ordinary later each setup rest read false (Some len) so_far is =
    each (after_block Ordinary setup (take len rest)) (drop len rest) read
    (open_ordinary setup (block_of Ordinary (take len rest)) (block_ordinary (take len rest) (body_len (take len rest))) so_far) is

from_ordinary : (most : ℕ) (setup : Setup) (rest : List ℕ) (read : Setup × List ℕ) → AreOrdinary setup.rooms → blocks_from Ordinary most setup rest ≡ Ok read → AreOrdinary read.0.rooms
unfolding blocks_from
from_ordinary zero setup rest read so_far is = absurd cc
from_ordinary (suc most) setup rest read so_far is = next_ordinary (blocks_from Ordinary most) (from_ordinary most) setup rest read (bytes_eq (first_line rest) (codes "events")) (block_len rest) so_far is

says_ordinary : (read : Result (Setup × List ℕ) FaultAt) (setup : Setup) (fed : List FedEvent) → ((one : Setup × List ℕ) → read ≡ Ok one → AreOrdinary one.0.rooms) → later_events read ≡ Ok (setup, fed) → AreOrdinary setup.rooms
says_ordinary (Err fault) setup fed each is = absurd cc
says_ordinary (Ok one) setup fed each is = by (fed_from one.0.rooms [] one.0.line (text_lines one.1)) is
  where
    setup_of : Result (Setup × List FedEvent) FaultAt → Setup
    setup_of (Ok said) = said.0
    setup_of (Err fault) = no_blocks

    by : (events : Result (List FedEvent) FaultAt) → with_fed one.0 events ≡ Ok (setup, fed) → AreOrdinary setup.rooms
    by (Ok all) e = subst (λ (s : Setup). AreOrdinary s.rooms) (ap setup_of e) (each one refl)
    by (Err fault) e = absurd cc

pub ordinary_rooms : (input : List ℕ) (setup : Setup) (fed : List FedEvent) → input_says Ordinary input ≡ Ok (setup, fed) → AreOrdinary setup.rooms
ordinary_rooms input setup fed is =
    says_ordinary (blocks_in Ordinary input) setup fed (λ read e. from_ordinary (suc (length input)) no_blocks input read (All-nil (λ (room : RoomSpec). is_reduction room ≡ false)) e) is
