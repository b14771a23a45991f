-- What is read as a reduction is one, so a block that says an ordinary room is read also if only those of ordinary rooms are.
use Rattle.std.proofs.Common.{◌≡◌, ◌∙◌, ℕ, ◌+◌, ◌*◌, min, Bool, true, false, List, [], ◌∷◌, length, take, replicate, Option, Some, None, Result, Ok, Err, refl, sym, ap, inl, inr}
use Rattle.std.specs.Prelude.{codes, slice_index}
use Rattle.std.specs.Str.{bytes_eq}
use Rattle.std.proofs.lemmas.Bool.{cases_Bool}
use Rattle.protocol_lang.specs.Reading.{reading}
use Rattle.protocol_lang.specs.Results.{◌>>=◌}
use Rattle.protocol_lang.specs.declared.protocol.Protocol.{Protocol}
use Rattle.room_spec.specs.Blocks.{are_values, before_end, body_len, fitting, fuse_lines, inputs_of, line_behind_task, name_line, number_line, own_line, protocol_of, reduction_in, reduction_line, rounds_in, task_line, up_to_values, with_protocol}
use Rattle.room_spec.specs.Rooms.{RoomSpec, bits_of, has_own, is_reduction, most_bits}
use Rattle.room_spec.specs.Texts.{fields_of, first_line, later_lines}
use Rattle.room_spec.specs.declared.fault.SpecFault.{SpecFault}
use Rattle.room_spec.specs.declared.fault.SpecFault.TheVariants.{Processes, Rounds, Turns}
use Rattle.room_spec.specs.declared.version.Version.{Version}
use Rattle.room_files.specs.Kinds.{block_of, room_in_lines}
use Rattle.room_files.specs.declared.kinds.Kinds.TheVariants.{Ordinary, All}

bind_ok : {A B : Type 0} (r : Result A SpecFault) (next : A → Result B SpecFault) (y : B) → (r >>= next) ≡ Ok y → (x : A) × (r ≡ Ok x) × (next x ≡ Ok y)
bind_ok (Ok x) next y e = (x, refl, e)
bind_ok (Err fault) next y e = absurd cc

-- ---- the simulators' own inputs

some_own : (own : List ℕ) → are_values 8 own ≡ true → has_own own ≡ true
some_own [] are = absurd cc
some_own (first ∷ others) are = refl

values_by : (values own : List ℕ) → up_to_values 8 (Some values) ≡ Ok own → has_own own ≡ true
values_by values own is = elim (cases_Bool (are_values 8 values)) [
  | inl fit ↦
      let same : ◌≡◌ {A = Result (List ℕ) SpecFault} (Ok values) (Ok own) = rw fit at is in
      let those : values ≡ own = cc in
      ap has_own (sym those) ∙ some_own values fit
  | inr unfit ↦ absurd (let never = rw unfit at is in cc)
]

values_found : (found : Option (List ℕ)) (own : List ℕ) → up_to_values 8 found ≡ Ok own → has_own own ≡ true
values_found None own is = absurd cc
values_found (Some values) own is = values_by values own is

same_pair : (a b : List ℕ) (x y : List ℕ) → ◌≡◌ {A = Result (List ℕ × List ℕ) SpecFault} (Ok (a, x)) (Ok (b, y)) → a ≡ b
same_pair a b x y is =
    let same : (a, x) ≡ (b, y) = cc in
    ap (λ (p : List ℕ × List ℕ). p.0) same

own_found : (text : List ℕ) (own : List ℕ × List ℕ) → own_line text ≡ Ok own → has_own own.0 ≡ true
own_found text own is =
    let values = bind_ok (up_to_values 8 (inputs_of (fields_of (first_line text)))) (λ (values : List ℕ). Ok (values, later_lines text)) own is in
    ap has_own (sym (same_pair values.0 own.0 (later_lines text) own.1 values.2)) ∙ values_found (inputs_of (fields_of (first_line text))) values.0 values.1

-- ---- the room has them

same_own : (room : Protocol → RoomSpec) (read : Result Protocol SpecFault) (own : List ℕ) (said : RoomSpec) → ((protocol : Protocol) → (room protocol).own ≡ own) → (read >>= λ protocol. Ok (room protocol)) ≡ Ok said → said.own ≡ own
same_own room (Ok protocol) own said has is = ap (λ (s : RoomSpec). s.own) (sym (let same : room protocol ≡ said = cc in same)) ∙ has protocol
same_own room (Err fault) own said has is = absurd cc

module _ (version : Version) (name inputs own : List ℕ) (simulators : ℕ) where
  abbrev at_end : ℕ → ℕ → Option ℕ → List (ℕ × ℕ) × List ℕ → Result RoomSpec SpecFault
  at_end rounds turns task fuses =
      with_protocol (λ protocol. record { version = version; name = name; inputs = inputs; own = own; simulators = simulators; rounds = rounds; turns = turns; task = task; fuses = fuses.0; protocol = protocol }) fuses.1

  abbrev at_fuses : ℕ → ℕ → Option ℕ × List ℕ → Result RoomSpec SpecFault
  at_fuses rounds turns task = fuse_lines (line_behind_task task.0) simulators task.1 >>= at_end rounds turns task.0

  abbrev at_task : ℕ → ℕ × List ℕ → Result RoomSpec SpecFault
  at_task rounds turns = task_line version turns.1 >>= at_fuses rounds turns.0

  abbrev at_turns : ℕ × List ℕ → ℕ → Result RoomSpec SpecFault
  at_turns rounds bits = number_line 6 (codes "turns ") 65535 Turns rounds.1 >>= at_task rounds.0

  abbrev at_bits : ℕ × List ℕ → Result RoomSpec SpecFault
  at_bits rounds = fitting (most_bits version) (simulators * length inputs * bits_of rounds.0) >>= at_turns rounds

  own_said : (text : List ℕ) (said : RoomSpec) → rounds_in with_protocol version name inputs own simulators text ≡ Ok said → said.own ≡ own
  own_said text said is =
      let rounds = bind_ok (number_line 5 (codes "rounds ") 15 Rounds text) at_bits said is in
      let bits = bind_ok (fitting (most_bits version) (simulators * length inputs * bits_of rounds.0.0)) (at_turns rounds.0) said rounds.2 in
      let turns = bind_ok (number_line 6 (codes "turns ") 65535 Turns rounds.0.1) (at_task rounds.0.0) said bits.2 in
      let task = bind_ok (task_line version turns.0.1) (at_fuses rounds.0.0 turns.0.0) said turns.2 in
      let fuses = bind_ok (fuse_lines (line_behind_task task.0.0) simulators task.0.1) (at_end rounds.0.0 turns.0.0 task.0.0) said task.2 in
      same_own (λ protocol. record { version = version; name = name; inputs = inputs; own = own; simulators = simulators; rounds = rounds.0.0; turns = turns.0.0; task = task.0.0; fuses = fuses.0.0; protocol = protocol })
      (protocol_of (reading fuses.0.1)) own said (λ protocol. refl) fuses.2

abbrev at_count : Version → List ℕ → List ℕ → ℕ × List ℕ → Result RoomSpec SpecFault
at_count version name own count = rounds_in with_protocol version name (replicate count.0 (slice_index own 0)) own (length own) count.1

abbrev at_own : Version → List ℕ → List ℕ × List ℕ → Result RoomSpec SpecFault
at_own version name own = number_line 4 (codes "processes ") 16 Processes own.1 >>= at_count version name own.0

abbrev at_name : Version → List ℕ × List ℕ → Result RoomSpec SpecFault
at_name version name = own_line name.1 >>= at_own version name.0

abbrev at_version : Version × List ℕ → Result RoomSpec SpecFault
at_version version = name_line version.1 >>= at_name version.0

said_reduction : (body : List ℕ) (said : RoomSpec) → reduction_in body ≡ Ok said → is_reduction said ≡ true
unfolding reduction_in
said_reduction body said is =
    let version = bind_ok (reduction_line body) at_version said is in
    let name = bind_ok (name_line version.0.1) (at_name version.0.0) said version.2 in
    let own = bind_ok (own_line name.0.1) (at_own version.0.0 name.0.0) said name.2 in
    let count = bind_ok (number_line 4 (codes "processes ") 16 Processes own.0.1) (at_count version.0.0 name.0.0 own.0.0) said own.2 in
    ap has_own (own_said version.0.0 name.0.0 (replicate count.0.0 (slice_index own.0.0 0)) own.0.0 (length own.0.0) count.0.1 said count.2) ∙ own_found name.0.1 own.0 own.1

-- ---- a block

same_said : (room said : RoomSpec) (len count : ℕ) → ◌≡◌ {A = Result (RoomSpec × ℕ) SpecFault} (Ok (room, len)) (Ok (said, count)) → room ≡ said
same_said room said len count is =
    let same : (room, len) ≡ (said, count) = cc in
    ap (λ (p : RoomSpec × ℕ). p.0) same

block_said : (block : List ℕ) (body : Option ℕ) (said : RoomSpec) (len : ℕ) → before_end reduction_in block body ≡ Ok (said, len) → is_reduction said ≡ true
block_said block None said len is = absurd cc
block_said block (Some body) said len is =
    let room = bind_ok (reduction_in (take body block)) (λ (room : RoomSpec). Ok (room, min (body + 4) (length block))) (said, len) is in
    ap is_reduction (sym (same_said room.0 said (min (body + 4) (length block)) len room.2)) ∙ said_reduction (take body block) room.0 room.1

ordinary_by : (block : List ℕ) (said : RoomSpec) (len : ℕ) (b : Bool) → before_end (room_in_lines b) block (body_len block) ≡ Ok (said, len) → is_reduction said ≡ false → block_of Ordinary block ≡ Ok (said, len)
ordinary_by block said len false is ordinary = is
ordinary_by block said len true is ordinary = absurd (let never : true ≡ false = sym (block_said block (body_len block) said len is) ∙ ordinary in cc)

-- a block that says an ordinary room is read also if only those of ordinary rooms are
pub ordinary_read : (block : List ℕ) (said : RoomSpec) (len : ℕ) → block_of All block ≡ Ok (said, len) → is_reduction said ≡ false → block_of Ordinary block ≡ Ok (said, len)
ordinary_read block said len is ordinary = ordinary_by block said len (bytes_eq (first_line block) (codes "reduction 1")) is ordinary
