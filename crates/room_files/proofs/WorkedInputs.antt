-- Whole inputs, worked by hand.
use Rattle.std.proofs.Common.{◌≡◌, ℕ, List, [], ◌∷◌, ◌++◌, take, Some, None, Ok, Err, refl}
use Rattle.std.specs.Prelude.{codes}
use Rattle.std.specs.Fmt.{digits}
use Rattle.protocol_lang.specs.Reading.{reading, run, one_token, next_token}
use Rattle.protocol_lang.specs.Trees.{Named}
use Rattle.protocol_lang.specs.declared.tree.Name.TheVariants as names
use Rattle.protocol_lang.specs.declared.tree.Kind.TheVariants as kinds
use Rattle.room_spec.specs.Rooms.{RoomSpec}
use Rattle.room_spec.specs.declared.version.Version.TheVariants.{One, Two}
use Rattle.room_spec.specs.Blocks.{body_len, fuses_from, reduction_in, room_in}
use Rattle.transcript.specs.declared.event.Event.TheVariants.{Write, Snap, Decide}
use Rattle.history_checker.specs.Verdicts.{FedEvent}
use Rattle.transcript.specs.declared.fault.LineFault.TheVariants.{BadName}
use Rattle.room_files.specs.Blocks.{Setup}
use Rattle.room_files.specs.Inputs.{all_blocks, all_blocks_from, blocks_from, fed_from, input_says}
use Rattle.room_files.specs.declared.kinds.Kinds.TheVariants.{Ordinary, All}
use Rattle.room_files.specs.declared.fault.TextFault.TheVariants.{BadEvent, NoRoom, NoEvents}

abbrev one : List ℕ
one = codes "bgsim 1\nroom one\ninputs 5\nsimulators 1\nrounds 1\nturns 10\nprotocol\nfirst input;\nelse decide mine;\nend\n"

abbrev room_one : RoomSpec
room_one = record {
  version = One;
  name = codes "one";
  inputs = 5 ∷ [];
  own = [];
  simulators = 1;
  rounds = 1;
  turns = 10;
  task = None;
  fuses = [];
  protocol = record { first = Named names.Input; rules = []; last = record { kind = kinds.Decide; value = Named names.Mine } };
}

-- the block has ten lines, and the line `events` is the eleventh
abbrev setup_one : Setup
setup_one = record { rooms = room_one ∷ []; refused = []; line = 12 }

abbrev fed_one : List FedEvent
fed_one =
    record { name = codes "one"; event = Write 0 5; line = 12 }
    ∷ record { name = codes "one"; event = Snap 0 (record { items = Some 5 ∷ [] }); line = 13 }
    ∷ record { name = codes "one"; event = Decide 0 5; line = 14 }
    ∷ []

whole : input_says Ordinary (one ++ codes "events\none 0 write 5\none 0 snap 5\none 0 decide 5\n") ≡ Ok (setup_one, fed_one)
unfolding blocks_from fed_from body_len room_in fuses_from reading run one_token next_token digits
whole = refl

-- the last line may lack its line end
whole_unended : input_says Ordinary (one ++ codes "events\none 0 write 5\none 0 snap 5\none 0 decide 5") ≡ Ok (setup_one, fed_one)
unfolding blocks_from fed_from body_len room_in fuses_from reading run one_token next_token digits
whole_unended = refl

no_events : input_says Ordinary (one ++ codes "events") ≡ Ok (setup_one, [])
unfolding blocks_from fed_from body_len room_in fuses_from reading run one_token next_token digits
no_events = refl

-- a second block of the name is refused on its own first line
twice : input_says Ordinary (one ++ one ++ codes "events\n") ≡ Ok (record { rooms = room_one ∷ []; refused = codes "line 11 refused 41\n"; line = 22 }, [])
unfolding blocks_from fed_from body_len room_in fuses_from reading run one_token next_token digits
twice = refl

-- a bad line is numbered in its block, the block in the input
bad_block : input_says Ordinary (codes "bgsim 1\nroom one\nend\n" ++ one ++ codes "events\none 0 write 5\n")
    ≡ Ok (record { rooms = room_one ∷ []; refused = codes "line 1 refused 11 3\n"; line = 15 }, record { name = codes "one"; event = Write 0 5; line = 15 } ∷ [])
unfolding blocks_from fed_from body_len room_in fuses_from reading run one_token next_token digits
bad_block = refl

-- what ends early has the number behind its last line
nothing : input_says Ordinary [] ≡ Err (1, NoEvents)
unfolding blocks_from fed_from body_len room_in fuses_from reading run one_token next_token digits
nothing = refl

block_alone : input_says Ordinary one ≡ Err (11, NoEvents)
unfolding blocks_from fed_from body_len room_in fuses_from reading run one_token next_token digits
block_alone = refl

block_unended : input_says Ordinary (take 98 one) ≡ Err (11, NoEvents)
unfolding blocks_from fed_from body_len room_in fuses_from reading run one_token next_token digits
block_unended = refl

block_without_end : input_says Ordinary (take 97 one) ≡ Err (10, NoEvents)
unfolding blocks_from fed_from body_len room_in fuses_from reading run one_token next_token digits
block_without_end = refl

-- the first bad event line decides, by its number
bad_line : input_says Ordinary (one ++ codes "events\none 0 write 5\n\none 0 wrote 5\n") ≡ Err (13, BadEvent BadName)
unfolding blocks_from fed_from body_len room_in fuses_from reading run one_token next_token digits
bad_line = refl

unknown_room : input_says Ordinary (codes "events\nother 0 write 5\n") ≡ Err (2, NoRoom)
unfolding blocks_from fed_from body_len room_in fuses_from reading run one_token next_token digits
unknown_room = refl

-- ---- a reduction

-- the block has ten lines, as has that of the ordinary room after it
abbrev shared : List ℕ
shared = codes "reduction 1\nroom shared\ninputs 7 3\nprocesses 3\nrounds 1\nturns 10\nprotocol\nfirst input;\nelse decide mine;\nend\n"

abbrev room_shared : RoomSpec
room_shared = record {
  version = Two;
  name = codes "shared";
  inputs = 7 ∷ 7 ∷ 7 ∷ [];
  own = 7 ∷ 3 ∷ [];
  simulators = 2;
  rounds = 1;
  turns = 10;
  task = None;
  fuses = [];
  protocol = record { first = Named names.Input; rules = []; last = record { kind = kinds.Decide; value = Named names.Mine } };
}

both_kinds : all_blocks All (shared ++ one) ≡ record { rooms = room_shared ∷ room_one ∷ []; refused = []; line = 21 }
unfolding all_blocks_from body_len room_in reduction_in fuses_from reading run one_token next_token digits
both_kinds = refl

-- if only ordinary rooms are read, its first line is a fault
refused_reduction : all_blocks Ordinary (shared ++ one) ≡ record { rooms = room_one ∷ []; refused = codes "line 1 refused 11 1\n"; line = 21 }
unfolding all_blocks_from body_len room_in fuses_from reading run one_token next_token digits
refused_reduction = refl

-- the fault of a reduction's fourth line
no_processes : all_blocks All (codes "reduction 1\nroom shared\ninputs 7 3\nsimulators 3\nend\n") ≡ record { rooms = []; refused = codes "line 1 refused 11 4\n"; line = 6 }
unfolding all_blocks_from body_len room_in reduction_in fuses_from reading run one_token next_token digits
no_processes = refl
