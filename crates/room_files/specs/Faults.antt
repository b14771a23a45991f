-- The faults of an input's lines and blocks: their numbers, and what they say.
use Rattle.std.specs.Prelude.{ℕ, List, codes}
use Rattle.room_spec.specs.Faults.{sentence_of as spec_sentence}
use Rattle.transcript.specs.Faults.{code_of as line_code, sentence_of as line_sentence}
use Rattle.history_checker.specs.Verdicts.{add_sentence, no_room_sentence}
use Rattle.history_checker.specs.declared.fault.AddFault.TheVariants as adding
use Rattle.history_checker.specs.declared.fault.FeedFault.{FeedFault}
use Rattle.history_checker.specs.declared.fault.FeedFault.TheVariants as feeding
use Rattle.room_files.specs.declared.fault.BlockFault.{BlockFault}
use Rattle.room_files.specs.declared.fault.BlockFault.TheVariants as blocks
use Rattle.room_files.specs.declared.fault.TextFault.{TextFault}
use Rattle.room_files.specs.declared.fault.TextFault.TheVariants.{BadEvent, NoRoom, NoCommand, NoEvents}

abbrev pub text_code : TextFault → ℕ
text_code (BadEvent fault) = line_code fault
text_code NoRoom = 40
text_code NoCommand = 60
text_code NoEvents = 61

unfoldable pub text_sentence : TextFault → List ℕ
text_sentence (BadEvent fault) = line_sentence fault
text_sentence NoRoom = no_room_sentence
text_sentence NoCommand = codes "the line is no command of a script"
text_sentence NoEvents = codes "the input ends before the line `events`"

-- the fault of a line that was not fed
abbrev pub of_fed : FeedFault → TextFault
of_fed (feeding.BadLine fault) = BadEvent fault
of_fed (feeding.NoRoom none) = NoRoom

-- why a block opens no room
unfoldable pub block_sentence : BlockFault → List ℕ
block_sentence (blocks.Spec fault) = spec_sentence fault
block_sentence blocks.NameTaken = add_sentence adding.NameTaken

-- a fault, and the number of its line
abbrev pub FaultAt : Type 0
FaultAt = ℕ × TextFault
