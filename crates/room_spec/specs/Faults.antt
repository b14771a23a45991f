-- The numbers of the faults of a room block, and what they say.
use Rattle.std.specs.Prelude.{ℕ, List, codes}
use Rattle.room_spec.specs.declared.fault.SpecFault.{SpecFault}
use Rattle.room_spec.specs.declared.fault.SpecFault.TheVariants.{Truncated, BadLine, BadName, BadProtocol, Inputs, Simulators, Rounds, Turns, TooWide, CrashLine, Repeated, TaskLine, Processes}

abbrev pub code_of : SpecFault → ℕ
code_of Truncated = 10
code_of (BadLine line) = 11
code_of BadName = 12
code_of (BadProtocol fault) = 13
code_of Inputs = 14
code_of Simulators = 15
code_of Rounds = 16
code_of Turns = 17
code_of TooWide = 18
code_of (CrashLine line) = 19
code_of (Repeated line) = 20
code_of (TaskLine line) = 21
code_of Processes = 22

unfoldable pub sentence_of : SpecFault → List ℕ
sentence_of Truncated = codes "the block has no line `end`"
sentence_of (BadLine line) = codes "the line does not have the form that a block needs here"
sentence_of BadName = codes "`room` is followed by no valid name"
sentence_of (BadProtocol fault) = codes "the protocol's text has a fault"
sentence_of Inputs = codes "there are no inputs, more than 16 or in a reduction 8, or one above 4294967295"
sentence_of Simulators = codes "the number of simulators is not 1 to 8"
sentence_of Rounds = codes "the number of rounds is not 1 to 15"
sentence_of Turns = codes "the number of turns is not 1 to 65535"
sentence_of TooWide = codes "the step numbers need more than 64 bits, or in version 2 more than 256"
sentence_of (CrashLine line) = codes "`crash` needs a simulator of the room, `after`, and a number up to 4294967295"
sentence_of (Repeated line) = codes "the simulator has a `crash` line already"
sentence_of (TaskLine line) = codes "`task` needs `agree` and a number from 1 to 16"
sentence_of Processes = codes "the number of processes is not 1 to 16"
