use Rattle.std.proofs.Common.{◌≡◌, take}
use Rattle.protocol_lang.specs.Formulas.{held_after}
use Rattle.protocol_lang.specs.Printing.{pieces}
use Rattle.protocol_lang.proofs.piece.piece_by.Given as goal

abbrev pub invariant-loop-opcode : goal.invariant-loop-opcode
invariant-loop-opcode l = l.held ≡ held_after pieces (take l.opcode-index l.code)
