use Rattle.std.proofs.lemmas.Grind.{common_steps}
use Rattle.std.proofs.Common.{arith}
use Rattle.protocol_lang.proofs.piece.piece_by.Goals as goal

pub loop-opcode-preserved : goal.loop-opcode-preserved
loop-opcode-preserved c = grind (arith, common_steps)

pub returns : goal.returns
returns c = grind (arith, common_steps)
