use Rattle.std.proofs.lemmas.Grind.{common_steps}
use Rattle.std.proofs.Common.{arith}
use Rattle.protocol_lang.proofs.piece.Piece.operate.Goals as goal

pub returns : goal.returns
returns c = grind (arith, common_steps)
