use Rattle.std.proofs.Common.{rules}
use Rattle.protocol_lang.proofs.piece.Piece.on_left.Goals as goal

pub returns : goal.returns
returns c = search rules
