use Rattle.std.proofs.Common.{sym}
use Rattle.room_spec.proofs.Texts.{pieces_found, pieces_whole}
use Rattle.room_spec.proofs.text.cut_near.Goals as goal

pub returns-clause-pieces : goal.returns-clause-pieces
returns-clause-pieces c = pieces_found _ c.args.text.now c.in-Some.place (sym c.in-Some.ensures)

pub returns-in_default-clause-pieces : goal.returns-in_default-clause-pieces
returns-in_default-clause-pieces c = pieces_whole _ c.args.text.now (sym c.in_default.ensures)
