use Rattle.std.proofs.Common.{sym}
use Rattle.room_spec.proofs.Texts.{pieces_found, pieces_whole}
use Rattle.room_spec.proofs.text.cut.Goals as goal

pub returns-in-Some-clause-pieces : goal.returns-in-Some-clause-pieces
returns-in-Some-clause-pieces c = pieces_found _ c.args.text.now c.in-Some.place (sym c.in-Some.ensures)

pub returns-in-None-clause-pieces : goal.returns-in-None-clause-pieces
returns-in-None-clause-pieces c = pieces_whole _ c.args.text.now (sym c.in-None.ensures)
