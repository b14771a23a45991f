use Rattle.std.proofs.Common.{◌∙◌}
use Rattle.ws_history.proofs.RoomFields.{unreadable_in}
use Rattle.ws_history.proofs.unreadable.unreadable_agreement.Goals as goal

pub returns : goal.returns
returns c = λ fields are. c.unreadable_in.ensures ∙ unreadable_in c.args.room.now fields c.shape_of-shape.ensures.limits are c.args.j c.args.k
