use Rattle.std.proofs.Common.{◌∙◌}
use Rattle.ws_history.proofs.RoomFields.{states_in}
use Rattle.ws_history.proofs.reports.process_states.Goals as goal

pub returns : goal.returns
returns c = λ fields are. c.states_of.ensures ∙ states_in c.args.room.now fields c.shape_of-shape.ensures.limits are
