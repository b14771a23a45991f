use Rattle.std.proofs.Common.{◌∙◌, ap, subst, sym}
use Rattle.room_core.specs.Calls.{RoomState}
use Rattle.room_core.specs.Reading.{AreFieldsOf}
use Rattle.ws_history.specs.Reports.{states_of}
use Rattle.room_sample.proofs.run.Scheduled.settled.Goals as goal

pub returns-clause-states : goal.returns-clause-states
returns-clause-states c = λ fields are.
    c.run.ensures.states fields (subst (λ (room : RoomState). AreFieldsOf room fields) (sym c.settle.ensures.room) are)
    ∙ ap (λ (room : RoomState). states_of room.spec fields) c.settle.ensures.room
