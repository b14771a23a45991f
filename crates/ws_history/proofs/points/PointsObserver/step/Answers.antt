use Rattle.std.proofs.Common.{◌∙◌, sym, ap}
use Rattle.room_core.specs.Calls.{RoomState}
use Rattle.ws_history.specs.Noting.{noted}
use Rattle.ws_history.proofs.Noted.{seen_step, unseen_step}
use Rattle.ws_history.proofs.points.PointsObserver.step.Goals as goal

pub returns-in-Some-clause-seen : goal.returns-in-Some-clause-seen
returns-in-Some-clause-seen c = λ stepped.
    seen_step c.args.room.now c.args.i c.args.self.now c.note.new.self c.in-Some.before c.shape_of-shape.ensures.limits (sym c.step-reply.ensures.reply ∙ stepped)
    (sym c.look-before.ensures.value ∙ c.in-Some.is)
    (c.note.ensures ∙ ap (λ (room : RoomState). noted room c.args.i c.in-Some.before c.args.self.now) c.step-reply.ensures.room)

pub returns-in_default-clause-seen : goal.returns-in_default-clause-seen
returns-in_default-clause-seen c = λ stepped.
    unseen_step c.args.room.now c.args.i c.args.self.now c.shape_of-shape.ensures.limits (sym c.step-reply.ensures.reply ∙ stepped) (sym c.look-before.ensures.value ∙ c.in_default.is)
