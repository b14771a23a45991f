use Rattle.std.proofs.Common.{◌∙◌}
use Rattle.room_search.proofs.Steps.{step_of}
use Rattle.room_search.proofs.stepping.after_step.Goals as goal

pub returns : goal.returns
returns c =
    let done = c.in-Some.ensures in
    step_of c.args.subject.now.spec.now c.args.i c.args.local.now c.knowing-mind.result c.take.new.self c.next_move-next.result c.in-Some.answer c.args.said.now (record { known = c.knowledge.result; said = c.pass_on.new.said }) c.in_ok-said.said c.operate.new.self
    c.knowing-mind.ensures c.next_move-next.ensures.value c.if-not-is_operation.ensures c.in_ok-said.ensures.shown (c.in_ok-said.ensures.own ∙ c.deref.ensures.value)
    (record { answer_is = done.answer; words = done.words; own = done.own; stays = done.stays; are = c.operate.ensures.said; more = c.pass_on.ensures })
    c.take.ensures.mind c.take.ensures.is_mind c.knowledge.ensures
