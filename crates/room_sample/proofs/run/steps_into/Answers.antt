use Rattle.std.proofs.Common.{rules}
use Rattle.room_sample.proofs.Entering.{enters, one_step_more}
use Rattle.room_sample.proofs.run.steps_into.Goals as goal

pub returns-then-has_entered : goal.returns-then-has_entered
returns-then-has_entered c =
    enters c.args.room.now c.args.i c.args.most c.loop-taken.taken c.steps.result c.loop-taken.room c.steps.new.self c.loop-taken.invariant c.loop-taken-test.true c.if-steps-eq0.false c.steps.ensures.most c.steps.ensures.room c.steps.ensures.taken (search rules)

pub loop-taken-preserved : goal.loop-taken-preserved
loop-taken-preserved c =
    one_step_more c.args.room.now c.args.i c.loop-taken.taken c.steps.result c.loop-taken.room c.steps.new.self c.loop-taken.invariant c.if-steps-eq0.false c.steps.ensures.most c.steps.ensures.room c.steps.ensures.taken (search rules)
