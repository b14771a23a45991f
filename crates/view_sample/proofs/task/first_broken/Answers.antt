use Rattle.std.proofs.Common.{rules, sym}
use Rattle.room_sample.specs.Samples.{counted_of}
use Rattle.view_sample.proofs.Breaking.{is_first, passed_over}
use Rattle.view_sample.proofs.task.first_broken.Goals as goal

pub returns-then-not-keeps_task : goal.returns-then-not-keeps_task
returns-then-not-keeps_task c =
    is_first c.args.spec.now c.args.outcomes.now c.loop-index.index (counted_of (c.in-Some.states.now, c.in-Some.outcome.now)) (sym c.in-Some.ensures)
    (search rules) c.loop-index.invariant

pub loop-index-preserved : goal.loop-index-preserved
loop-index-preserved c =
    passed_over c.args.spec.now c.args.outcomes.now c.loop-index.index (counted_of (c.in-Some.states.now, c.in-Some.outcome.now)) (sym c.in-Some.ensures)
    (search rules) c.loop-index.invariant
