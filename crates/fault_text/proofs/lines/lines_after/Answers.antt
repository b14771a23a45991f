use Rattle.std.proofs.Common.{◌∙◌, ◌+◌, ◌-◌, ap}
use Rattle.fault_text.specs.Lines.{lines_after}
use Rattle.fault_text.proofs.Passing.{passed_all, passed_one}
use Rattle.fault_text.proofs.lines.lines_after.Goals as goal

pub loop-preserved : goal.loop-preserved
loop-preserved c =
    ap (lines_after (c.args.lines - (c.loop.counter + 1))) c.split_line.ensures.later
    ∙ passed_one c.args.lines c.loop.counter c.loop.rest.now c.args.text.now c.loop-test.true c.loop.invariant

pub returns : goal.returns
returns c = passed_all c.args.lines c.loop.counter c.loop.rest.now c.args.text.now c.loop-test.false c.loop.invariant
