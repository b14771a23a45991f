use Rattle.simulator.specs.Ranges.{at_line}
use Rattle.simulator.proofs.Onward.{some_taken}
use Rattle.simulator.proofs.mind.Mind.run_with.Goals as goal

pub returns-clause-some : goal.returns-clause-some
returns-clause-some g c =
    let run = c.in_a_row.new.run in
    let runs = c.in_a_row.ensures.continues c.args.memory.now c.args.self.now c.loop-room.invariant.runs in
    some_taken g.M.Memory.does c.args.spec.now c.args.memory.now c.args.self.now run.count c.args.most c.in_a_row.new.memory (at_line run.line c.in_a_row.new.self) run.turn runs (c.goes_on.ensures.off c.if-not-goes_on.true)
