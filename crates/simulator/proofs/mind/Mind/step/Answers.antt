use Rattle.std.proofs.Common.{◌+◌, subst, sym}
use Rattle.simulator.specs.declared.turn.Turn.{Turn}
use Rattle.simulator.specs.Ranges.{at_line}
use Rattle.simulator.specs.Runs.{Continues, Wants}
use Rattle.simulator.proofs.Longer.{continues_on, wants_on}
use Rattle.simulator.proofs.mind.Mind.step.Goals as goal

pub returns-clause-wants : goal.returns-clause-wants
returns-clause-wants g c =
    let line = c.args.run.now.line in
    let wants = subst (λ (t : Turn). Wants g.M.Memory.serves c.args.room.now.context.now c.args.room.now.spec.now c.args.memory.now (at_line line c.args.self.now) t) c.requires.still c.requires.wants in
    wants_on g.M.Memory.serves g.M.Memory.does g.met.M.Memory.goes_on c.args.room.now.context.now c.args.room.now.spec.now c.args.memory.now c.take_step-taken.new.memory c.args.self.now c.take_step-taken.new.self line c.take_step-taken.result.line c.take_step-taken.result.answer c.take_step-taken.result.turn wants c.take_step-taken.ensures.does c.take_step-taken.ensures.mind c.take_step-taken.ensures.turn

pub returns-clause-continues : goal.returns-clause-continues
returns-clause-continues g c =
    let line = c.args.run.now.line in
    let wants = subst (λ (t : Turn). Wants g.M.Memory.serves c.args.room.now.context.now c.args.room.now.spec.now c.args.memory.now (at_line line c.args.self.now) t) c.requires.still c.requires.wants in
    subst (λ (t : Turn). Continues g.M.Memory.does c.args.room.now.spec.now c.args.run.now.count c.args.memory.now (at_line line c.args.self.now) t (c.args.run.now.count + 1) c.take_step-taken.new.memory (at_line c.take_step-taken.result.line c.take_step-taken.new.self) c.take_step-taken.result.turn) (sym c.requires.still)
    (continues_on g.M.Memory.serves g.M.Memory.does g.met.M.Memory.goes_on c.args.room.now.context.now c.args.room.now.spec.now c.args.memory.now c.take_step-taken.new.memory c.args.self.now c.take_step-taken.new.self line c.take_step-taken.result.line c.take_step-taken.result.answer c.take_step-taken.result.turn wants c.take_step-taken.ensures.does c.take_step-taken.ensures.mind c.take_step-taken.ensures.turn c.args.run.now.count)
