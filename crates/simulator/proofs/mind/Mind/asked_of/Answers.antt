use Rattle.simulator.specs.Ranges.{at_line}
use Rattle.simulator.proofs.Limits.{small}
use Rattle.simulator.proofs.mind.Mind.asked_of.Goals as goal

pub count_step-requires-clause-steps : goal.count_step-requires-clause-steps
count_step-requires-clause-steps g c = (small c.args.room.now.spec.now (at_line c.args.line c.args.self.now) c.requires.is_mind).steps

pub count_step-requires-clause-turn_steps : goal.count_step-requires-clause-turn_steps
count_step-requires-clause-turn_steps g c = (small c.args.room.now.spec.now (at_line c.args.line c.args.self.now) c.requires.is_mind).turn_steps
