use Rattle.std.proofs.Common.{◌∙◌, ap, subst}
use Rattle.simulator.specs.declared.line.Line.{Line}
use Rattle.simulator.specs.declared.line.Line.TheVariants.{Out}
use Rattle.simulator.specs.Minds.{MindState}
use Rattle.simulator.specs.Ranges.{at_line}
use Rattle.simulator.specs.Turns.{decided}
use Rattle.simulator.proofs.Limits.{small}
use Rattle.simulator.proofs.Longer.{runs_on}
use Rattle.simulator.proofs.mind.Mind.take_out.Goals as goal

pub count_step-requires-clause-steps : goal.count_step-requires-clause-steps
count_step-requires-clause-steps g c = (small c.args.room.now.spec.now (at_line (Out c.args.decision) c.args.self.now) c.requires.wants.is_mind).steps

pub count_step-requires-clause-turn_steps : goal.count_step-requires-clause-turn_steps
count_step-requires-clause-turn_steps g c = (small c.args.room.now.spec.now (at_line (Out c.args.decision) c.args.self.now) c.requires.wants.is_mind).turn_steps

pub returns-clause-wants : goal.returns-clause-wants
returns-clause-wants g c =
    let end = c.decide-turn.new.self in
    let mind_is = ap (λ (line : Line). at_line line end) c.current_line.ensures ∙ c.decide-turn.ensures.mind ∙ ap (λ (mind : MindState). (decided c.args.decision mind).mind) c.count_step.ensures in
    (runs_on g.M.Memory.serves g.M.Memory.does g.met.M.Memory.goes_on c.args.room.now.context.now c.args.room.now.spec.now c.args.memory.now c.operate.new.self c.args.self.now end (Out c.args.decision) c.current_line.result c.operate.result c.decide-turn.result c.requires.wants (subst (λ move. g.M.Memory.does c.args.memory.now move c.operate.result c.operate.new.self) c.out_move-store.ensures c.operate.ensures) mind_is c.decide-turn.ensures.turn).wants

pub returns-clause-continues : goal.returns-clause-continues
returns-clause-continues g c =
    let end = c.decide-turn.new.self in
    let mind_is = ap (λ (line : Line). at_line line end) c.current_line.ensures ∙ c.decide-turn.ensures.mind ∙ ap (λ (mind : MindState). (decided c.args.decision mind).mind) c.count_step.ensures in
    (runs_on g.M.Memory.serves g.M.Memory.does g.met.M.Memory.goes_on c.args.room.now.context.now c.args.room.now.spec.now c.args.memory.now c.operate.new.self c.args.self.now end (Out c.args.decision) c.current_line.result c.operate.result c.decide-turn.result c.requires.wants (subst (λ move. g.M.Memory.does c.args.memory.now move c.operate.result c.operate.new.self) c.out_move-store.ensures c.operate.ensures) mind_is c.decide-turn.ensures.turn).continues
