use Rattle.std.proofs.Common.{◌∙◌, ap, arith, refl}
use Rattle.simulator.specs.declared.line.Line.{Line}
use Rattle.simulator.specs.declared.line.Line.TheVariants.{Ask, Leave, Look}
use Rattle.simulator.specs.Minds.{MindState}
use Rattle.simulator.specs.Ranges.{at_line}
use Rattle.simulator.specs.Turns.{asked, counted}
use Rattle.simulator.proofs.Limits.{small}
use Rattle.simulator.proofs.Proposed.{asked_last, entered, left, leaves, looked, looks}
use Rattle.simulator.proofs.mind.Mind.take_agreement.Goals as goal

pub operate-levels-requires : goal.operate-levels-requires
operate-levels-requires g c =
    let one = entered g.M.Memory.serves g.M.Memory.does g.met.M.Memory.goes_on c.args.room.now.context.now c.args.room.now.spec.now c.args.self.now c.args.part.now c.requires.part c.args.memory.now c.requires.wants c.operate.new.self c.enter.result c.operate.result c.operate.ensures c.enter.ensures in
    (c.args.room.now.spec.now, at_line Look (counted c.args.self.now), one.wants.served, one.wants.is_mind, one.wants.operation refl, c.look.ensures ∙ looks c.args.room.now.spec.now c.args.self.now c.args.part.now c.requires.part)

pub operate-requires-2 : goal.operate-requires-2
operate-requires-2 g c =
    let one = entered g.M.Memory.serves g.M.Memory.does g.met.M.Memory.goes_on c.args.room.now.context.now c.args.room.now.spec.now c.args.self.now c.args.part.now c.requires.part c.args.memory.now c.requires.wants c.operate.new.self c.enter.result c.operate.result c.operate.ensures c.enter.ensures in
    let two = looked g.M.Memory.serves g.M.Memory.does g.met.M.Memory.goes_on c.args.room.now.context.now c.args.room.now.spec.now c.args.self.now c.args.part.now c.requires.part c.args.memory.now c.requires.wants c.operate.new.self c.operate-levels.new.self c.look.result c.operate-levels.result c.m.result c.has_level-saw_two.result one c.operate-levels.ensures c.look.ensures c.m.ensures.value c.has_level-saw_two.ensures in
    (c.args.room.now.spec.now, at_line (Leave c.has_level-saw_two.result) (counted (counted c.args.self.now)), two.wants.served, two.wants.is_mind, two.wants.operation refl, c.leave.ensures ∙ leaves c.args.room.now.spec.now c.args.self.now c.args.part.now c.has_level-saw_two.result c.requires.part)

pub operate-answer-requires : goal.operate-answer-requires
operate-answer-requires g c =
    let one = entered g.M.Memory.serves g.M.Memory.does g.met.M.Memory.goes_on c.args.room.now.context.now c.args.room.now.spec.now c.args.self.now c.args.part.now c.requires.part c.args.memory.now c.requires.wants c.operate.new.self c.enter.result c.operate.result c.operate.ensures c.enter.ensures in
    let two = looked g.M.Memory.serves g.M.Memory.does g.met.M.Memory.goes_on c.args.room.now.context.now c.args.room.now.spec.now c.args.self.now c.args.part.now c.requires.part c.args.memory.now c.requires.wants c.operate.new.self c.operate-levels.new.self c.look.result c.operate-levels.result c.m.result c.has_level-saw_two.result one c.operate-levels.ensures c.look.ensures c.m.ensures.value c.has_level-saw_two.ensures in
    let three = left g.M.Memory.serves g.M.Memory.does g.met.M.Memory.goes_on c.args.room.now.context.now c.args.room.now.spec.now c.args.self.now c.args.part.now c.requires.part c.args.memory.now c.requires.wants c.operate-levels.new.self c.operate-2.new.self c.leave.result c.operate-2.result c.has_level-saw_two.result two c.operate-2.ensures c.leave.ensures in
    (c.args.room.now.spec.now, at_line Ask (counted (counted (counted c.args.self.now))), three.wants.served, three.wants.is_mind, three.wants.operation refl, c.look-2.ensures ∙ looks c.args.room.now.spec.now c.args.self.now c.args.part.now c.requires.part)

pub count_steps-requires-clause-steps : goal.count_steps-requires-clause-steps
count_steps-requires-clause-steps g c =
    let one = entered g.M.Memory.serves g.M.Memory.does g.met.M.Memory.goes_on c.args.room.now.context.now c.args.room.now.spec.now c.args.self.now c.args.part.now c.requires.part c.args.memory.now c.requires.wants c.operate.new.self c.enter.result c.operate.result c.operate.ensures c.enter.ensures in
    let two = looked g.M.Memory.serves g.M.Memory.does g.met.M.Memory.goes_on c.args.room.now.context.now c.args.room.now.spec.now c.args.self.now c.args.part.now c.requires.part c.args.memory.now c.requires.wants c.operate.new.self c.operate-levels.new.self c.look.result c.operate-levels.result c.m.result c.has_level-saw_two.result one c.operate-levels.ensures c.look.ensures c.m.ensures.value c.has_level-saw_two.ensures in
    let three = left g.M.Memory.serves g.M.Memory.does g.met.M.Memory.goes_on c.args.room.now.context.now c.args.room.now.spec.now c.args.self.now c.args.part.now c.requires.part c.args.memory.now c.requires.wants c.operate-levels.new.self c.operate-2.new.self c.leave.result c.operate-2.result c.has_level-saw_two.result two c.operate-2.ensures c.leave.ensures in
    let few = small c.args.room.now.spec.now (at_line Ask (counted (counted (counted c.args.self.now)))) three.wants.is_mind in
    omega (arith, few.steps)

pub count_steps-requires-clause-turn_steps : goal.count_steps-requires-clause-turn_steps
count_steps-requires-clause-turn_steps g c =
    let one = entered g.M.Memory.serves g.M.Memory.does g.met.M.Memory.goes_on c.args.room.now.context.now c.args.room.now.spec.now c.args.self.now c.args.part.now c.requires.part c.args.memory.now c.requires.wants c.operate.new.self c.enter.result c.operate.result c.operate.ensures c.enter.ensures in
    let two = looked g.M.Memory.serves g.M.Memory.does g.met.M.Memory.goes_on c.args.room.now.context.now c.args.room.now.spec.now c.args.self.now c.args.part.now c.requires.part c.args.memory.now c.requires.wants c.operate.new.self c.operate-levels.new.self c.look.result c.operate-levels.result c.m.result c.has_level-saw_two.result one c.operate-levels.ensures c.look.ensures c.m.ensures.value c.has_level-saw_two.ensures in
    let three = left g.M.Memory.serves g.M.Memory.does g.met.M.Memory.goes_on c.args.room.now.context.now c.args.room.now.spec.now c.args.self.now c.args.part.now c.requires.part c.args.memory.now c.requires.wants c.operate-levels.new.self c.operate-2.new.self c.leave.result c.operate-2.result c.has_level-saw_two.result two c.operate-2.ensures c.leave.ensures in
    let few = small c.args.room.now.spec.now (at_line Ask (counted (counted (counted c.args.self.now)))) three.wants.is_mind in
    omega (arith, few.turn_steps)

pub returns-clause-wants : goal.returns-clause-wants
returns-clause-wants g c =
    let one = entered g.M.Memory.serves g.M.Memory.does g.met.M.Memory.goes_on c.args.room.now.context.now c.args.room.now.spec.now c.args.self.now c.args.part.now c.requires.part c.args.memory.now c.requires.wants c.operate.new.self c.enter.result c.operate.result c.operate.ensures c.enter.ensures in
    let two = looked g.M.Memory.serves g.M.Memory.does g.met.M.Memory.goes_on c.args.room.now.context.now c.args.room.now.spec.now c.args.self.now c.args.part.now c.requires.part c.args.memory.now c.requires.wants c.operate.new.self c.operate-levels.new.self c.look.result c.operate-levels.result c.m.result c.has_level-saw_two.result one c.operate-levels.ensures c.look.ensures c.m.ensures.value c.has_level-saw_two.ensures in
    let three = left g.M.Memory.serves g.M.Memory.does g.met.M.Memory.goes_on c.args.room.now.context.now c.args.room.now.spec.now c.args.self.now c.args.part.now c.requires.part c.args.memory.now c.requires.wants c.operate-levels.new.self c.operate-2.new.self c.leave.result c.operate-2.result c.has_level-saw_two.result two c.operate-2.ensures c.leave.ensures in
    let end = c.ask_view-turn.new.self in
    let mind_is = ap (λ (line : Line). at_line line end) c.current_line.ensures ∙ c.ask_view-turn.ensures.mind ∙ ap (λ (mind : MindState). (asked c.chosen_in.result mind).mind) c.count_steps.ensures in
    let turn_is = c.ask_view-turn.ensures.turn ∙ ap (λ (mind : MindState). (asked c.chosen_in.result mind).turn) c.count_steps.ensures in
    let four = asked_last g.M.Memory.serves g.M.Memory.does g.met.M.Memory.goes_on c.args.room.now.context.now c.args.room.now.spec.now c.args.self.now c.args.part.now c.requires.part c.args.memory.now c.requires.wants c.operate-2.new.self c.operate-answer.new.self c.look-2.result c.operate-answer.result end c.chosen_in.result c.ask_view-turn.result c.current_line.result three c.operate-answer.ensures c.look-2.ensures c.chosen_in.ensures mind_is turn_is in
    four.wants

pub returns-clause-continues : goal.returns-clause-continues
returns-clause-continues g c =
    let one = entered g.M.Memory.serves g.M.Memory.does g.met.M.Memory.goes_on c.args.room.now.context.now c.args.room.now.spec.now c.args.self.now c.args.part.now c.requires.part c.args.memory.now c.requires.wants c.operate.new.self c.enter.result c.operate.result c.operate.ensures c.enter.ensures in
    let two = looked g.M.Memory.serves g.M.Memory.does g.met.M.Memory.goes_on c.args.room.now.context.now c.args.room.now.spec.now c.args.self.now c.args.part.now c.requires.part c.args.memory.now c.requires.wants c.operate.new.self c.operate-levels.new.self c.look.result c.operate-levels.result c.m.result c.has_level-saw_two.result one c.operate-levels.ensures c.look.ensures c.m.ensures.value c.has_level-saw_two.ensures in
    let three = left g.M.Memory.serves g.M.Memory.does g.met.M.Memory.goes_on c.args.room.now.context.now c.args.room.now.spec.now c.args.self.now c.args.part.now c.requires.part c.args.memory.now c.requires.wants c.operate-levels.new.self c.operate-2.new.self c.leave.result c.operate-2.result c.has_level-saw_two.result two c.operate-2.ensures c.leave.ensures in
    let end = c.ask_view-turn.new.self in
    let mind_is = ap (λ (line : Line). at_line line end) c.current_line.ensures ∙ c.ask_view-turn.ensures.mind ∙ ap (λ (mind : MindState). (asked c.chosen_in.result mind).mind) c.count_steps.ensures in
    let turn_is = c.ask_view-turn.ensures.turn ∙ ap (λ (mind : MindState). (asked c.chosen_in.result mind).turn) c.count_steps.ensures in
    let four = asked_last g.M.Memory.serves g.M.Memory.does g.met.M.Memory.goes_on c.args.room.now.context.now c.args.room.now.spec.now c.args.self.now c.args.part.now c.requires.part c.args.memory.now c.requires.wants c.operate-2.new.self c.operate-answer.new.self c.look-2.result c.operate-answer.result end c.chosen_in.result c.ask_view-turn.result c.current_line.result three c.operate-answer.ensures c.look-2.ensures c.chosen_in.ensures mind_is turn_is in
    four.continues
