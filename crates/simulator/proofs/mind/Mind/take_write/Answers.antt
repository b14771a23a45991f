use Rattle.std.proofs.Common.{◌∙◌, ℕ, ◌+◌, ap, refl, subst, sym}
use Rattle.simulator.specs.declared.line.Line.TheVariants.{Raise, Rest, Snap}
use Rattle.simulator.specs.declared.turn.Turn.TheVariants.{Still}
use Rattle.simulator.specs.Minds.{MindState}
use Rattle.simulator.specs.Ranges.{at_line}
use Rattle.simulator.specs.Runs.{Continues, Wants}
use Rattle.simulator.specs.Turns.{counted_by}
use Rattle.simulator.proofs.Onward.{move_aside}
use Rattle.simulator.proofs.Proposed.{after_two, raised, raises, stored, stored_mind, stores}
use Rattle.simulator.proofs.mind.Mind.take_write.Goals as goal

pub operate-requires : goal.operate-requires
operate-requires g c =
    (c.args.room.now.spec.now, at_line Rest c.args.self.now, c.requires.wants.served, c.requires.wants.is_mind, c.requires.wants.operation refl, c.write.ensures ∙ stores g.M.Memory.serves g.M.Memory.does g.met.M.Memory.goes_on c.args.room.now.context.now c.args.room.now.spec.now c.args.self.now c.args.part.now c.args.value c.requires.process c.requires.goal c.requires.simulator c.requires.sizes c.args.memory.now c.requires.wants ∙ sym (move_aside Rest c.args.room.now.spec.now c.args.self.now))

pub operate-requires-2 : goal.operate-requires-2
operate-requires-2 g c =
    let one = stored g.M.Memory.serves g.M.Memory.does g.met.M.Memory.goes_on c.args.room.now.context.now c.args.room.now.spec.now c.args.self.now c.args.part.now c.args.value c.requires.process c.requires.goal c.requires.simulator c.requires.sizes c.args.memory.now c.requires.wants c.operate.new.self c.write.result c.operate.result c.operate.ensures c.write.ensures in
    (c.args.room.now.spec.now, at_line Raise (stored_mind g.M.Memory.serves g.M.Memory.does g.met.M.Memory.goes_on c.args.room.now.context.now c.args.room.now.spec.now c.args.self.now c.args.part.now c.args.value c.requires.process c.requires.goal c.requires.simulator c.requires.sizes c.args.memory.now c.requires.wants), one.wants.served, one.wants.is_mind, one.wants.operation refl, c.raise.ensures ∙ raises g.M.Memory.serves g.M.Memory.does g.met.M.Memory.goes_on c.args.room.now.context.now c.args.room.now.spec.now c.args.self.now c.args.part.now c.args.value c.requires.process c.requires.goal c.requires.simulator c.requires.sizes c.args.memory.now c.requires.wants)

pub returns-clause-wants : goal.returns-clause-wants
returns-clause-wants g c =
    let one = stored g.M.Memory.serves g.M.Memory.does g.met.M.Memory.goes_on c.args.room.now.context.now c.args.room.now.spec.now c.args.self.now c.args.part.now c.args.value c.requires.process c.requires.goal c.requires.simulator c.requires.sizes c.args.memory.now c.requires.wants c.operate.new.self c.write.result c.operate.result c.operate.ensures c.write.ensures in
    let two = raised g.M.Memory.serves g.M.Memory.does g.met.M.Memory.goes_on c.args.room.now.context.now c.args.room.now.spec.now c.args.self.now c.args.part.now c.args.value c.requires.process c.requires.goal c.requires.simulator c.requires.sizes c.args.memory.now c.requires.wants c.operate.new.self c.operate-2.new.self c.raise.result c.operate-2.result one c.operate-2.ensures c.raise.ensures in
    let ended = c.count_steps.ensures ∙ ap (λ (mind : MindState). counted_by 2 mind) c.begin_on.ensures ∙ after_two g.M.Memory.serves g.M.Memory.does g.met.M.Memory.goes_on c.args.room.now.context.now c.args.room.now.spec.now c.args.self.now c.args.part.now c.args.value c.requires.process c.requires.goal c.requires.simulator c.requires.sizes c.args.memory.now c.requires.wants in
    subst (λ (mind : MindState). Wants g.M.Memory.serves c.args.room.now.context.now c.args.room.now.spec.now c.operate-2.new.self (at_line Snap mind) Still) (sym ended) two.wants

pub returns-clause-continues : goal.returns-clause-continues
returns-clause-continues g c =
    let one = stored g.M.Memory.serves g.M.Memory.does g.met.M.Memory.goes_on c.args.room.now.context.now c.args.room.now.spec.now c.args.self.now c.args.part.now c.args.value c.requires.process c.requires.goal c.requires.simulator c.requires.sizes c.args.memory.now c.requires.wants c.operate.new.self c.write.result c.operate.result c.operate.ensures c.write.ensures in
    let two = raised g.M.Memory.serves g.M.Memory.does g.met.M.Memory.goes_on c.args.room.now.context.now c.args.room.now.spec.now c.args.self.now c.args.part.now c.args.value c.requires.process c.requires.goal c.requires.simulator c.requires.sizes c.args.memory.now c.requires.wants c.operate.new.self c.operate-2.new.self c.raise.result c.operate-2.result one c.operate-2.ensures c.raise.ensures in
    let ended = c.count_steps.ensures ∙ ap (λ (mind : MindState). counted_by 2 mind) c.begin_on.ensures ∙ after_two g.M.Memory.serves g.M.Memory.does g.met.M.Memory.goes_on c.args.room.now.context.now c.args.room.now.spec.now c.args.self.now c.args.part.now c.args.value c.requires.process c.requires.goal c.requires.simulator c.requires.sizes c.args.memory.now c.requires.wants in
    subst (λ (mind : MindState). (count : ℕ) → Continues g.M.Memory.does c.args.room.now.spec.now count c.args.memory.now (at_line Rest c.args.self.now) Still (count + 2) c.operate-2.new.self (at_line Snap mind) Still) (sym ended) two.continues
