use Rattle.std.proofs.Common.{◌∙◌, ap, refl, sym}
use Rattle.simulator.specs.declared.line.Line.TheVariants.{Raise, Rest, Show, Snap}
use Rattle.simulator.specs.Minds.{MindState}
use Rattle.simulator.specs.Ranges.{at_line}
use Rattle.simulator.specs.Turns.{begun, counted_by}
use Rattle.simulator.proofs.Onward.{move_aside}
use Rattle.simulator.proofs.Proposed.{loaded_mind, loads, raised, raised_mind, raises, shown, shows, snaps, stored, stored_mind, stores}
use Rattle.simulator.proofs.mind.Mind.take_opening.Goals as goal

pub operate-requires : goal.operate-requires
operate-requires g c =
    (c.args.room.now.spec.now, at_line Rest c.args.self.now, c.requires.wants.served, c.requires.wants.is_mind, c.requires.wants.operation refl, c.write.ensures ∙ stores g.M.Memory.serves g.M.Memory.does g.met.M.Memory.goes_on c.args.room.now.context.now c.args.room.now.spec.now c.args.self.now c.args.part.now c.args.value c.requires.process c.requires.goal c.requires.simulator c.requires.sizes c.args.memory.now c.requires.wants ∙ sym (move_aside Rest c.args.room.now.spec.now c.args.self.now))

pub operate-requires-2 : goal.operate-requires-2
operate-requires-2 g c =
    let one = stored g.M.Memory.serves g.M.Memory.does g.met.M.Memory.goes_on c.args.room.now.context.now c.args.room.now.spec.now c.args.self.now c.args.part.now c.args.value c.requires.process c.requires.goal c.requires.simulator c.requires.sizes c.args.memory.now c.requires.wants c.operate.new.self c.write.result c.operate.result c.operate.ensures c.write.ensures in
    (c.args.room.now.spec.now, at_line Raise (stored_mind g.M.Memory.serves g.M.Memory.does g.met.M.Memory.goes_on c.args.room.now.context.now c.args.room.now.spec.now c.args.self.now c.args.part.now c.args.value c.requires.process c.requires.goal c.requires.simulator c.requires.sizes c.args.memory.now c.requires.wants), one.wants.served, one.wants.is_mind, one.wants.operation refl, c.raise.ensures ∙ raises g.M.Memory.serves g.M.Memory.does g.met.M.Memory.goes_on c.args.room.now.context.now c.args.room.now.spec.now c.args.self.now c.args.part.now c.args.value c.requires.process c.requires.goal c.requires.simulator c.requires.sizes c.args.memory.now c.requires.wants)

pub operate-word-requires : goal.operate-word-requires
operate-word-requires g c =
    let one = stored g.M.Memory.serves g.M.Memory.does g.met.M.Memory.goes_on c.args.room.now.context.now c.args.room.now.spec.now c.args.self.now c.args.part.now c.args.value c.requires.process c.requires.goal c.requires.simulator c.requires.sizes c.args.memory.now c.requires.wants c.operate.new.self c.write.result c.operate.result c.operate.ensures c.write.ensures in
    let two = raised g.M.Memory.serves g.M.Memory.does g.met.M.Memory.goes_on c.args.room.now.context.now c.args.room.now.spec.now c.args.self.now c.args.part.now c.args.value c.requires.process c.requires.goal c.requires.simulator c.requires.sizes c.args.memory.now c.requires.wants c.operate.new.self c.operate-2.new.self c.raise.result c.operate-2.result one c.operate-2.ensures c.raise.ensures in
    (c.args.room.now.spec.now, at_line Snap (raised_mind g.M.Memory.serves g.M.Memory.does g.met.M.Memory.goes_on c.args.room.now.context.now c.args.room.now.spec.now c.args.self.now c.args.part.now c.args.value c.requires.process c.requires.goal c.requires.simulator c.requires.sizes c.args.memory.now c.requires.wants), two.wants.served, two.wants.is_mind, two.wants.operation refl, c.snap.ensures ∙ snaps g.M.Memory.serves g.M.Memory.does g.met.M.Memory.goes_on c.args.room.now.context.now c.args.room.now.spec.now c.args.self.now c.args.part.now c.args.value c.requires.one c.requires.process c.requires.goal c.requires.simulator c.requires.sizes c.args.memory.now c.requires.wants)

pub operate-requires-3 : goal.operate-requires-3
operate-requires-3 g c =
    let one = stored g.M.Memory.serves g.M.Memory.does g.met.M.Memory.goes_on c.args.room.now.context.now c.args.room.now.spec.now c.args.self.now c.args.part.now c.args.value c.requires.process c.requires.goal c.requires.simulator c.requires.sizes c.args.memory.now c.requires.wants c.operate.new.self c.write.result c.operate.result c.operate.ensures c.write.ensures in
    let two = raised g.M.Memory.serves g.M.Memory.does g.met.M.Memory.goes_on c.args.room.now.context.now c.args.room.now.spec.now c.args.self.now c.args.part.now c.args.value c.requires.process c.requires.goal c.requires.simulator c.requires.sizes c.args.memory.now c.requires.wants c.operate.new.self c.operate-2.new.self c.raise.result c.operate-2.result one c.operate-2.ensures c.raise.ensures in
    let three = loads g.M.Memory.serves g.M.Memory.does g.met.M.Memory.goes_on c.args.room.now.context.now c.args.room.now.spec.now c.args.self.now c.args.part.now c.args.value c.requires.one c.requires.process c.requires.goal c.requires.simulator c.requires.sizes c.args.memory.now c.requires.wants c.operate-2.new.self c.operate-word.new.self c.snap.result c.operate-word.result two c.operate-word.ensures c.snap.ensures in
    (c.args.room.now.spec.now, at_line Show (loaded_mind g.M.Memory.serves g.M.Memory.does g.met.M.Memory.goes_on c.args.room.now.context.now c.args.room.now.spec.now c.args.self.now c.args.part.now c.args.value c.requires.one c.requires.process c.requires.goal c.requires.simulator c.requires.sizes c.args.memory.now c.requires.wants c.operate-word.result), three.wants.served, three.wants.is_mind, three.wants.operation refl, c.show.ensures ∙ shows g.M.Memory.serves g.M.Memory.does g.met.M.Memory.goes_on c.args.room.now.context.now c.args.room.now.spec.now c.args.self.now c.args.part.now c.args.value c.requires.one c.requires.process c.requires.goal c.requires.simulator c.requires.sizes c.args.memory.now c.requires.wants c.operate-word.result)

pub returns-clause-wants : goal.returns-clause-wants
returns-clause-wants g c =
    let one = stored g.M.Memory.serves g.M.Memory.does g.met.M.Memory.goes_on c.args.room.now.context.now c.args.room.now.spec.now c.args.self.now c.args.part.now c.args.value c.requires.process c.requires.goal c.requires.simulator c.requires.sizes c.args.memory.now c.requires.wants c.operate.new.self c.write.result c.operate.result c.operate.ensures c.write.ensures in
    let two = raised g.M.Memory.serves g.M.Memory.does g.met.M.Memory.goes_on c.args.room.now.context.now c.args.room.now.spec.now c.args.self.now c.args.part.now c.args.value c.requires.process c.requires.goal c.requires.simulator c.requires.sizes c.args.memory.now c.requires.wants c.operate.new.self c.operate-2.new.self c.raise.result c.operate-2.result one c.operate-2.ensures c.raise.ensures in
    let three = loads g.M.Memory.serves g.M.Memory.does g.met.M.Memory.goes_on c.args.room.now.context.now c.args.room.now.spec.now c.args.self.now c.args.part.now c.args.value c.requires.one c.requires.process c.requires.goal c.requires.simulator c.requires.sizes c.args.memory.now c.requires.wants c.operate-2.new.self c.operate-word.new.self c.snap.result c.operate-word.result two c.operate-word.ensures c.snap.ensures in
    let at = c.args.part.now.process in
    let ended = c.count_steps.ensures ∙ ap (λ (mind : MindState). counted_by 4 mind) c.begin_on.ensures ∙ ap (λ (mind : MindState). counted_by 4 (begun at mind)) c.put_word.ensures in
    let four = shown g.M.Memory.serves g.M.Memory.does g.met.M.Memory.goes_on c.args.room.now.context.now c.args.room.now.spec.now c.args.self.now c.args.part.now c.args.value c.requires.one c.requires.process c.requires.goal c.requires.simulator c.requires.sizes c.args.memory.now c.requires.wants c.operate-word.new.self c.operate-3.new.self c.show.result c.operate-word.result c.operate-3.result c.count_steps.new.self three c.operate-3.ensures c.show.ensures ended in
    four.wants

pub returns-clause-continues : goal.returns-clause-continues
returns-clause-continues g c =
    let one = stored g.M.Memory.serves g.M.Memory.does g.met.M.Memory.goes_on c.args.room.now.context.now c.args.room.now.spec.now c.args.self.now c.args.part.now c.args.value c.requires.process c.requires.goal c.requires.simulator c.requires.sizes c.args.memory.now c.requires.wants c.operate.new.self c.write.result c.operate.result c.operate.ensures c.write.ensures in
    let two = raised g.M.Memory.serves g.M.Memory.does g.met.M.Memory.goes_on c.args.room.now.context.now c.args.room.now.spec.now c.args.self.now c.args.part.now c.args.value c.requires.process c.requires.goal c.requires.simulator c.requires.sizes c.args.memory.now c.requires.wants c.operate.new.self c.operate-2.new.self c.raise.result c.operate-2.result one c.operate-2.ensures c.raise.ensures in
    let three = loads g.M.Memory.serves g.M.Memory.does g.met.M.Memory.goes_on c.args.room.now.context.now c.args.room.now.spec.now c.args.self.now c.args.part.now c.args.value c.requires.one c.requires.process c.requires.goal c.requires.simulator c.requires.sizes c.args.memory.now c.requires.wants c.operate-2.new.self c.operate-word.new.self c.snap.result c.operate-word.result two c.operate-word.ensures c.snap.ensures in
    let at = c.args.part.now.process in
    let ended = c.count_steps.ensures ∙ ap (λ (mind : MindState). counted_by 4 mind) c.begin_on.ensures ∙ ap (λ (mind : MindState). counted_by 4 (begun at mind)) c.put_word.ensures in
    let four = shown g.M.Memory.serves g.M.Memory.does g.met.M.Memory.goes_on c.args.room.now.context.now c.args.room.now.spec.now c.args.self.now c.args.part.now c.args.value c.requires.one c.requires.process c.requires.goal c.requires.simulator c.requires.sizes c.args.memory.now c.requires.wants c.operate-word.new.self c.operate-3.new.self c.show.result c.operate-word.result c.operate-3.result c.count_steps.new.self three c.operate-3.ensures c.show.ensures ended in
    four.continues
