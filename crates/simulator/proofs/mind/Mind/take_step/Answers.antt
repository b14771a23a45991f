use Rattle.std.proofs.Common.{ap, arith}
use Rattle.simulator.specs.Minds.{MindState}
use Rattle.simulator.specs.Ranges.{at_line}
use Rattle.simulator.proofs.Limits.{small}
use Rattle.simulator.proofs.mind.Mind.take_step.Goals as goal

pub snap-turn-requires-clause-word : goal.snap-turn-requires-clause-word
snap-turn-requires-clause-word g c = let same = ap (λ (m : MindState). m.word) c.asked_of-answer-in-Snap.ensures.mind in omega (arith, same, (small c.args.room.now.spec.now (at_line c.args.line c.args.self.now) c.requires.is_mind).word)

pub snap-turn-requires-clause-collects : goal.snap-turn-requires-clause-collects
snap-turn-requires-clause-collects g c = let same = ap (λ (m : MindState). m.collects) c.asked_of-answer-in-Snap.ensures.mind in omega (arith, same, (small c.args.room.now.spec.now (at_line c.args.line c.args.self.now) c.requires.is_mind).collects)

pub show-turn-requires : goal.show-turn-requires
show-turn-requires g c = let same = ap (λ (m : MindState). m.word) c.asked_of-answer-in-Show.ensures.mind in omega (arith, same, (small c.args.room.now.spec.now (at_line c.args.line c.args.self.now) c.requires.is_mind).word)

pub get_view-turn-requires-clause-word : goal.get_view-turn-requires-clause-word
get_view-turn-requires-clause-word g c = let same = ap (λ (m : MindState). m.word) c.asked_of-answer-in-GetView.ensures.mind in omega (arith, same, (small c.args.room.now.spec.now (at_line c.args.line c.args.self.now) c.requires.is_mind).word)
