use Rattle.std.proofs.Common.{arith}
use Rattle.simulator.proofs.Stepping.{words_some}
use Rattle.simulator.proofs.mind.Mind.show_move.Goals as goal

pub word-requires : goal.word-requires
word-requires c = omega (arith, c.word-word.ensures, c.requires.word, (words_some c.args.spec.now c.requires.is_mind.1.limits).1)
