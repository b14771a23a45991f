use Rattle.std.proofs.Common.{◌≡◌, ◌-◌, ◌<◌}
use Rattle.simulator.specs.declared.line.Line.TheVariants.{Snap}
use Rattle.simulator.specs.declared.turn.Turn.TheVariants.{Still}
use Rattle.simulator.specs.Parts.{IsPartOf}
use Rattle.simulator.specs.Ranges.{at_line}
use Rattle.simulator.specs.Turns.{words_in}
use Rattle.simulator.proofs.Longer.{RunsOn}
use Rattle.simulator.proofs.Rowed.{at_word}
use Rattle.simulator.proofs.mind.Mind.take_collect.Given as goal

abbrev pub invariant-loop-word : goal.invariant-loop-word
invariant-loop-word g l = record {
  on : RunsOn g.M.Memory.serves g.M.Memory.does l.room.context.now l.room.spec.now l.word l.fn.memory l.memory (at_line Snap l.fn.self) (at_line Snap (at_word l.word l.self)) Still;
  less : l.word < l.words;
  all : l.words ≡ words_in l.room.spec.now;
  part : IsPartOf l.room.spec.now l.self l.part;
  none : l.self.word ≡ 0;
}

abbrev pub decreases-loop-word : goal.decreases-loop-word
decreases-loop-word g l = l.words - l.word
