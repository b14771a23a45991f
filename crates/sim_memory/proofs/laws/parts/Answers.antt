use Rattle.sim_memory.proofs.Words.{part_here, part_else, part_memory, word_below}
use Rattle.sim_memory.proofs.laws.parts.Goals as goal

pub returns-clause-here : goal.returns-clause-here
returns-clause-here c = λ sizes source into w limits. part_here sizes source into w

pub returns-clause-elsewhere : goal.returns-clause-elsewhere
returns-clause-elsewhere c = λ sizes source into w other limits apart. part_else sizes source into w other apart

pub returns-clause-memory : goal.returns-clause-memory
returns-clause-memory c = λ sizes source into w limits below. part_memory sizes source into w below

pub returns-clause-words : goal.returns-clause-words
returns-clause-words c = λ sizes i p limits below within. word_below sizes i p limits below within
