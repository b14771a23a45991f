use Rattle.sim_memory.proofs.Words.{word_fits, within_raised, word_part, word_steps, word_raised, word_else, word_zero, memory_is}
use Rattle.sim_memory.proofs.laws.memory_words.Goals as goal

pub returns-clause-fits : goal.returns-clause-fits
returns-clause-fits c = λ sizes steps w limits within. word_fits sizes steps w limits within

pub returns-clause-reads_back : goal.returns-clause-reads_back
returns-clause-reads_back c = λ sizes steps words limits within are. word_steps sizes steps words limits within are

pub returns-clause-raised : goal.returns-clause-raised
returns-clause-raised c = λ sizes steps after i p limits below inside raised. word_raised sizes steps after i p limits below inside raised

pub returns-clause-others : goal.returns-clause-others
returns-clause-others c = λ sizes steps after i p w limits below inside raised other. word_else sizes steps after i p w raised other

pub returns-clause-part : goal.returns-clause-part
returns-clause-part c = λ sizes steps others w limits same. word_part sizes steps others w same

pub returns-clause-zero : goal.returns-clause-zero
returns-clause-zero c = λ sizes w. word_zero sizes w

pub returns-clause-within : goal.returns-clause-within
returns-clause-within c = λ sizes steps after i p within raised room. within_raised sizes steps after i p within raised room

pub returns-clause-all : goal.returns-clause-all
returns-clause-all c = λ sizes steps limits. memory_is sizes steps limits
