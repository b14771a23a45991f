use Rattle.sim_memory.proofs.Words.{raised_word}
use Rattle.sim_memory.proofs.laws.raises_word.Goals as goal

pub returns : goal.returns
returns c = λ sizes words i p limits below within long room. raised_word sizes words i p limits below within long room
