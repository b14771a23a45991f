use Rattle.room_spec.proofs.MemoryWords.{are_memory_words, one_word}
use Rattle.room_spec.proofs.laws.memory_words_fit.Goals as goal

pub returns-clause-fit : goal.returns-clause-fit
returns-clause-fit c = λ sizes are. are_memory_words sizes are

pub returns-clause-one : goal.returns-clause-one
returns-clause-one c = λ sizes are narrow. one_word sizes are narrow
