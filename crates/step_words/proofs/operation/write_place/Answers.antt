use Rattle.step_words.proofs.operation.write_place.Goals as goal

pub returns-in-Memory : goal.returns-in-Memory
returns-in-Memory c = rw c.in-Memory.is c.write_memory.ensures

pub returns-in-Levels : goal.returns-in-Levels
returns-in-Levels c = rw c.in-Levels.is c.write_with_two.ensures
