use Rattle.room_spec.specs.Shapes.{sizes_of}
use Rattle.room_spec.proofs.MemoryWords.{are_memory_words}
use Rattle.room_spec.proofs.spec.Shape.memory_words.Goals as goal

pub returns-clause-range : goal.returns-clause-range
returns-clause-range c =
    let words = are_memory_words (sizes_of c.args.self.now) c.args.self.now.limits in
    rw c.args.self.now.counted (words.some, words.few)
