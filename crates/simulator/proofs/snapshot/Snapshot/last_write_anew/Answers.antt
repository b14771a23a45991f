use Rattle.std.proofs.Common.{arith}
use Rattle.room_spec.specs.Shapes.{sizes_of}
use Rattle.room_spec.proofs.CallerLemmas.{are_memory_words}
use Rattle.simulator.proofs.snapshot.Snapshot.last_write_anew.Goals as goal

pub last_write-requires-clause-words : goal.last_write-requires-clause-words
last_write-requires-clause-words c = let few = (are_memory_words (sizes_of c.shape.result) c.shape.result.limits).few in omega (arith, few)
