use Rattle.std.proofs.Common.{arith}
use Rattle.room_spec.specs.Shapes.{sizes_of}
use Rattle.room_spec.proofs.CallerLemmas.{are_memory_words}
use Rattle.simulator.proofs.snapshot.Snapshot.last_writes_anew.Goals as goal

pub last_writes-requires : goal.last_writes-requires
last_writes-requires c = let few = (are_memory_words (sizes_of c.shape.result) c.shape.result.limits).few in omega (arith, few)
