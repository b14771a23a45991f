use Rattle.std.proofs.Common.{arith}
use Rattle.room_spec.specs.Sizes.{sizes_in}
use Rattle.ws_history.proofs.WordsRead.{memory_fits}
use Rattle.ws_history.proofs.reading.memory.Goals as goal

pub returns-clause-count : goal.returns-clause-count
returns-clause-count c = omega (arith, memory_fits (sizes_in c.args.room.now.spec), c.words.ensures.count)
