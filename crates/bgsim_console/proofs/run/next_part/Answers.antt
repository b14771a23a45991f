use Rattle.std.proofs.Common.{arith}
use Rattle.std.proofs.lemmas.Grind.{common_steps}
use Rattle.bgsim_console.proofs.run.next_part.Goals as goal

pub returns-then-len-rooms-clause-part : goal.returns-then-len-rooms-clause-part
returns-then-len-rooms-clause-part c = grind (arith, common_steps)

pub loop-spec-preserved : goal.loop-spec-preserved
loop-spec-preserved c = grind (arith, common_steps)

pub returns-then-len-rooms-clause-fewer : goal.returns-then-len-rooms-clause-fewer
returns-then-len-rooms-clause-fewer c = grind (arith, common_steps)
