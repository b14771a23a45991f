use Rattle.run_blocks.proofs.RunBlocks.{says_run}
use Rattle.run_blocks.proofs.laws.runs_are_said.Goals as goal

pub returns : goal.returns
returns c = says_run
