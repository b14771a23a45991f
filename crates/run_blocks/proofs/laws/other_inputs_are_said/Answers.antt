use Rattle.run_blocks.proofs.OtherInputs.{says_with}
use Rattle.run_blocks.proofs.laws.other_inputs_are_said.Goals as goal

pub returns : goal.returns
returns c = says_with
