use Rattle.level_cells.proofs.LevelLemmas.{raised, lowered}
use Rattle.level_cells.proofs.laws.level_changes.Goals as goal

pub returns : goal.returns
returns c = record {
  raised = λ word m i less room. raised word m i less room;
  lowered = λ word m i less some. lowered word m i less some;
}
