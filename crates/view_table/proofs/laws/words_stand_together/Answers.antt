use Rattle.view_table.proofs.Counts.{memory_first, view_together}
use Rattle.view_table.proofs.laws.words_stand_together.Goals as goal

pub returns : goal.returns
returns c = record {
  memory = λ sizes w. memory_first sizes w;
  view = λ sizes i j k w. view_together sizes i j k w;
}
