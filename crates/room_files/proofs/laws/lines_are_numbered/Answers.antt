use Rattle.room_files.proofs.Numbering.{input_numbered}
use Rattle.room_files.proofs.laws.lines_are_numbered.Goals as goal

pub returns : goal.returns
returns c = input_numbered
