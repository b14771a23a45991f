use Rattle.room_files.specs.Inputs.{all_blocks}
use Rattle.room_files.specs.declared.kinds.Kinds.TheVariants.{All}
use Rattle.file_faults.proofs.LintedRooms.{refused_said}
use Rattle.file_faults.proofs.laws.rooms_without_faults.Goals as goal

pub returns : goal.returns
returns c = λ input said are. refused_said input (all_blocks All input).refused said are
