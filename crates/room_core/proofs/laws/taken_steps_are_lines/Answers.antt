use Rattle.room_core.proofs.fields.Taken.{taken_line, taken_moves}
use Rattle.room_core.proofs.laws.taken_steps_are_lines.Goals as goal

pub returns-clause-line : goal.returns-clause-line
returns-clause-line c = λ room i shape is. taken_line room i shape is

pub returns-clause-moved : goal.returns-clause-moved
returns-clause-moved c = λ room i is. taken_moves room i is
