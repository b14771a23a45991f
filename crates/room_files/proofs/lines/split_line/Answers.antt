use Rattle.room_files.proofs.LineLists.{first_and_later}
use Rattle.room_files.proofs.lines.split_line.Goals as goal

pub returns-in_default-Some-clause-lines : goal.returns-in_default-Some-clause-lines
returns-in_default-Some-clause-lines c = λ some. rw c.in_default-Some.is-1 (first_and_later c.args.text.now c.cut.result.0.now c.in_default-Some.later.now (rw c.in_default-Some.is-1 at c.cut.ensures.pieces))
