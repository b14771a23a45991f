use Rattle.std.specs.Prelude.{codes}
use Rattle.view_grade.specs.Grades.{and_number}
use Rattle.view_grade.proofs.Texts.{in_two}
use Rattle.view_grade.proofs.text.write_many.Goals as goal

pub returns : goal.returns
returns c = in_two c.put.result c.args.output.now (and_number (codes ": no, the number of commands `step` and `crash` is") c.args.moves) (codes "\n") c.put_and.new.output c.put.new.self c.in_ok-put_and.ensures c.put.ensures.text
