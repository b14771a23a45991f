use Rattle.std.specs.Prelude.{codes}
use Rattle.view_grade.specs.Grades.{and_number, few_end}
use Rattle.view_grade.proofs.Texts.{in_two}
use Rattle.view_grade.proofs.text.write_few.Goals as goal

pub returns : goal.returns
returns c =
    let first = rw c.from.ensures at c.in_ok-put_and.ensures in
    let second = rw c.from-2.ensures at c.write_few_end.ensures in
    rw c.in-Some.is (in_two c.write_few_end.result c.args.output.now (and_number (codes "commands") c.in-Some.most) (few_end c.in-Some.most c.args.moves) c.put_and.new.output c.write_few_end.new.output first second)
