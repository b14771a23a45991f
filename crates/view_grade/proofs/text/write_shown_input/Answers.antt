use Rattle.std.specs.Prelude.{codes}
use Rattle.view_grade.specs.Grades.{and_number}
use Rattle.view_grade.proofs.Texts.{in_two}
use Rattle.view_grade.proofs.text.write_shown_input.Goals as goal

pub returns-in_default : goal.returns-in_default
returns-in_default c = rw c.in_default.is (rw c.from.ensures at c.put_and.ensures)

pub returns-in-Some-input : goal.returns-in-Some-input
returns-in-Some-input c =
    let first = rw c.from-2.ensures at c.in_ok-put_and.ensures in
    let second = rw c.from-in-Some-input.ensures at c.put_and-in-Some-input.ensures in
    rw (c.in-Some.is, c.in-Some-input.is) (in_two c.put_and-in-Some-input.result c.args.output.now (and_number (codes "process") c.args.process)
    (and_number (codes " has the input") c.in-Some-input.value) c.put_and-2.new.output c.put_and-in-Some-input.new.output first second)

pub returns-in-None : goal.returns-in-None
returns-in-None c =
    let first = rw c.from-2.ensures at c.in_ok-put_and.ensures in
    rw (c.in-Some.is, c.in-None.is) (in_two c.put.result c.args.output.now (and_number (codes "process") c.args.process) (codes " has no input yet") c.put_and-2.new.output c.put.new.self first c.put.ensures.text)
