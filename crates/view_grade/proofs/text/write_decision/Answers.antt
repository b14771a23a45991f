use Rattle.std.specs.Prelude.{codes}
use Rattle.view_grade.specs.Grades.{and_number}
use Rattle.view_grade.proofs.Texts.{in_two}
use Rattle.view_grade.proofs.text.write_decision.Goals as goal

pub returns-in_default : goal.returns-in_default
returns-in_default c = rw c.in_default.is (rw c.from.ensures at c.put_and.ensures)

pub returns-in-Some-decision : goal.returns-in-Some-decision
returns-in-Some-decision c =
    let first = rw c.from-2.ensures at c.in_ok-put_and.ensures in
    let second = rw c.from-in-Some-decision.ensures at c.put_and-in-Some-decision.ensures in
    rw (c.in-Some.is, c.in-Some-decision.is) (in_two c.put_and-in-Some-decision.result c.args.output.now (and_number (codes "simulator") c.args.simulator)
    (and_number (codes " has decided") c.in-Some-decision.value) c.put_and-2.new.output c.put_and-in-Some-decision.new.output first second)

pub returns-in-None : goal.returns-in-None
returns-in-None c =
    let first = rw c.from-2.ensures at c.in_ok-put_and.ensures in
    rw (c.in-Some.is, c.in-None.is) (in_two c.put.result c.args.output.now (and_number (codes "simulator") c.args.simulator) (codes " has not decided") c.put_and-2.new.output c.put.new.self first c.put.ensures.text)
