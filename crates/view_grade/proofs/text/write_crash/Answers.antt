use Rattle.std.specs.Prelude.{codes}
use Rattle.view_grade.specs.Grades.{and_number, crash_end}
use Rattle.view_grade.proofs.Texts.{in_two}
use Rattle.view_grade.proofs.text.write_crash.Goals as goal

pub returns : goal.returns
returns c =
    let first = rw c.from.ensures at c.in_ok-put_and.ensures in
    in_two c.put.result c.args.output.now (and_number (codes "simulator") c.args.simulator) (crash_end c.args.crashed) c.put_and.new.output c.put.new.self first (rw c.crash_end.ensures at c.put.ensures.text)
