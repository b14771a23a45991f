use Rattle.std.specs.Prelude.{◌++◌, codes}
use Rattle.view_grade.specs.Grades.{and_number}
use Rattle.view_grade.proofs.Texts.{in_two}
use Rattle.view_grade.proofs.kept_text.write_place.Goals as goal

pub returns : goal.returns
returns c =
    in_two c.put_and.result c.args.output.now (codes "decisions allowed: no, room " ++ c.args.name.now) (and_number (codes " after line") c.args.line) c.put_two.new.self c.put_and.new.output c.in_ok-put_two.ensures.text c.put_and.ensures
