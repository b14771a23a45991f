use Rattle.view_grade.proofs.text.write_process.Goals as goal

pub returns-in_default : goal.returns-in_default
returns-in_default c = rw c.in_default.is (rw c.from.ensures at c.put_and.ensures)
