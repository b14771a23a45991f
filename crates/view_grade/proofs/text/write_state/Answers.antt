use Rattle.view_grade.proofs.text.write_state.Goals as goal

pub returns-in-Held : goal.returns-in-Held
returns-in-Held c = rw c.in-Held.is (rw c.from-in-Held.ensures at c.put_and-in-Held.ensures)
