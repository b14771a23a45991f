use Rattle.step_words.proofs.sight.write_chosen.Goals as goal

pub returns-in-None : goal.returns-in-None
returns-in-None c = rw c.in-None.is c.put.ensures.text

pub returns-in-Some : goal.returns-in-Some
returns-in-Some c = rw c.in-Some.is c.write_between.ensures
