use Rattle.step_words.proofs.step.write_outcome.Goals as goal

pub returns-in-Write : goal.returns-in-Write
returns-in-Write c = rw c.in-Write.is c.write_next.ensures

pub returns-in-Ask : goal.returns-in-Ask
returns-in-Ask c = rw c.in-Ask.is c.write_unresolved.ensures

pub returns-in-Propose : goal.returns-in-Propose
returns-in-Propose c = rw c.in-Propose.is c.write_proposal.ensures

pub returns-in-AskInput : goal.returns-in-AskInput
returns-in-AskInput c = rw c.in-AskInput.is c.write_between.ensures

pub returns-in-Done : goal.returns-in-Done
returns-in-Done c = rw c.in-Done.is c.write_between-in-Done.ensures

pub returns-in-Spent : goal.returns-in-Spent
returns-in-Spent c = rw c.in-Spent.is c.write_between-in-Spent.ensures
