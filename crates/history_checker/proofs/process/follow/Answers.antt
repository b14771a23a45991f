use Rattle.history_checker.proofs.process.follow.Goals as goal

pub returns-in-Write-clause-follows : goal.returns-in-Write-clause-follows
returns-in-Write-clause-follows c = λ spec rounds protocol before tracks. rw c.in-Write.is (rw c.from.ensures at (c.follow_write.ensures.follows spec rounds before tracks))

pub returns-in-Decide-clause-follows : goal.returns-in-Decide-clause-follows
returns-in-Decide-clause-follows c = λ spec rounds protocol before tracks. rw c.in-Decide.is (rw c.from-in-Decide.ensures at (c.follow_decide.ensures.follows spec before tracks))

pub returns-in-Write-clause-lasts : goal.returns-in-Write-clause-lasts
returns-in-Write-clause-lasts c = rw c.in-Write.is (rw c.from.ensures at c.follow_write.ensures.lasts)
