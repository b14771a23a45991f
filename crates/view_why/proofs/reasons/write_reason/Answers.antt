use Rattle.view_why.proofs.reasons.write_reason.Goals as goal

pub returns-in-NoProcess : goal.returns-in-NoProcess
returns-in-NoProcess c = rw (c.in-NoProcess.is, ← c.process.ensures, ← c.from-owner.ensures) c.write_of_process.ensures

pub returns-in-OtherLength : goal.returns-in-OtherLength
returns-in-OtherLength c = rw c.in-OtherLength.is c.put.ensures.text
