use Rattle.view_grade.proofs.keeper.KeeperFollows.refuse.Goals as goal

pub returns : goal.returns
returns c = λ rooms. (c.pass.ensures.task, c.pass.ensures.script, ((c.pass.ensures.last, c.pass.ensures.moves), (c.pass.ensures.entries, c.pass.ensures.broken)))
