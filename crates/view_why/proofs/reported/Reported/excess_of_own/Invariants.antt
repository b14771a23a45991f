use Rattle.std.proofs.Common.{take}
use Rattle.transcript.specs.Tasks.{KeepsTask}
use Rattle.view_why.specs.Reported.{AreDecidedBefore, judged_room}
use Rattle.view_why.proofs.reported.Reported.excess_of_own.Given as goal

-- the task allows the events so far, and these are the values that they decided
abbrev pub invariant-loop-at : goal.invariant-loop-at
invariant-loop-at l = AreDecidedBefore l.self l.at l.before.items × KeepsTask (judged_room l.self.spec) l.most (take l.at l.self.events)
