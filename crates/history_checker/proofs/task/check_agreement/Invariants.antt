use Rattle.std.proofs.Common.{take}
use Rattle.transcript.specs.Tasks.{KeepsTask}
use Rattle.history_checker.specs.Tasks.{IsTally}
use Rattle.history_checker.proofs.task.check_agreement.Given as goal

abbrev pub invariant-loop-t : goal.invariant-loop-t
invariant-loop-t l = record {
  kept : KeepsTask l.spec l.most (take l.t l.events);
  tally : IsTally l.most (take l.t l.events) l.decided;
}
