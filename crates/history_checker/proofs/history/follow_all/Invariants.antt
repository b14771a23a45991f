use Rattle.std.proofs.Common.{take}
use Rattle.transcript.specs.Runs.{IsRun}
use Rattle.history_checker.specs.Processes.{Tracks}
use Rattle.history_checker.proofs.history.follow_all.Given as goal

abbrev pub invariant-loop-at : goal.invariant-loop-at
invariant-loop-at l = record {
  run : IsRun l.spec (take l.at l.events);
  tracks : Tracks l.spec l.processes (take l.at l.events);
}
