use Rattle.std.proofs.Common.{take}
use Rattle.transcript.specs.Reductions.{MayHave, with_input}
use Rattle.history_checker.specs.Processes.{IsAt}
use Rattle.history_checker.proofs.reduction.again.Given as goal

abbrev pub invariant-loop-event : goal.invariant-loop-event
invariant-loop-event l = record {
  may : MayHave l.spec (take l.event-index l.before) l.p l.input;
  at : IsAt (with_input l.spec l.input) (take l.event-index l.before) l.p l.process;
}
