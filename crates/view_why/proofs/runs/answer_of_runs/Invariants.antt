use Rattle.std.proofs.Common.{◌==◌, List, false, length}
use Rattle.std.specs.List.{flat_map}
use Rattle.history_checker.specs.Verdicts.{FedEvent, HasProcessed, specs_of}
use Rattle.fault_text.specs.Refusals.{refusal_line, said_refusals}
use Rattle.view_why.proofs.Explaining.{SoFar}
use Rattle.view_why.proofs.runs.answer_of_runs.Given as goal

abbrev pub invariant-loop-index : goal.invariant-loop-index
invariant-loop-index l = (fed : List FedEvent) → HasProcessed l.rooms fed
    → SoFar false (specs_of l.rooms) (said_refusals l.input l.refusals) (flat_map refusal_line l.refusals) fed l.index l.output (length (flat_map refusal_line l.refusals) == 0)
