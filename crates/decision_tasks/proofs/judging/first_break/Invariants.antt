use Rattle.std.specs.List.{AllWithin}
use Rattle.run_search.specs.Outcomes.{outcomes_in}
use Rattle.decision_tasks.specs.Decisions.{decisions}
use Rattle.decision_tasks.specs.Tasks.{AreAllowed}
use Rattle.decision_tasks.proofs.judging.first_break.Given as goal

abbrev pub invariant-loop-index : goal.invariant-loop-index
invariant-loop-index l = AllWithin (λ ends. AreAllowed l.task l.spec.inputs (decisions ends)) (outcomes_in l.found) 0 l.index
