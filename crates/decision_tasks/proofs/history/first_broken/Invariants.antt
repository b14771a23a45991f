use Rattle.std.proofs.Common.{◌≡◌, take}
use Rattle.decision_tasks.specs.Decisions.{decided_by}
use Rattle.decision_tasks.specs.Tasks.{KeepsDecisions}
use Rattle.decision_tasks.proofs.history.first_broken.Given as goal

-- the decisions so far, none of which breaks the task
abbrev pub invariant-loop-at : goal.invariant-loop-at
invariant-loop-at l = (l.decisions.items ≡ decided_by l.spec l.events l.at) × KeepsDecisions l.task l.spec (take l.at l.events)
