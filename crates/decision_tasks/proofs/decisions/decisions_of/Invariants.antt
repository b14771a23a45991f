use Rattle.std.specs.Prelude.{◌≡◌, map, take}
use Rattle.decision_tasks.specs.Decisions.{decision}
use Rattle.decision_tasks.proofs.decisions.decisions_of.Given as goal

abbrev pub invariant-loop-p : goal.invariant-loop-p
invariant-loop-p l = l.view.items ≡ map decision (take l.p l.ends.items)
