use Rattle.run_search.specs.Choices.{AreChoices}
use Rattle.run_search.proofs.choice.choices_of.Given as goal

abbrev pub invariant-loop-p : goal.invariant-loop-p
invariant-loop-p l = AreChoices l.crashes l.node l.p l.choices.items
