use Rattle.std.proofs.Common.{◌≡◌, ◌++◌, take}
use Rattle.std.specs.List.{flat_map}
use Rattle.view_why.specs.Words.{decision_words}
use Rattle.view_why.proofs.excess.write_decisions.Given as goal

abbrev pub invariant-loop-one : goal.invariant-loop-one
invariant-loop-one l = l.output ≡ l.initial.output ++ flat_map decision_words (take l.one-index l.decisions)
