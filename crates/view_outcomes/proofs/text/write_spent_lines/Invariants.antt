use Rattle.std.proofs.Common.{◌≡◌, ◌++◌}
use Rattle.view_outcomes.specs.Texts.{spent_lines}
use Rattle.view_outcomes.proofs.text.write_spent_lines.Given as goal

abbrev pub invariant-loop-process : goal.invariant-loop-process
invariant-loop-process l = l.output ≡ l.initial.output ++ spent_lines l.name l.process l.all
