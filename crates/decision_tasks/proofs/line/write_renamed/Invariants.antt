use Rattle.std.specs.Prelude.{◌≡◌, ◌≤◌, ◌-◌, ◌++◌, [], drop, take}
use Rattle.decision_tasks.specs.Lines.{renamed_after}
use Rattle.decision_tasks.proofs.line.write_renamed.Given as goal

abbrev pub invariant-loop-at : goal.invariant-loop-at
invariant-loop-at l = record {
  within : l.start ≤ l.at;
  text : l.output ++ renamed_after (take (l.at - l.start) (drop l.start l.line)) (drop l.at l.line) ≡ l.initial.output ++ renamed_after [] l.line;
}
