use Rattle.std.proofs.Common.{◌≡◌, ◌++◌, take}
use Rattle.run_picture.specs.History.{entries_text}
use Rattle.run_picture.proofs.history.write_entries.Given as goal

abbrev pub invariant-loop-entry : goal.invariant-loop-entry
invariant-loop-entry l = l.output ≡ l.initial.output ++ entries_text (take l.entry-index l.entries)
