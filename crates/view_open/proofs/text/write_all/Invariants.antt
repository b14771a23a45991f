use Rattle.std.proofs.Common.{◌≡◌, ◌++◌, take}
use Rattle.view_open.specs.Texts.{open_lines}
use Rattle.view_open.proofs.text.write_all.Given as goal

abbrev pub invariant-loop-one : goal.invariant-loop-one
invariant-loop-one l = l.output ≡ l.initial.output ++ open_lines (take l.one-index l.still)
