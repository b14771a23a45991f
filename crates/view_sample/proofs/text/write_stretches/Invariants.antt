use Rattle.std.proofs.Common.{◌≡◌, ◌++◌, take}
use Rattle.std.specs.List.{flat_map}
use Rattle.view_sample.specs.Texts.{stretch_line}
use Rattle.view_sample.proofs.text.write_stretches.Given as goal

abbrev pub invariant-loop-stretch : goal.invariant-loop-stretch
invariant-loop-stretch l = l.output ≡ l.initial.output ++ flat_map (stretch_line l.name) (take l.stretch-index l.schedule)
