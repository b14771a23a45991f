use Rattle.std.proofs.Common.{◌≡◌, ◌++◌, take}
use Rattle.std.specs.List.{flat_map}
use Rattle.view_open.specs.Texts.{closed_line}
use Rattle.view_open.proofs.text.write_closed.Given as goal

abbrev pub invariant-loop-one : goal.invariant-loop-one
invariant-loop-one l = l.output ≡ l.initial.output ++ flat_map (closed_line l.found.ends.items) (take l.one-index l.known)
