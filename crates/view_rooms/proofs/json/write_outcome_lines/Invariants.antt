use Rattle.std.proofs.Common.{◌≡◌, ◌++◌, take}
use Rattle.view_rooms.specs.Json.{outcome_lines}
use Rattle.view_rooms.proofs.json.write_outcome_lines.Given as goal

abbrev pub invariant-loop-one : goal.invariant-loop-one
invariant-loop-one l = l.output ≡ l.initial.output ++ outcome_lines l.name l.brief (take l.one-index l.all)
