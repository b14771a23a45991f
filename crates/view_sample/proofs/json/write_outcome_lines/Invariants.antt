use Rattle.std.proofs.Common.{◌≡◌, ◌++◌, map, take}
use Rattle.std.specs.List.{flat_map}
use Rattle.room_sample.specs.Shown.{shown_of}
use Rattle.view_sample.specs.Json.{outcome_line}
use Rattle.view_sample.proofs.json.write_outcome_lines.Given as goal

abbrev pub invariant-loop-one : goal.invariant-loop-one
invariant-loop-one l = l.output ≡ l.initial.output ++ flat_map (outcome_line l.name l.brief) (map shown_of (take l.one-index l.shown))
