use Rattle.std.proofs.Common.{◌≡◌, map, take}
use Rattle.serde_json.specs.View.{view}
use Rattle.view_open.specs.Json.{end_data}
use Rattle.view_open.proofs.json.ends_value.Given as goal

-- those so far
abbrev pub invariant-loop-ended : goal.invariant-loop-ended
invariant-loop-ended l = map view l.values.items ≡ map end_data (take l.ended-index l.ends)
