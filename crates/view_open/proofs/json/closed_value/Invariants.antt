use Rattle.std.proofs.Common.{◌≡◌, map, take}
use Rattle.serde_json.specs.View.{view}
use Rattle.view_open.specs.Json.{closed_items}
use Rattle.view_open.proofs.json.closed_value.Given as goal

abbrev pub invariant-loop-one : goal.invariant-loop-one
invariant-loop-one l = map view l.values.items ≡ closed_items l.found.ends.items (take l.one-index l.known)
