use Rattle.std.proofs.Common.{◌≡◌, map, take}
use Rattle.serde_json.specs.View.{view}
use Rattle.view_why.specs.Json.{decision_data}
use Rattle.view_why.proofs.json.decisions_value.Given as goal

-- the decisions so far
abbrev pub invariant-loop-one : goal.invariant-loop-one
invariant-loop-one l = map view l.values.items ≡ map decision_data (take l.one-index l.decisions)
