use Rattle.std.proofs.Common.{◌≡◌, map, take}
use Rattle.serde_json.specs.View.{view}
use Rattle.run_search.specs.Outcomes.{Ends}
use Rattle.view_open.specs.Json.{ends_data}
use Rattle.view_open.proofs.json.outcomes_value.Given as goal

abbrev pub invariant-loop-one : goal.invariant-loop-one
invariant-loop-one l = map view l.values.items ≡ map (λ (one : Ends). ends_data one.items) (take l.one-index l.outcomes)
