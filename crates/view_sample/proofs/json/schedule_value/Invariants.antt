use Rattle.std.proofs.Common.{◌≡◌, map, take}
use Rattle.serde_json.specs.View.{view}
use Rattle.view_sample.specs.Json.{stretch_data}
use Rattle.view_sample.proofs.json.schedule_value.Given as goal

-- the stretches so far
abbrev pub invariant-loop-stretch : goal.invariant-loop-stretch
invariant-loop-stretch l = map view l.values.items ≡ map stretch_data (take l.stretch-index l.schedule)
