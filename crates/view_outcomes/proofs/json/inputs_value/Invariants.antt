use Rattle.std.proofs.Common.{◌≡◌, map, take}
use Rattle.serde_json.specs.View.{view}
use Rattle.json_lines.specs.Values.{number_data}
use Rattle.view_outcomes.proofs.json.inputs_value.Given as goal

-- those so far
abbrev pub invariant-loop-process : goal.invariant-loop-process
invariant-loop-process l = map view l.values.items ≡ map number_data (take l.process l.spec.inputs)
