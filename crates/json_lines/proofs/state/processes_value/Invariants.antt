use Rattle.std.proofs.Common.{◌≡◌, map, take}
use Rattle.serde_json.specs.View.{view}
use Rattle.json_lines.specs.Values.{process_data}
use Rattle.json_lines.proofs.state.processes_value.Given as goal

-- the states so far
abbrev pub invariant-loop-state : goal.invariant-loop-state
invariant-loop-state l = map view l.values.items ≡ map process_data (take l.state-index l.states)
