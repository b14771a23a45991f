use Rattle.std.proofs.Common.{◌≡◌, map}
use Rattle.std.specs.List.{filter, range_with_len}
use Rattle.serde_json.specs.View.{view}
use Rattle.json_lines.specs.Values.{number_data}
use Rattle.view_outcomes.specs.Counts.{can_be_spent}
use Rattle.view_outcomes.proofs.json.spent_value.Given as goal

-- those so far
abbrev pub invariant-loop-process : goal.invariant-loop-process
invariant-loop-process l = map view l.values.items ≡ map number_data (filter (can_be_spent l.all) (range_with_len 0 l.process))
