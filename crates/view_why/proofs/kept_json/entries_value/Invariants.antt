use Rattle.std.proofs.Common.{◌≡◌, map, take}
use Rattle.serde_json.specs.View.{view}
use Rattle.json_lines.specs.Values.{entry_data}
use Rattle.view_why.proofs.kept_json.entries_value.Given as goal

-- the entries so far
abbrev pub invariant-loop-entry : goal.invariant-loop-entry
invariant-loop-entry l = map view l.values.items ≡ map entry_data (take l.entry-index l.entries)
