use Rattle.std.proofs.Common.{◌≡◌, ◌++◌, length, map}
use Rattle.serde_json.specs.View.{view}
use Rattle.room_files.specs.Lines.{text_lines}
use Rattle.fault_text.specs.Lines.{lines_after}
use Rattle.file_faults.specs.Json.{note_data}
use Rattle.file_faults.proofs.json.hints_value.Given as goal

-- those so far, and those of the rest
abbrev pub invariant-loop-line : goal.invariant-loop-line
invariant-loop-line l = map view l.values.items ++ map note_data (text_lines l.rest) ≡ map note_data (text_lines (lines_after l.heads l.said))

abbrev pub decreases-loop-line : goal.decreases-loop-line
decreases-loop-line l = length l.rest
