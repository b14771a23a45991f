use Rattle.std.proofs.Common.{◌≡◌, length}
use Rattle.std.specs.List.{list_any}
use Rattle.room_files.specs.Lines.{text_lines}
use Rattle.file_faults.specs.Kinds.{is_either}
use Rattle.file_faults.proofs.kinds.has_line.Given as goal

abbrev pub invariant-loop-line : goal.invariant-loop-line
invariant-loop-line l = list_any (is_either l.word l.other) (text_lines l.text) ≡ list_any (is_either l.word l.other) (text_lines l.rest)

abbrev pub decreases-loop-line : goal.decreases-loop-line
decreases-loop-line l = length l.rest
