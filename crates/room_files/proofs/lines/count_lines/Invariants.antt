use Rattle.std.proofs.Common.{◌≡◌, ◌≤◌, ◌+◌, length}
use Rattle.room_files.specs.Lines.{text_lines}
use Rattle.room_files.proofs.lines.count_lines.Given as goal

abbrev pub invariant-loop-later : goal.invariant-loop-later
invariant-loop-later l = record {
  counted : l.count + length (text_lines l.rest) ≡ length (text_lines l.text);
  within : l.count + length l.rest ≤ length l.text;
}

abbrev pub decreases-loop-later : goal.decreases-loop-later
decreases-loop-later l = length l.rest
