use Rattle.std.proofs.Common.{◌≡◌, ◌+◌, ◌≤◌, ◌++◌, length}
use Rattle.room_files.specs.Lines.{text_lines}
use Rattle.run_picture.specs.declared.head.TheConstants.{MAX_LINES}
use Rattle.run_picture.specs.Heads.{before_end, lines_from}
use Rattle.run_picture.proofs.head.add_lines.Given as goal

abbrev pub invariant-loop-line : goal.invariant-loop-line
invariant-loop-line l = record {
  shapes : l.sheet ++ lines_from l.index (before_end (text_lines l.rest)) ≡ l.initial.sheet ++ lines_from 0 (before_end (text_lines l.text));
  count : l.index + length (before_end (text_lines l.rest)) ≡ length (before_end (text_lines l.text));
  few : l.index ≤ MAX_LINES;
}

abbrev pub decreases-loop-line : goal.decreases-loop-line
decreases-loop-line l = length l.rest
