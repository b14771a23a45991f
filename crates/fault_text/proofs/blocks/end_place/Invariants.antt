use Rattle.std.proofs.Common.{◌≡◌, length}
use Rattle.room_files.specs.Lines.{text_lines}
use Rattle.fault_text.specs.Blocks.{end_place}
use Rattle.fault_text.proofs.blocks.end_place.Given as goal

abbrev pub invariant-loop-line : goal.invariant-loop-line
invariant-loop-line l = end_place l.first (text_lines l.text) ≡ end_place l.number (text_lines l.rest)

abbrev pub decreases-loop-line : goal.decreases-loop-line
decreases-loop-line l = length l.rest
