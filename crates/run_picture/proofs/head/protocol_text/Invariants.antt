use Rattle.std.proofs.Common.{◌≡◌, length}
use Rattle.room_files.specs.Lines.{text_lines}
use Rattle.run_picture.specs.Heads.{after_protocol}
use Rattle.run_picture.proofs.head.protocol_text.Given as goal

abbrev pub invariant-loop-line : goal.invariant-loop-line
invariant-loop-line l = after_protocol (text_lines l.rest) ≡ after_protocol (text_lines l.block)

abbrev pub decreases-loop-line : goal.decreases-loop-line
decreases-loop-line l = length l.rest
