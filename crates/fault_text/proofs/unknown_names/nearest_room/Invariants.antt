use Rattle.std.proofs.Common.{◌≡◌, length}
use Rattle.room_files.specs.Lines.{text_lines}
use Rattle.fault_text.specs.UnknownNames.{nearest_room}
use Rattle.fault_text.proofs.unknown_names.nearest_room.Given as goal

abbrev pub invariant-loop-line : goal.invariant-loop-line
invariant-loop-line l = nearest_room l.name (text_lines l.text) ≡ nearest_room l.name (text_lines l.rest)

abbrev pub decreases-loop-line : goal.decreases-loop-line
decreases-loop-line l = length l.rest
