use Rattle.std.proofs.Common.{◌≡◌, length}
use Rattle.std.specs.List.{list_any}
use Rattle.std.specs.Str.{bytes_eq}
use Rattle.room_files.specs.Lines.{text_lines}
use Rattle.fault_text.specs.Refusals.{after_room}
use Rattle.fault_text.proofs.unknown_names.has_room_line.Given as goal

abbrev pub invariant-loop-line : goal.invariant-loop-line
invariant-loop-line l = list_any (λ line. bytes_eq (after_room line) l.name) (text_lines l.text) ≡ list_any (λ line. bytes_eq (after_room line) l.name) (text_lines l.rest)

abbrev pub decreases-loop-line : goal.decreases-loop-line
decreases-loop-line l = length l.rest
