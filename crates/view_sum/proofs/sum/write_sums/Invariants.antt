use Rattle.std.proofs.Common.{◌≡◌, List, length, map}
use Rattle.std.specs.List.{flat_map, list_all}
use Rattle.view_sum.specs.Files.{parts_of}
use Rattle.view_sum.specs.Forms.{has_held, total_text}
use Rattle.view_sum.specs.Samples.{RoomSample}
use Rattle.view_sum.specs.Sums.{AreTotals}
use Rattle.view_sum.proofs.sum.write_sums.Given as goal

-- the rooms so far
abbrev pub invariant-loop-room : goal.invariant-loop-room
invariant-loop-room l = (totals : List RoomSample) × (length totals ≡ l.room) × AreTotals (map parts_of l.files) totals × (l.output ≡ flat_map (total_text l.form) totals) × (l.have_held ≡ list_all has_held totals)
