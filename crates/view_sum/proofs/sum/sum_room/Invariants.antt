use Rattle.std.proofs.Common.{◌≡◌, ◌-◌, Some, map, take}
use Rattle.std.specs.Prelude.{slice_get}
use Rattle.room_sample.specs.Shown.{shown_of}
use Rattle.view_sum.specs.Adding.{ArePatterns}
use Rattle.view_sum.specs.Files.{parts_of}
use Rattle.view_sum.specs.Sums.{so_far_of}
use Rattle.view_sum.proofs.Summing.{IsSummed}
use Rattle.view_sum.proofs.sum.sum_room.Given as goal

-- the parts so far, and the file that the last of them is in
abbrev pub invariant-loop-file : goal.invariant-loop-file
invariant-loop-file l =
    IsSummed l.room (map parts_of l.files) (map parts_of (take l.file-index l.files)) (so_far_of l.so_far)
    × ArePatterns l.so_far.how.grouped (map shown_of l.so_far.outcomes.items) l.patterns.keys
    × (slice_get (map (λ file. file.index) l.files) (l.file-index - 1) ≡ Some l.other)
