use Rattle.std.proofs.Common.{map, take}
use Rattle.view_sum.specs.Files.{AreFilesOf, placed_of}
use Rattle.view_sum.proofs.sum.read_files.Given as goal

-- the files so far
abbrev pub invariant-loop-index : goal.invariant-loop-index
invariant-loop-index l = AreFilesOf (map (λ file. file.now) (take l.index l.files)) 0 (map placed_of l.read.items)
