use Rattle.std.proofs.Common.{◌≡◌, ◌==◌, length, take, true}
use Rattle.std.specs.List.{list_all}
use Rattle.view_sum.proofs.sum.other_rooms.Given as goal

-- the files so far have as many rooms
abbrev pub invariant-loop-file : goal.invariant-loop-file
invariant-loop-file l = list_all (λ file. length file.parts.items == l.rooms) (take l.file-index l.files) ≡ true
