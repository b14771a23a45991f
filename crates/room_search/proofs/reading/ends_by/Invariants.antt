use Rattle.std.proofs.Common.{◌≡◌, map}
use Rattle.std.specs.List.{range_with_len}
use Rattle.arrayvec.specs.ArrayVec.{array_vec_len}
use Rattle.room_search.specs.Ends.{end_by}
use Rattle.room_search.proofs.reading.ends_by.Given as goal

abbrev pub invariant-loop-j : goal.invariant-loop-j
invariant-loop-j l = record { so_far : l.ends.items ≡ map (end_by l.subject.spec.now l.words) (range_with_len 0 l.j); count : array_vec_len l.ends ≡ l.j }
