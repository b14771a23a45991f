use Rattle.std.proofs.Common.{◌≡◌, map, get_or}
use Rattle.std.specs.List.{range_with_len}
use Rattle.arrayvec.specs.ArrayVec.{array_vec_len}
use Rattle.room_core.specs.Agreements.{shown}
use Rattle.room_search.specs.Ends.{fields_by}
use Rattle.room_search.proofs.reading.shown_by.Given as goal

abbrev pub invariant-loop-p : goal.invariant-loop-p
invariant-loop-p l = record { so_far : l.view.items ≡ map (λ p. shown l.subject.spec.now (fields_by l.subject.spec.now l.words) p (get_or l.row p 0)) (range_with_len 0 l.p); count : array_vec_len l.view ≡ l.p }
