use Rattle.std.proofs.Common.{◌≡◌, map, take}
use Rattle.arrayvec.specs.ArrayVec.{array_vec_len}
use Rattle.room_outcomes.specs.Ends.{end_of}
use Rattle.room_search.proofs.taking.ends_of.Given as goal

abbrev pub invariant-loop-state : goal.invariant-loop-state
invariant-loop-state l = record {
  so_far : l.ends.items ≡ map end_of (take l.state-index l.all);
  count : array_vec_len l.ends ≡ l.state-index;
}
