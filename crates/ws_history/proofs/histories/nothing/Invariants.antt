use Rattle.std.proofs.Common.{◌≡◌}
use Rattle.std.specs.Prelude.{replicate}
use Rattle.arrayvec.specs.ArrayVec.{array_vec_len}
use Rattle.ws_history.proofs.histories.nothing.Given as goal

abbrev pub invariant-loop : goal.invariant-loop
invariant-loop l = record { so_far : l.row.items ≡ replicate l.counter 0; count : array_vec_len l.row ≡ l.counter }
