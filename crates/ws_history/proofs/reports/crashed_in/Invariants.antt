use Rattle.std.proofs.Common.{◌≡◌, ◌≤◌}
use Rattle.std.specs.List.{filter, range_with_len}
use Rattle.arrayvec.specs.ArrayVec.{array_vec_len}
use Rattle.ws_history.specs.Readings.{read_of}
use Rattle.ws_history.proofs.reports.crashed_in.Given as goal

abbrev pub invariant-loop-i : goal.invariant-loop-i
invariant-loop-i l = record { so_far : l.crashed.items ≡ filter (read_of l.room).crashed (range_with_len 0 l.i); count : array_vec_len l.crashed ≤ l.i }
