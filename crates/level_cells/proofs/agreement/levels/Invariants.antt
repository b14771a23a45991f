use Rattle.std.proofs.Common.{◌≡◌}
use Rattle.arrayvec.specs.ArrayVec.{array_vec_len}
use Rattle.level_cells.specs.Fields.{levels_of}
use Rattle.level_cells.proofs.agreement.levels.Given as goal

abbrev pub invariant-loop-i : goal.invariant-loop-i
invariant-loop-i l = record { so_far : l.levels.items ≡ levels_of l.word l.i; count : array_vec_len l.levels ≡ l.i }
