use Rattle.room_spec.specs.Shapes.{sizes_of}
use Rattle.sim_memory.proofs.Columns.{IsLast}
use Rattle.sim_memory.proofs.last_write.Given as goal

abbrev pub invariant-loop-i : goal.invariant-loop-i
invariant-loop-i l = IsLast (sizes_of l.shape) l.words l.p l.i l.holder l.greatest
