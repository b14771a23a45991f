use Rattle.std.proofs.Common.{◌≡◌, map}
use Rattle.std.specs.List.{range_with_len}
use Rattle.simulator.specs.Sweeps.{opening_sweep}
use Rattle.room_core.proofs.room.opening_sweeps.Given as goal

abbrev pub invariant-loop-i : goal.invariant-loop-i
invariant-loop-i l = l.sweeps.items ≡ map (opening_sweep l.spec) (range_with_len 0 l.i)
