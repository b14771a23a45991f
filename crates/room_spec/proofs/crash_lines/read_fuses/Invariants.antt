use Rattle.std.proofs.Common.{◌≡◌, suc, ◌-◌, ◌≤◌, length}
use Rattle.room_spec.specs.Rooms.{AreFuses}
use Rattle.room_spec.specs.Blocks.{fuses_from, fuse_lines}
use Rattle.room_spec.proofs.crash_lines.read_fuses.Given as goal

abbrev pub invariant-loop-fuse : goal.invariant-loop-fuse
invariant-loop-fuse l = record {
  few : length l.fuses.items ≤ l.simulators;
  are : AreFuses l.fuses.items l.simulators;
  so_far : fuses_from (suc (l.simulators - length l.fuses.items)) l.first l.simulators l.fuses.items l.rest ≡ fuse_lines l.first l.simulators l.text;
}

abbrev pub decreases-loop-fuse : goal.decreases-loop-fuse
decreases-loop-fuse l = suc l.simulators - length l.fuses.items
