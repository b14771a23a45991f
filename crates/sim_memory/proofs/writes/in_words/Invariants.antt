use Rattle.std.proofs.Common.{◌≡◌, ◌+◌, ◌*◌, ◌/◌, ◌<◌, ◌≤◌}
use Rattle.room_spec.specs.Shapes.{sizes_of}
use Rattle.sim_memory.specs.Lasts.{AreLast}
use Rattle.sim_memory.proofs.writes.in_words.Given as goal

-- the place of the next simulator's first step number
abbrev pub invariant-loop-i : goal.invariant-loop-i
invariant-loop-i l = record {
  place : l.word * (64 / l.bits) + l.first ≡ l.i * l.shape.n;
  inside : l.first < 64 / l.bits;
  few : l.word ≤ l.i;
  last : AreLast (sizes_of l.shape) l.words l.i l.last.holders l.last.rounds;
}
