use Rattle.std.proofs.Common.{◌≡◌, ℕ, ◌*◌, ◌/◌, ◌^◌, ◌≤◌, List, get_or}
use Rattle.room_spec.specs.Shapes.{sizes_of}
use Rattle.sim_memory.specs.Lasts.{AreLast}
use Rattle.sim_memory.proofs.writes.in_one_word.Given as goal

-- the word without the rows of the simulators so far
abbrev pub invariant-loop-i : goal.invariant-loop-i
invariant-loop-i l = record {
  some : 1 ≤ l.i;
  rest : l.rest ≡ l.word / 2 ^ (l.i * l.shape.n * l.bits);
  last : (words : List ℕ) → get_or words 0 0 ≡ l.word → AreLast (sizes_of l.shape) words l.i l.last.holders l.last.rounds;
}
