use Rattle.std.proofs.Common.{◌≡◌, length}
use Rattle.room_sample.specs.Chances.{random_in}
use Rattle.room_sample.specs.Drawn.{active_from}
use Rattle.room_sample.proofs.active.all_active.Given as goal

abbrev pub invariant-loop-simulator : goal.invariant-loop-simulator
invariant-loop-simulator l = record {
  long : length l.all.items ≡ l.simulator;
  drawn : (l.all.items, random_in l.chances) ≡ active_from l.spec l.style l.simulator (random_in l.initial.chances);
}
