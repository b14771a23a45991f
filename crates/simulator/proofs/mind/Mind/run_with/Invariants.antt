use Rattle.std.proofs.Common.{◌-◌, ◌≤◌}
use Rattle.simulator.specs.Ranges.{at_line}
use Rattle.simulator.specs.Runs.{Runs, Wants}
use Rattle.simulator.proofs.mind.Mind.run_with.Given as goal

abbrev pub invariant-loop-room : goal.invariant-loop-room
invariant-loop-room g l = record {
  wants : Wants g.M.Memory.serves l.context l.spec l.memory (at_line l.run.line l.self) l.run.turn;
  most : l.run.count ≤ l.most;
  runs : Runs g.M.Memory.does l.spec l.initial.memory l.initial.self l.run.count l.memory (at_line l.run.line l.self) l.run.turn;
}

abbrev pub decreases-loop-room : goal.decreases-loop-room
decreases-loop-room g l = l.most - l.run.count
