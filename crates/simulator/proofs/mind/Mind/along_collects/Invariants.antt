use Rattle.std.proofs.Common.{◌-◌, ◌≤◌}
use Rattle.simulator.specs.Ranges.{at_line}
use Rattle.simulator.specs.Runs.{Continues, Wants}
use Rattle.simulator.proofs.mind.Mind.along_collects.Given as goal

abbrev pub invariant-loop-self : goal.invariant-loop-self
invariant-loop-self g l = record {
  wants : Wants g.M.Memory.serves l.room.context.now l.room.spec.now l.memory (at_line l.run.line l.self) l.run.turn;
  more : l.fn.run.count ≤ l.run.count;
  most : l.fn.run.count ≤ l.most → l.run.count ≤ l.most;
  continues : Continues g.M.Memory.does l.room.spec.now l.fn.run.count l.fn.memory (at_line l.fn.run.line l.fn.self) l.fn.run.turn l.run.count l.memory (at_line l.run.line l.self) l.run.turn;
}

abbrev pub decreases-loop-self : goal.decreases-loop-self
decreases-loop-self g l = l.most - l.run.count
