use Rattle.std.proofs.Common.{ℕ, ◌+◌, ◌-◌, ◌≤◌}
use Rattle.simulator.specs.declared.line.Line.TheVariants.{Values}
use Rattle.simulator.specs.declared.turn.Turn.TheVariants.{Still}
use Rattle.simulator.specs.Notes.{AreLastWrites}
use Rattle.simulator.specs.Ranges.{at_line}
use Rattle.simulator.specs.Runs.{Continues, Wants}
use Rattle.simulator.specs.Turns.{counted_by}
use Rattle.simulator.proofs.mind.Mind.take_values.Given as goal

abbrev pub invariant-loop-count : goal.invariant-loop-count
invariant-loop-count g l = record {
  wants : Wants g.M.Memory.serves l.room.context.now l.room.spec.now l.memory (at_line Values (counted_by l.count l.self)) Still;
  most : l.count ≤ l.most;
  continues : (before : ℕ) → Continues g.M.Memory.does l.room.spec.now before l.fn.memory (at_line Values l.fn.self) Still (before + l.count) l.memory (at_line Values (counted_by l.count l.self)) Still;
  last : AreLastWrites l.room.spec.now l.self.snapshot l.last.holders l.last.rounds;
}

abbrev pub decreases-loop-count : goal.decreases-loop-count
decreases-loop-count g l = l.most - l.count
