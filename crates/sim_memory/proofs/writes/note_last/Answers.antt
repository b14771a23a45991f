use Rattle.room_spec.specs.Shapes.{sizes_of}
use Rattle.sim_memory.proofs.Merging.{last_in_range}
use Rattle.sim_memory.proofs.writes.note_last.Goals as goal

pub returns-clause-holders : goal.returns-clause-holders
returns-clause-holders c = (c.of_all-all.ensures).holder

pub returns-clause-rounds : goal.returns-clause-rounds
returns-clause-rounds c = (c.of_all-all.ensures).round

pub returns-clause-range : goal.returns-clause-range
returns-clause-range c = last_in_range (sizes_of c.args.shape.now) c.args.words.now _ _ c.args.shape.now.limits.m_range.0 c.of_all-all.ensures

pub returns-clause-behind : goal.returns-clause-behind
returns-clause-behind c = (c.of_all-all.ensures).behind
