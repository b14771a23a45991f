use Rattle.sim_memory.proofs.Rows.{merged_at, merged_reached, merged_below}
use Rattle.sim_memory.proofs.laws.merges.Goals as goal

pub returns-clause-greatest : goal.returns-clause-greatest
returns-clause-greatest c = λ m steps i p below. merged_at m steps i p below

pub returns-clause-reached : goal.returns-clause-reached
returns-clause-reached c = λ m steps p some. merged_reached m steps p some

pub returns-clause-least : goal.returns-clause-least
returns-clause-least c = λ m steps p bound each. merged_below m steps p bound each
