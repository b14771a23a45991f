use Rattle.std.proofs.Common.{arith}
use Rattle.ws_history.proofs.histories.most_events.Goals as goal

pub sum-requires-clause-range : goal.sum-requires-clause-range
sum-requires-clause-range c = λ p. omega (arith, c.requires.range p)
