use Rattle.std.proofs.Common.{subst, sym}
use Rattle.room_search.specs.Nodes.{AreNumbers}
use Rattle.room_search.proofs.closing.set_after.Goals as goal

pub set_from-requires-else-i-from-clause-numbers : goal.set_from-requires-else-i-from-clause-numbers
set_from-requires-else-i-from-clause-numbers c = subst (AreNumbers c.args.moves.now.table.keys) (sym c.set.ensures) (c.requires.node.numbers c.args.i c.requires.simulator)
