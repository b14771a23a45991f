use Rattle.std.proofs.Common.{sym}
use Rattle.room_search.proofs.explored.Explored.push_after.Goals as goal

pub step_from-requires-clause-local : goal.step_from-requires-clause-local
step_from-requires-clause-local c = c.requires.searched.moves.locals c.args.number c.in-Some.local.now (sym c.in-Some.ensures.key)
