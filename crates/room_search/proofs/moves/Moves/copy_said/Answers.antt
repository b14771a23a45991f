use Rattle.std.proofs.Common.{sym, ◌∙◌}
use Rattle.room_search.proofs.moves.Moves.copy_said.Goals as goal

pub returns : goal.returns
returns c = record { one = c.in-Some.said.now; is = sym c.in-Some.ensures.key; same = sym (c.in_ok-copy.ensures ∙ c.deref.ensures.value) }
