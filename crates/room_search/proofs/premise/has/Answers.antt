use Rattle.std.proofs.Common.{sym, ◌∙◌}
use Rattle.room_search.proofs.Alike.{alike_any}
use Rattle.room_search.proofs.premise.has.Goals as goal

pub returns : goal.returns
returns c = λ yes. alike_any c.args.premises.now.keys c.args.premise.now (sym c.contains.ensures ∙ yes)
