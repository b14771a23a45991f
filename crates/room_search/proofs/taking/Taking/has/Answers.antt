use Rattle.std.proofs.Common.{◌∙◌, sym}
use Rattle.room_search.proofs.Taken.{found_any}
use Rattle.room_search.proofs.taking.Taking.has.Goals as goal

pub returns : goal.returns
returns c = λ yes. found_any c.args.self.now.ends.keys c.args.self.now.outcomes.items c.args.ends.now c.requires (sym c.contains.ensures ∙ yes)
