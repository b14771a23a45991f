use Rattle.std.proofs.Common.{refl, arith}
use Rattle.room_search.proofs.Stored.{no_more}
use Rattle.room_search.proofs.shown.Said.forget.Goals as goal

pub returns : goal.returns
returns c = λ spec. no_more spec c.args.self.now c.put.new.self c.args.index 0 0 c.put.ensures.shown c.put.ensures.own c.requires.shown c.requires.own refl (λ words value says is. absurd (omega (arith, is)))
