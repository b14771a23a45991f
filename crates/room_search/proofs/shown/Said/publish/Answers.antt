use Rattle.std.proofs.Common.{refl, sym, ◌∙◌}
use Rattle.room_search.proofs.Stored.{at_place, no_more}
use Rattle.room_search.proofs.shown.Said.publish.Goals as goal

pub returns-then-own-gt0 : goal.returns-then-own-gt0
returns-then-own-gt0 c = λ spec.
    let own = c.args.self.now.own.items in
    let number = c.index-own.result.now in
    no_more spec c.args.self.now c.put.new.self c.args.index number 0 c.put.ensures.shown c.put.ensures.own c.requires.shown c.requires.own refl
    (λ words value says is. says.own c.args.index value (sym (at_place own c.args.index number c.requires.own) ∙ sym c.index-own.ensures ∙ is))
