use Rattle.std.proofs.Common.{ℕ, not, is_some, sym, ap, ◌∙◌, arith}
use Rattle.view_table.specs.declared.place.Place.TheVariants.{Levels}
use Rattle.simulator.specs.Moves.{chosen_in, index_in}
use Rattle.room_search.proofs.Stored.{word_said}
use Rattle.room_search.proofs.resting.may_be_unresolved.Goals as goal

pub returns : goal.returns
returns c = λ no words says.
    let spec = c.args.subject.now.spec.now in
    let number = c.levels_number-number.result in
    let word = word_said c.args.said.now words (index_in spec (Levels c.args.j c.args.round)) number 0 says c.levels_number-number.ensures.within (omega (arith, c.if-number-eq0.false)) c.levels_number-number.ensures.value in
    ap (λ (w : ℕ). not (is_some (chosen_in spec w))) (sym word) ∙ sym c.is_choice_open.ensures ∙ no
