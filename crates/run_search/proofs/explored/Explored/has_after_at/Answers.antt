use Rattle.std.proofs.Common.{List, get_or, ap, inr, refl, subst, ◌∙◌}
use Rattle.std.proofs.lemmas.Option.{get_or_from_slice_get}
use Rattle.run_search.specs.Limits.{IsWithoutAfter}
use Rattle.run_search.specs.Nodes.{Node}
use Rattle.run_search.proofs.Limiting.{other_local}
use Rattle.run_search.proofs.explored.Explored.has_after_at.Goals as goal

pub returns-then-has_other-clause-without : goal.returns-then-has_other-clause-without
returns-then-has_other-clause-without c = λ no other is has.
    let more = other_local _ other c.args.marks c.args.entry.marks c.requires.marks has (c.if-has_other.ensures refl) in
    inr (inr (more.0, more.1, more.2.0, more.2.1, more.3))

pub returns-in-Some-clause-without : goal.returns-in-Some-clause-without
returns-in-Some-clause-without c = λ no other is has.
    let after = c.args.after.now in
    let index = c.args.entry.index in
    let read = ap (λ (l : List Node). get_or l index c.in-Some.above.now) c.deref.ensures.value in
    subst (IsWithoutAfter c.args.spec.now after.node.now after.process after.new after.row.now.items)
    (c.in-Some.ensures.lookup.1 ∙ read ∙ get_or_from_slice_get c.args.self.now.nodes.items index other c.in-Some.above.now is) (c.has_after.ensures.without no)
