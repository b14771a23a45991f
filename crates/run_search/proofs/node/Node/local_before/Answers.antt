use Rattle.std.proofs.Common.{List, Option, ℕ, sym, subst, ap, ◌∙◌}
use Rattle.run_search.specs.Nodes.{AreWithinRounds, IsComeTo}
use Rattle.run_search.specs.declared.local_state.LocalState.{LocalState}
use Rattle.run_search.specs.declared.local_state.Origin.{Origin}
use Rattle.run_search.proofs.node.Node.local_before.Goals as goal

pub come_from-requires-clause-rounds : goal.come_from-requires-clause-rounds
come_from-requires-clause-rounds c = subst (AreWithinRounds c.args.spec.now) (sym c.set.ensures) (c.requires.whole.rounds c.args.q c.requires.process)

pub come_from-requires-clause-come : goal.come_from-requires-clause-come
come_from-requires-clause-come c =
    subst (λ (r : List (Option ℕ)). IsComeTo c.args.spec.now r c.args.q c.set.result.now c.args.to) (sym c.row.ensures)
    (subst (λ (l : List LocalState). IsComeTo c.args.spec.now c.args.node.now.row c.args.q l c.args.to) (sym c.set.ensures)
    (c.requires.after.others c.args.q c.args.to c.requires.process (λ same. c.if-q-from.false (same ∙ sym (c.from.ensures ∙ ap (λ (o : Origin). o.process) c.origin-origin.ensures))) c.requires.there))
