use Rattle.std.proofs.Common.{List, sym, subst, ◌∙◌, arith, inl, inr, below_more}
use Rattle.std.specs.List.{Contains}
use Rattle.std.proofs.lemmas.Bool.{cases_lt}
use Rattle.run_search.specs.declared.local_state.LocalState.{LocalState}
use Rattle.run_search.proofs.Closing.{none_past, sets_count}
use Rattle.run_search.proofs.Same.{other_row, same_row, not_not}
use Rattle.run_search.proofs.node.Node.is_below.Goals as goal

pub loop-p-preserved : goal.loop-p-preserved
loop-p-preserved c = below_more _ _ c.loop-p.invariant (
    λ local there.
    subst (λ (l : List LocalState). Contains l local) c.set-in-loop-p.ensures (c.if-not-is_within.ensures local (subst (λ (l : List LocalState). Contains l local) (sym c.set.ensures) there))
    )

pub returns-clause-below : goal.returns-clause-below
returns-clause-below c = λ yes. record {
  row =
      let same = same_row c.as_slice.result.now c.as_slice-2.result.now (not_not _ c.if-ne.ensures) in
      sym c.row-2.ensures ∙ sym c.as_slice-2.ensures.value ∙ sym same ∙ c.as_slice.ensures.value ∙ c.row.ensures;
  sets = λ p. elim (cases_lt p c.loop-p.p) [
    | inl below ↦ c.loop-p.invariant p below
    | inr past ↦
        let mine_count = sets_count c.self.inside.sets.items c.self.inside.row.value.items c.self.inside.origin c.args.self.now (λ s. s.value.items) c.self.view_is in
        λ local there. absurd (none_past c.args.self.now p local (omega (arith, past, mine_count, c.loop-p-test.false, c.len-p-end.ensures)) there)
  ];
}

pub returns-then-ne-clause-other : goal.returns-then-ne-clause-other
returns-then-ne-clause-other c = λ no. inl (λ same.
    other_row c.as_slice.result.now c.as_slice-2.result.now c.if-ne.ensures
    (c.as_slice.ensures.value ∙ c.row.ensures ∙ sym same ∙ sym c.row-2.ensures ∙ sym c.as_slice-2.ensures.value))

pub returns-then-not-is_within-clause-other : goal.returns-then-not-is_within-clause-other
returns-then-not-is_within-clause-other c = λ no.
    let more = c.if-not-is_within.ensures in
    let mine_count = sets_count c.self.inside.sets.items c.self.inside.row.value.items c.self.inside.origin c.args.self.now (λ s. s.value.items) c.self.view_is in
    inr (inr (
      c.loop-p.p,
      more.0,
      omega (arith, mine_count, c.loop-p-test.true, c.len-p-end.ensures),
      subst (λ (l : List LocalState). Contains l more.0) c.set.ensures more.1,
      λ there. more.2 (subst (λ (l : List LocalState). Contains l more.0) (sym c.set-in-loop-p.ensures) there),
    ))
