use Rattle.std.proofs.Common.{List, sym, subst, ◌∙◌, arith, inl, inr}
use Rattle.std.specs.List.{Contains}
use Rattle.std.proofs.lemmas.Bool.{cases_eq}
use Rattle.run_search.specs.declared.local_state.LocalState.{LocalState}
use Rattle.run_search.specs.Limits.{IsAfter}
use Rattle.run_search.specs.Nodes.{set_of}
use Rattle.run_search.proofs.Limiting.{after_in, in_after}
use Rattle.run_search.proofs.Same.{not_not, other_row, same_row}
use Rattle.run_search.proofs.node.has_after.Goals as goal

pub returns-then-ne-clause-without : goal.returns-then-ne-clause-without
returns-then-ne-clause-without c = λ no. inl (λ same.
    other_row c.as_slice.result.now c.as_slice-2.result.now c.if-ne.ensures
    (c.as_slice.ensures.value ∙ sym same ∙ sym c.row.ensures ∙ sym c.as_slice-2.ensures.value))

pub returns-then-not-is_within-clause-without : goal.returns-then-not-is_within-clause-without
returns-then-not-is_within-clause-without c = λ no.
    let after = c.args.after.now in
    let more = c.if-not-is_within.ensures in
    inr (inr (
      c.loop-q.q,
      more.0,
      omega (arith, c.loop-q-test.true, c.n-q-end.ensures.value),
      in_after after.node.now after.process after.new c.loop-q.q more.0 c.old_after-old.result.now c.old_after-old.ensures.own c.old_after-old.ensures.other more.1,
      λ there. more.2 (subst (λ (l : List LocalState). Contains l more.0) (sym c.set.ensures) there),
    ))

pub loop-q-preserved : goal.loop-q-preserved
loop-q-preserved c = λ r local below is. elim (cases_eq r c.loop-q.q) [
  | inl same ↦
      let after = c.args.after.now in
      let here = subst (λ k. IsAfter after.node.now after.process after.new k local) same is in
      let old = after_in after.node.now after.process after.new c.loop-q.q local c.old_after-old.result.now c.old_after-old.ensures.own c.old_after-old.ensures.other here in
      subst (λ k. Contains (set_of c.args.above.now k) local) (sym same) (subst (λ (l : List LocalState). Contains l local) c.set.ensures (c.if-not-is_within.ensures local old))
  | inr other ↦ c.loop-q.invariant r local (omega (arith, below, other)) is
]

pub returns-clause-has : goal.returns-clause-has
returns-clause-has c = λ yes. record {
  row_is =
      let same = same_row c.as_slice.result.now c.as_slice-2.result.now (not_not _ c.if-ne.ensures) in
      sym c.row.ensures ∙ sym c.as_slice-2.ensures.value ∙ sym same ∙ c.as_slice.ensures.value;
  all = λ q local below is. c.loop-q.invariant q local (omega (arith, below, c.loop-q-test.false, c.n-q-end.ensures.value)) is;
}
