use Rattle.std.proofs.Common.{List, ℕ, refl, sym, subst, ap, ◌∙◌, arith, inl, inr, below_more}
use Rattle.std.specs.List.{Contains}
use Rattle.std.proofs.lemmas.Bool.{cases_lt}
use Rattle.room_search.specs.Nodes.{Node}
use Rattle.room_search.proofs.Same.{words_stay}
use Rattle.room_search.proofs.Sets.{none_past}
use Rattle.room_search.proofs.node.Node.is_below.Goals as goal

pub loop-i-preserved : goal.loop-i-preserved
loop-i-preserved c = below_more _ _ c.loop-i.invariant (
    λ number there.
    subst (λ (l : List ℕ). Contains l number) c.set-in-loop-i.ensures (c.if-not-is_within.ensures refl number (subst (λ (l : List ℕ). Contains l number) (sym c.set.ensures) there))
    )

pub returns : goal.returns
returns c = λ yes. record {
  said =
      let same = words_stay c.as_slice.result.now c.as_slice-2.result.now c.if-ne.ensures in
      ap (λ (n : Node). n.said) (sym c.above.view_is) ∙ sym c.as_slice-2.ensures.value ∙ sym same ∙ c.as_slice.ensures.value ∙ ap (λ (n : Node). n.said) c.self.view_is;
  sets = λ i. elim (cases_lt i c.loop-i.i) [
    | inl below ↦ c.loop-i.invariant i below
    | inr past ↦ λ number there. absurd (none_past c.args.self.now i number (omega (arith, past, c.loop-i-test.false, c.width-i-end.ensures)) there)
  ];
}
