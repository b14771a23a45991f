use Rattle.std.proofs.Common.{◌++◌, ◌∷◌, [], ℕ, List, eqb, sym, ap, ◌∙◌, arith, length-append}
use Rattle.std.specs.List.{list_any}
use Rattle.run_search.proofs.Vectors.{values_again, values_more}
use Rattle.run_search.proofs.agreed.own_values.Goals as goal
use Rattle.run_search.proofs.agreed.own_values.Goals.{then-not-contains, else-not-contains}

pub loop-i-preserved : goal.loop-i-preserved
loop-i-preserved c =
    let own = c.args.spec.now.own in
    let i = c.loop-i.i in
    let v = c.in-Some.value in
    let so_far = c.loop-i.invariant.values in
    let is = ap (λ (l : List ℕ). list_any (λ y. eqb y v) l) (sym (c.deref.ensures.0 ∙ so_far)) ∙ sym c.contains.ensures.value in
    elim c.if-not-contains.branch [
      | then-not-contains w ↦
          let all = w.push.ensures.items ∙ ap (λ (l : List ℕ). l ++ v ∷ []) so_far ∙ sym (values_more own i v (sym c.in-Some.ensures) (is ∙ w.if-not-contains.true)) in
          record { values = rw w.values-is all; few = rw (w.values-is, w.push.ensures.items) (omega (arith, c.loop-i.invariant.few, length-append c.loop-i.values.items (v ∷ []))) }
      | else-not-contains w ↦
          record { values = rw w.values-is (so_far ∙ sym (values_again own i v (sym c.in-Some.ensures) (is ∙ w.if-not-contains.false))); few = rw w.values-is (omega (arith, c.loop-i.invariant.few)) }
    ]
