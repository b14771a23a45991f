use Rattle.arrayvec.specs.ArrayVec.{ArrayVec}
use Rattle.std.proofs.Common.{Option, ℕ, ◌≡◌, refl, ◌∷◌, [], arith, inl, inr, List, subst, sym}
use Rattle.std.proofs.lemmas.Bool.{cases_eq}
use Rattle.run_search.specs.declared.local_state.LocalState.{LocalState}
use Rattle.run_search.specs.Nodes.{AreWithinRounds, IsGrown, set_of}
use Rattle.run_search.proofs.Closing.{pushed_kept, single_within, width_more}
use Rattle.run_search.proofs.node.Node.edge.Goals as goal

pub close-requires-clause-rounds : goal.close-requires-clause-rounds
close-requires-clause-rounds c =
    let q = c.loop-q.q in
    elim (cases_eq q c.args.place.process) [
      | inl same ↦ subst (AreWithinRounds c.args.spec.now) (sym (c.old_after-old.ensures.own same)) (single_within c.args.spec.now c.args.written.new c.requires.rounds)
      | inr other ↦ subst (AreWithinRounds c.args.spec.now) (sym (c.old_after-old.ensures.other other)) (c.requires.whole.rounds q (omega (arith, c.loop-q-test.true, c.n-q-end.ensures.value)))
    ]

pub loop-q-preserved : goal.loop-q-preserved
loop-q-preserved c =
    let spec = c.args.spec.now in
    let row = c.args.written.row.value.items in
    let q = c.loop-q.q in
    let p = c.args.place.process in
    let locals = c.in_ok-locals.locals in
    let one = c.in_ok-set.set in
    let closed = subst (λ (v : ArrayVec (Option ℕ)). IsGrown spec v.items q c.old_after-old.result.now locals.items) c.as_ref.ensures c.in_ok-locals.ensures in
    let grown = subst (IsGrown spec row q c.old_after-old.result.now) (sym c.in_ok-set.ensures) closed in
    record {
      width = width_more c.loop-q.all.items c.push.new.self.items one (λ s. s.value.items) q c.in_ok-push.ensures.items c.loop-q.invariant.width;
      own = pushed_kept (λ q set. q ≡ p → IsGrown spec row q (c.args.written.new ∷ []) set) c.loop-q.all.items c.push.new.self.items one (λ s. s.value.items) q c.in_ok-push.ensures.items c.loop-q.invariant.width c.loop-q.invariant.own
          (λ same. subst (λ (old : List LocalState). IsGrown spec row q old one.value.items) (c.old_after-old.ensures.own same) grown);
      others = pushed_kept (λ q set. (q ≡ p → ⊥) → IsGrown spec row q (set_of c.args.self.now q) set) c.loop-q.all.items c.push.new.self.items one (λ s. s.value.items) q c.in_ok-push.ensures.items c.loop-q.invariant.width c.loop-q.invariant.others
          (λ other. subst (λ (old : List LocalState). IsGrown spec row q old one.value.items) (c.old_after-old.ensures.other other) grown);
    }

pub returns-clause-next : goal.returns-clause-next
returns-clause-next c = record {
  width = let w = c.loop-q.invariant.width in omega (arith, w, c.loop-q-test.false, c.loop-q.auto.q-end, c.n-q-end.ensures.value);
  row = c.requires.row;
  own = c.loop-q.invariant.own c.args.place.process (omega (arith, c.requires.process, c.loop-q-test.false, c.n-q-end.ensures.value)) refl;
  others = λ q below other. c.loop-q.invariant.others q (omega (arith, below, c.loop-q-test.false, c.n-q-end.ensures.value)) other;
}
