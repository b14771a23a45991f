use Rattle.std.proofs.Common.{◌≡◌, ℕ, List, sym, subst, arith, inl, inr}
use Rattle.std.specs.Int.{bit_at}
use Rattle.std.specs.List.{Contains}
use Rattle.std.proofs.lemmas.Bool.{cases_eq, cases_lt}
use Rattle.run_search.specs.Marks.{mark_of}
use Rattle.run_search.specs.Nodes.{set_of}
use Rattle.run_search.specs.declared.local_state.LocalState.{LocalState}
use Rattle.run_search.proofs.Closing.{none_past, sets_count}
use Rattle.run_search.proofs.Marking.{no_marks}
use Rattle.run_search.proofs.node.Node.marks.Goals as goal

pub loop-p-init : goal.loop-p-init
loop-p-init c = record {
  all = λ q local below. absurd (omega (arith, below));
  each = no_marks _;
}

pub loop-p-preserved : goal.loop-p-preserved
loop-p-preserved c =
    let p = c.loop-p.p in
    let node = c.args.self.now in
    let new = c.with_marks-marks.result in
    let count = sets_count c.self.inside.sets.items c.self.inside.row.value.items c.self.inside.origin node (λ s. s.value.items) c.self.view_is in
    record {
      all = λ q local below there. elim (cases_eq q p) [
        | inl same ↦
            subst (λ (r : ℕ). bit_at new (mark_of r local) ≡ 1) (sym same)
            (c.with_marks-marks.ensures.all local (subst (λ (l : List LocalState). Contains l local) (sym c.set.ensures) (subst (λ (r : ℕ). Contains (set_of node r) local) same there)))
        | inr other ↦ c.with_marks-marks.ensures.kept (mark_of q local) (c.loop-p.invariant.all q local (omega (arith, below, other)) there)
      ];
      each = λ k is. elim (c.with_marks-marks.ensures.each k is) [
        | inl was ↦ c.loop-p.invariant.each k was
        | inr here ↦ (p, here.0, (omega (arith, count, c.loop-p-test.true, c.len-p-end.ensures), subst (λ (l : List LocalState). Contains l here.0) c.set.ensures here.1), here.2)
      ];
    }

pub returns-clause-all : goal.returns-clause-all
returns-clause-all c = λ p local there.
    let node = c.args.self.now in
    let count = sets_count c.self.inside.sets.items c.self.inside.row.value.items c.self.inside.origin node (λ s. s.value.items) c.self.view_is in
    elim (cases_lt p c.loop-p.p) [
      | inl below ↦ c.loop-p.invariant.all p local below there
      | inr past ↦ absurd (none_past node p local (omega (arith, past, count, c.loop-p-test.false, c.len-p-end.ensures)) there)
    ]
