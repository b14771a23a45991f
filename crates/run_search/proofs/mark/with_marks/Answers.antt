use Rattle.std.proofs.Common.{◌≡◌, ℕ, ◌*◌, ◌%◌, ◌^◌, Some, get_or, bit_or, sym, subst, ap, ◌∙◌, arith, below_more, inl, inr}
use Rattle.std.specs.Int.{bit_at}
use Rattle.std.proofs.lemmas.Option.{get_or_from_slice_get, slice_get-get_or}
use Rattle.run_search.specs.Marks.{mark_of}
use Rattle.run_search.specs.States.{blank}
use Rattle.run_search.specs.declared.local_state.LocalState.{LocalState}
use Rattle.run_search.proofs.Closing.{read_there}
use Rattle.run_search.proofs.Marking.{bit_cases, bit_here, bit_kept}
use Rattle.run_search.proofs.mark.with_marks.Goals as goal

pub loop-local-preserved : goal.loop-local-preserved
loop-local-preserved c =
    let old = c.loop-local.all in
    let mark = c.mark_of.result in
    let few = c.mark_of.ensures.few in
    let before = c.loop-local.invariant in
    let local = get_or c.args.set.now c.loop-local.local-index blank in
    record {
      kept = λ k is. bit_kept old mark k few (before.kept k is);
      all = below_more _ _ (λ i below. bit_kept old mark (mark_of c.args.p (get_or c.args.set.now i blank)) few (before.all i below))
          (subst (λ (k : ℕ). bit_at (bit_or old (1 * 2 ^ mark % 2 ^ 64)) k ≡ 1) c.mark_of.ensures.value (bit_here old mark few));
      each = λ k is. elim (bit_cases old mark k few is) [
        | inl was ↦ before.each k was
        | inr here ↦ inr (local, read_there c.args.set.now c.loop-local.local-index c.loop-local-test.true, sym c.mark_of.ensures.value ∙ here)
      ];
    }

pub returns-clause-all : goal.returns-clause-all
returns-clause-all c = λ local there.
    let set = c.args.set.now in
    let is = get_or_from_slice_get set there.0 local blank (slice_get-get_or set there.0 local there.1 ∙ ap Some there.2) in
    subst (λ (one : LocalState). bit_at c.loop-local.all (mark_of c.args.p one) ≡ 1) is (c.loop-local.invariant.all there.0 (let below = there.1 in omega (arith, below, c.loop-local-test.false)))
