use Rattle.std.proofs.Common.{◌∷◌, ◌++◌, [], ℕ, Some, get_or, sym, subst, ap, ◌∙◌, arith, inl, inr}
use Rattle.std.proofs.lemmas.Bool.{cases_eq}
use Rattle.std.proofs.lemmas.List.Elements.{Contains-get_or}
use Rattle.std.proofs.lemmas.Option.{get_or_from_slice_get, slice_get-get_or}
use Rattle.run_search.specs.declared.local_state.LocalState.{LocalState}
use Rattle.run_search.specs.Picks.{HasStandIn}
use Rattle.run_search.specs.States.{State, blank}
use Rattle.run_search.proofs.pick.extend_one.Goals as goal

pub loop-option-preserved : goal.loop-option-preserved
loop-option-preserved c =
    let spec = c.args.spec.now in
    let most = c.args.most in
    let options = c.args.options.now in
    let pick = c.args.pick.now.items in
    let i = c.loop-option.option-index in
    let new = c.add.new.picks.items in
    let added = c.in_ok-add.ensures in
    let here = subst (HasStandIn spec most new) c.with.ensures added.there in
    record {
      each = λ one there. elim (added.each one there) [
        | inl before ↦ c.loop-option.invariant.each one before
        | inr last ↦ inr (get_or options i blank, Contains-get_or options i blank c.loop-option-test.true, ap (λ (s : State). s.items) last ∙ c.with.ensures)
      ];
      all = λ k less. elim (cases_eq k i) [
        | inl same ↦ subst (λ (j : ℕ). HasStandIn spec most new (pick ++ get_or options j blank ∷ [])) (sym same) here
        | inr other ↦ added.kept (pick ++ get_or options k blank ∷ []) (c.loop-option.invariant.all k (omega (arith, less, other)))
      ];
      kept = λ state stand. added.kept state (c.loop-option.invariant.kept state stand);
    }

pub returns-clause-all : goal.returns-clause-all
returns-clause-all c = λ option there.
    let spec = c.args.spec.now in
    let most = c.args.most in
    let pick = c.args.pick.now.items in
    let same = get_or_from_slice_get c.args.options.now there.0 option blank (slice_get-get_or c.args.options.now there.0 option there.1 ∙ ap Some there.2) in
    subst (λ (o : LocalState). HasStandIn spec most c.loop-option.picks.items (pick ++ o ∷ [])) same
    (c.loop-option.invariant.all there.0 (let inside = there.1 in omega (arith, inside, c.loop-option-test.false)))
