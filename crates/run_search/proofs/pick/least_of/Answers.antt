use Rattle.std.proofs.Common.{get_or, Some, sym, ap, ◌∙◌, arith, inl, inr}
use Rattle.std.proofs.lemmas.List.Elements.{Contains-get_or}
use Rattle.std.proofs.lemmas.Option.{get_or_from_slice_get, slice_get-get_or}
use Rattle.run_search.specs.declared.local_state.LocalState.{LocalState}
use Rattle.run_search.specs.Outcomes.{ended}
use Rattle.run_search.specs.States.{blank}
use Rattle.run_search.proofs.Picking.{ends_more, least_all, least_end}
use Rattle.run_search.proofs.pick.least_of.Goals as goal

pub add_least-requires : goal.add_least-requires
add_least-requires c =
    let i = c.loop-local.local-index in
    (get_or c.args.set.now i blank, Contains-get_or c.args.set.now i blank c.loop-local-test.true, sym c.end_of.ensures)

pub loop-local-preserved : goal.loop-local-preserved
loop-local-preserved c =
    let set = c.args.set.now in
    let i = c.loop-local.local-index in
    let added = c.in_ok-add_least.ensures in
    record {
      each = λ option there. elim (added.each option there) [
        | inl before ↦ c.loop-local.invariant.each option before
        | inr least ↦ least_end set c.end_of.result option least
      ];
      all = ends_more set c.loop-local.options.items c.add_least.new.options.items i added.there.0 c.loop-local-test.true c.loop-local.invariant.all added.kept added.there.1 (added.there.2 ∙ c.end_of.ensures);
    }

pub returns : goal.returns
returns c =
    let set = c.args.set.now in
    least_all set c.loop-local.options.items c.loop-local.invariant.each (λ local there.
    let one = c.loop-local.invariant.all there.0 (let inside = there.1 in omega (arith, inside, c.loop-local-test.false)) in
    (one.0, one.1, one.2 ∙ ap (λ (l : LocalState). ended l.due) (get_or_from_slice_get set there.0 local blank (slice_get-get_or set there.0 local there.1 ∙ ap Some there.2))))
