use Rattle.std.proofs.Common.{Some, get_or, sym, subst, ap, ◌∙◌, arith, inl, inr}
use Rattle.std.proofs.lemmas.Bool.{cases_eq}
use Rattle.std.proofs.lemmas.Option.{get_or_from_slice_get, slice_get-get_or}
use Rattle.run_search.specs.declared.choice.Choice.{Choice}
use Rattle.run_search.specs.declared.ended.Ended.{Ended}
use Rattle.run_search.specs.declared.local_state.LocalState.{LocalState}
use Rattle.run_search.specs.Choices.{HasChoice, MayEnd}
use Rattle.run_search.specs.Outcomes.{ended}
use Rattle.run_search.specs.States.{blank, events_of}
use Rattle.run_search.proofs.Closing.{read_there}
use Rattle.run_search.proofs.choice.add_all.Goals as goal

pub loop-local-preserved : goal.loop-local-preserved
loop-local-preserved c =
    let set = c.args.set.now in
    let i = c.loop-local.local-index in
    let local = get_or set i blank in
    let new = c.add.new.choices.items in
    let added = c.in_ok-add.ensures in
    let here = subst (λ (e : Ended). HasChoice new c.args.p e (events_of local)) c.end_of-end.ensures (subst (HasChoice new c.args.p c.end_of-end.result) c.events_of.ensures.value added.there) in
    record {
      each = λ one there. elim (added.each one there) [
        | inl before ↦ c.loop-local.invariant.each one before
        | inr same ↦
            inr (
              ap (λ (x : Choice). x.process) same,
              record {
                local = local;
                there = read_there set i c.loop-local-test.true;
                end_is = sym c.end_of-end.ensures ∙ sym (ap (λ (x : Choice). x.end) same);
                events_are = sym c.events_of.ensures.value ∙ sym (ap (λ (x : Choice). x.events) same);
              },
            )
      ];
      all = λ k below may. elim (cases_eq k i) [
        | inl same ↦ subst (λ j. HasChoice new c.args.p (ended (get_or set j blank).due) (events_of (get_or set j blank))) (sym same) here
        | inr other ↦ added.kept c.args.p (ended (get_or set k blank).due) (events_of (get_or set k blank)) (c.loop-local.invariant.all k (omega (arith, below, other)) may)
      ];
      kept = λ q end events has. added.kept q end events (c.loop-local.invariant.kept q end events has);
    }

pub returns-clause-all : goal.returns-clause-all
returns-clause-all c = λ local there may.
    let same = get_or_from_slice_get c.args.set.now there.0 local blank (slice_get-get_or c.args.set.now there.0 local there.1 ∙ ap Some there.2) in
    subst (λ (l : LocalState). MayEnd c.args.crashes (ended l.due) → HasChoice c.loop-local.choices.items c.args.p (ended l.due) (events_of l)) same
    (c.loop-local.invariant.all there.0 (let inside = there.1 in omega (arith, inside, c.loop-local-test.false))) may
