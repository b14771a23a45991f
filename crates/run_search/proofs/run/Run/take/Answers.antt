use Rattle.std.proofs.Common.{◌≡◌, ℕ, List, Option, Some, get_or, length, set, sym, subst, ap, ◌∙◌, arith}
use Rattle.transcript.specs.declared.event.Event.{Event}
use Rattle.run_search.specs.declared.local_state.LocalState.{LocalState}
use Rattle.run_search.specs.Nodes.{IsRunTo, IsWithinRounds}
use Rattle.run_search.specs.States.{blank}
use Rattle.run_search.specs.Steps.{lasts, moved_by}
use Rattle.run_search.proofs.Walking.{run_more, state_within, width_of}
use Rattle.run_search.proofs.run.Run.take.Goals as goal

pub event_due-requires : goal.event_due-requires
event_due-requires c = let long = width_of c.args.spec.now c.args.self.now.events.items c.args.self.now.state.items c.requires.run in omega (arith, long, c.requires.process)

pub bounds-as_slice-p : goal.bounds-as_slice-p
bounds-as_slice-p c =
    let long = width_of c.args.spec.now c.args.self.now.events.items c.args.self.now.state.items c.requires.run in
    let same = ap (λ (l : List LocalState). length l) c.as_slice.ensures.value in
    omega (arith, long, same, c.requires.process)

pub moved-requires-clause-rounds : goal.moved-requires-clause-rounds
moved-requires-clause-rounds c =
    subst (λ (l : List LocalState). IsWithinRounds c.args.spec.now (get_or l c.args.p blank)) (sym c.as_slice.ensures.value) (state_within c.args.spec.now c.args.self.now.events.items c.args.self.now.state.items c.args.p c.requires.run c.requires.process)

pub set-requires : goal.set-requires
set-requires c = let long = width_of c.args.spec.now c.args.self.now.events.items c.args.self.now.state.items c.requires.run in omega (arith, long, c.requires.process)

pub returns-clause-run : goal.returns-clause-run
returns-clause-run c =
    let spec = c.args.spec.now in
    let p = c.args.p in
    let state = c.args.self.now.state.items in
    let local = get_or c.as_slice.result.now p blank in
    let moves : moved_by spec (lasts state) p (get_or state p blank) (get_or state p blank).due ≡ Some c.in-Some-moved.local =
    sym (c.in-Some-moved.ensures
    ∙ ap (λ (r : List (Option ℕ)). moved_by spec r p local local.due) c.row_of-row.ensures
    ∙ ap (λ (l : List LocalState). moved_by spec (lasts state) p (get_or l p blank) (get_or l p blank).due) c.as_slice.ensures.value) in
    subst (IsRunTo spec c.push.new.self.items) (sym c.set.ensures)
    (subst (λ (e : List Event). IsRunTo spec e (set state p c.in-Some-moved.local)) (sym c.in_ok-push.ensures.items)
    (run_more spec c.args.self.now.events.items state p c.in-Some.event c.in-Some-moved.local c.requires.run c.requires.process (sym c.in-Some.ensures) moves))
