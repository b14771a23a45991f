use Rattle.std.proofs.Common.{◌<◌, List, get_or, set, sym, subst, ap, ◌∙◌, arith}
use Rattle.room_spec.specs.Rooms.{processes}
use Rattle.run_search.specs.declared.local_state.LocalState.{LocalState}
use Rattle.run_search.specs.Nodes.{GoesAlone}
use Rattle.run_search.specs.States.{blank}
use Rattle.run_search.specs.Steps.{lasts}
use Rattle.run_search.proofs.Walking.{gone_all, gone_more, gone_step}
use Rattle.run_search.proofs.run.Run.go_to.Goals as goal

pub go_alone-requires-clause-goes : goal.go_alone-requires-clause-goes
go_alone-requires-clause-goes c =
    let spec = c.args.spec.now in
    let p = c.loop-p.p in
    let below : p < processes spec = omega (arith, c.loop-p-test.true, c.n-p-end.ensures.value) in
    let state = c.loop-p.self.state.items in
    let goes = gone_step spec c.args.self.now.state.items c.args.to.now.items p c.loop-p.self.events.items state c.loop-p.invariant (c.requires.goes p below) in
    (goes.0, subst (λ (l : List LocalState). GoesAlone spec (lasts state) p goes.0 (get_or state p blank) (get_or l p blank)) (sym c.as_slice.ensures.value) goes.1)

pub loop-p-preserved : goal.loop-p-preserved
loop-p-preserved c =
    let spec = c.args.spec.now in
    let p = c.loop-p.p in
    let below : p < processes spec = omega (arith, c.loop-p-test.true, c.n-p-end.ensures.value) in
    gone_more spec c.args.self.now.state.items c.args.to.now.items p c.loop-p.self.events.items c.go_alone.new.self.events.items c.loop-p.self.state.items c.go_alone.new.self.state.items below c.loop-p.invariant (c.requires.goes p below) c.in_ok-go_alone.ensures.run
    (c.in_ok-go_alone.ensures.state ∙ ap (λ (l : List LocalState). set c.loop-p.self.state.items p (get_or l p blank)) c.as_slice.ensures.value)

pub returns-clause-state : goal.returns-clause-state
returns-clause-state c =
    gone_all c.args.spec.now c.args.self.now.state.items c.args.to.now.items c.loop-p.p c.loop-p.self.events.items c.loop-p.self.state.items c.loop-p.invariant (let at = c.loop-p.auto.p-end in omega (arith, at, c.loop-p-test.false, c.n-p-end.ensures.value)) c.requires.width
