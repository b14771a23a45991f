use Rattle.std.proofs.Common.{List, get_or, length, sym, ap, ◌∙◌, arith}
use Rattle.run_search.specs.declared.local_state.LocalState.{LocalState}
use Rattle.run_search.specs.States.{blank}
use Rattle.run_search.proofs.Same.{other_local}
use Rattle.run_search.proofs.Walking.{way_more, way_step, width_of}
use Rattle.run_search.proofs.run.Run.go_alone.Goals as goal

pub offset_bounds-as_slice-p : goal.offset_bounds-as_slice-p
offset_bounds-as_slice-p c =
    let long = width_of c.args.spec.now c.loop-to.self.events.items c.loop-to.self.state.items c.loop-to.invariant.run in
    let same = ap (λ (l : List LocalState). length l) c.as_slice.ensures.value in
    omega (arith, long, same, c.requires.process, c.as_slice.ensures.fits)

pub bounds-as_slice-p : goal.bounds-as_slice-p
bounds-as_slice-p c =
    let long = width_of c.args.spec.now c.loop-to.self.events.items c.loop-to.self.state.items c.loop-to.invariant.run in
    let same = ap (λ (l : List LocalState). length l) c.as_slice.ensures.value in
    omega (arith, long, same, c.requires.process)

pub take-requires-clause-due : goal.take-requires-clause-due
take-requires-clause-due c =
    let read = ap (λ (l : List LocalState). get_or l c.args.p blank) c.as_slice.ensures.value in
    way_step c.args.spec.now c.args.self.now.state.items c.args.p c.args.to c.loop-to.self.events.items c.loop-to.self.state.items c.loop-to.invariant
    (λ same. other_local (get_or c.as_slice.result.now c.args.p blank) c.args.to (sym c.loop-to-test.true ∙ c.ne.ensures) (read ∙ same))

pub loop-to-smaller : goal.loop-to-smaller
loop-to-smaller c =
    let read = ap (λ (l : List LocalState). get_or l c.args.p blank) c.as_slice.ensures.value in
    let more = way_more c.args.spec.now c.args.self.now.state.items c.args.p c.args.to c.loop-to.self.events.items c.take.new.self.events.items c.loop-to.self.state.items c.take.new.self.state.items c.requires.process c.loop-to.invariant
    (λ same. other_local (get_or c.as_slice.result.now c.args.p blank) c.args.to (sym c.loop-to-test.true ∙ c.ne.ensures) (read ∙ same)) c.in_ok-take.ensures.run c.in_ok-take.ensures.state in
    omega (arith, more.1, more.2)

pub loop-to-preserved : goal.loop-to-preserved
loop-to-preserved c =
    let read = ap (λ (l : List LocalState). get_or l c.args.p blank) c.as_slice.ensures.value in
    (way_more c.args.spec.now c.args.self.now.state.items c.args.p c.args.to c.loop-to.self.events.items c.take.new.self.events.items c.loop-to.self.state.items c.take.new.self.state.items c.requires.process c.loop-to.invariant
    (λ same. other_local (get_or c.as_slice.result.now c.args.p blank) c.args.to (sym c.loop-to-test.true ∙ c.ne.ensures) (read ∙ same)) c.in_ok-take.ensures.run c.in_ok-take.ensures.state).0
