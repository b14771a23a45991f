use Rattle.std.proofs.Common.{rules, ◌≡◌, ◌≢◌, ◌∙◌, Bool, true, false, List, get_or, ap, sym, subst}
use Rattle.room_core.specs.Calls.{RoomState, configuration_of, has_crashed, step_reply}
use Rattle.room_core.specs.declared.reply.StepReply.TheVariants.{Stepped}
use Rattle.room_core.specs.Rooms.{IsShaped}
use Rattle.room_core.proofs.settling.Alone.{has_step, has_step_means, woken_up, took_one, took_none}
use Rattle.room_core.proofs.settling.Observed.{crashed_runs, runs, runs_alone, starts}
use Rattle.room_core.proofs.room.RoomCore.run_alone.Goals as goal

pub returns-then-deref-i : goal.returns-then-deref-i
returns-then-deref-i g c =
    let room : RoomState = c.args.self.now in
    let gone : has_crashed room c.args.i ≡ true = ap (λ (l : List Bool). get_or l c.args.i false) (sym (c.deref.ensures.0 ∙ ap (λ (r : RoomState). r.crashed) c.self.view_is)) ∙ c.if-deref-i.true in
    crashed_runs g.W.Observer.sees room c.args.observer.now c.args.i gone

pub loop-init : goal.loop-init
loop-init g c =
    let room : RoomState = c.args.self.now in
    let shape : IsShaped (configuration_of room) = subst (λ (r : RoomState). IsShaped (configuration_of r)) c.self.view_is c.self.invariant.is_room.shape in
    let alive : has_crashed room c.args.i ≡ false = ap (λ (l : List Bool). get_or l c.args.i false) (sym (c.deref.ensures.0 ∙ ap (λ (r : RoomState). r.crashed) c.self.view_is)) ∙ c.if-deref-i.false in
    starts g.W.Observer.sees has_step c.args.i (has_step_means c.args.i) c.wake.new.self c.args.observer.now (woken_up room c.wake.new.self c.args.i (record { shape = shape; below = c.requires; alive = alive }) c.wake.ensures)

pub loop-preserved : goal.loop-preserved
loop-preserved g c =
    let room : RoomState = c.loop.self in
    let stepped : c.step.result ≡ Stepped = search rules in
    (runs g.W.Observer.sees has_step c.args.i (has_step_means c.args.i) c.wake.new.self c.args.observer.now room c.loop.observer c.step.new.room c.step.new.self c.loop.invariant
    (took_one room c.args.i c.loop.invariant.up (sym c.step.ensures.reply ∙ stepped)) (sym c.step.ensures.reply ∙ stepped) c.step.ensures.room (c.step.ensures.seen stepped)).0

pub loop-smaller : goal.loop-smaller
loop-smaller g c =
    let room : RoomState = c.loop.self in
    let stepped : c.step.result ≡ Stepped = search rules in
    (runs g.W.Observer.sees has_step c.args.i (has_step_means c.args.i) c.wake.new.self c.args.observer.now room c.loop.observer c.step.new.room c.step.new.self c.loop.invariant
    (took_one room c.args.i c.loop.invariant.up (sym c.step.ensures.reply ∙ stepped)) (sym c.step.ensures.reply ∙ stepped) c.step.ensures.room (c.step.ensures.seen stepped)).1

pub returns : goal.returns
returns g c =
    let room : RoomState = c.args.self.now in
    let end : RoomState = c.loop.self in
    let other : c.step.result ≢ Stepped = search rules in
    let none : step_reply end c.args.i ≢ Stepped = λ is. other (c.step.ensures.reply ∙ is) in
    let alive : has_crashed room c.args.i ≡ false = ap (λ (l : List Bool). get_or l c.args.i false) (sym (c.deref.ensures.0 ∙ ap (λ (r : RoomState). r.crashed) c.self.view_is)) ∙ c.if-deref-i.false in
    runs_alone g.W.Observer.sees room c.wake.new.self end c.step.new.room c.args.observer.now c.loop.observer c.step.new.self c.args.i alive c.wake.ensures c.loop.invariant
    (took_none end c.args.i c.loop.invariant.up none) none c.step.ensures.room (c.step.ensures.blind other)
