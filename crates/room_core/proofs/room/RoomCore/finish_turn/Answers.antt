use Rattle.std.proofs.Common.{◌≡◌, ◌∙◌, Bool, true, false, not, List, get_or, ap, sym, subst}
use Rattle.simulator.specs.Minds.{MindState}
use Rattle.simulator.specs.Sweeps.{is_resting}
use Rattle.room_core.specs.Calls.{RoomState, configuration_of, has_crashed, step_reply, sweep_at}
use Rattle.room_core.specs.declared.reply.StepReply.TheVariants.{Stepped}
use Rattle.room_core.specs.Rooms.{IsShaped}
use Rattle.room_core.proofs.settling.Alone.{in_turn, in_turn_means, takes_one}
use Rattle.room_core.proofs.settling.Observed.{crashed_ends, ended, runs, starts, turn_ends}
use Rattle.room_core.proofs.room.RoomCore.finish_turn.Goals as goal

pub returns-then-deref-i : goal.returns-then-deref-i
returns-then-deref-i g c =
    let room : RoomState = c.args.self.now in
    let gone : has_crashed room c.args.i ≡ true = ap (λ (l : List Bool). get_or l c.args.i false) (sym (c.deref.ensures.0 ∙ ap (λ (r : RoomState). r.crashed) c.self.view_is)) ∙ c.if-deref-i.true in
    crashed_ends g.W.Observer.sees room c.args.observer.now c.args.i gone

pub loop-observer-init : goal.loop-observer-init
loop-observer-init g c =
    let room : RoomState = c.args.self.now in
    let shape : IsShaped (configuration_of room) = subst (λ (r : RoomState). IsShaped (configuration_of r)) c.self.view_is c.self.invariant.is_room.shape in
    let alive : has_crashed room c.args.i ≡ false = ap (λ (l : List Bool). get_or l c.args.i false) (sym (c.deref.ensures.0 ∙ ap (λ (r : RoomState). r.crashed) c.self.view_is)) ∙ c.if-deref-i.false in
    starts g.W.Observer.sees in_turn c.args.i (in_turn_means c.args.i) room c.args.observer.now (record { shape = shape; below = c.requires; alive = alive })

pub loop-observer-preserved : goal.loop-observer-preserved
loop-observer-preserved g c =
    let room : RoomState = c.loop-observer.self in
    let rests : is_resting (sweep_at room c.args.i).mind.line ≡ false = ap (λ (mind : MindState). is_resting mind.line) (sym c.mind.ensures.value) ∙ sym c.resting.ensures ∙ c.loop-observer-test.true in
    let turn : in_turn room c.args.i ≡ true = ap not rests in
    let stepped : step_reply room c.args.i ≡ Stepped = takes_one room c.args.i c.loop-observer.invariant.up (in_turn_means c.args.i room turn) in
    (runs g.W.Observer.sees in_turn c.args.i (in_turn_means c.args.i) c.args.self.now c.args.observer.now room c.loop-observer.observer c.step.new.room c.step.new.self c.loop-observer.invariant turn stepped c.step.ensures.room
    (c.step.ensures.seen (c.step.ensures.reply ∙ stepped))).0

pub loop-observer-smaller : goal.loop-observer-smaller
loop-observer-smaller g c =
    let room : RoomState = c.loop-observer.self in
    let rests : is_resting (sweep_at room c.args.i).mind.line ≡ false = ap (λ (mind : MindState). is_resting mind.line) (sym c.mind.ensures.value) ∙ sym c.resting.ensures ∙ c.loop-observer-test.true in
    let turn : in_turn room c.args.i ≡ true = ap not rests in
    let stepped : step_reply room c.args.i ≡ Stepped = takes_one room c.args.i c.loop-observer.invariant.up (in_turn_means c.args.i room turn) in
    (runs g.W.Observer.sees in_turn c.args.i (in_turn_means c.args.i) c.args.self.now c.args.observer.now room c.loop-observer.observer c.step.new.room c.step.new.self c.loop-observer.invariant turn stepped c.step.ensures.room
    (c.step.ensures.seen (c.step.ensures.reply ∙ stepped))).1

pub returns : goal.returns
returns g c =
    let room : RoomState = c.args.self.now in
    let rests : is_resting (sweep_at c.loop-observer.self c.args.i).mind.line ≡ true = ap (λ (mind : MindState). is_resting mind.line) (sym c.mind.ensures.value) ∙ sym c.resting.ensures ∙ c.loop-observer-test.false in
    let alive : has_crashed room c.args.i ≡ false = ap (λ (l : List Bool). get_or l c.args.i false) (sym (c.deref.ensures.0 ∙ ap (λ (r : RoomState). r.crashed) c.self.view_is)) ∙ c.if-deref-i.false in
    turn_ends g.W.Observer.sees room c.loop-observer.self c.args.observer.now c.loop-observer.observer c.args.i (in_turn_means c.args.i) alive
    (ended g.W.Observer.sees in_turn c.args.i (in_turn_means c.args.i) room c.args.observer.now c.loop-observer.self c.loop-observer.observer c.loop-observer.invariant (ap not rests))
