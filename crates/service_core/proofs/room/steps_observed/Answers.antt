use Rattle.std.proofs.Common.{◌≡◌, ◌∙◌, ℕ, sym, subst, arith}
use Rattle.room_spec.specs.Rooms.{IsWithinLimits}
use Rattle.service_core.proofs.Stepping.{IsOnTheWay, all_done, goes_on, stops_at}
use Rattle.service_core.proofs.room.steps_observed.Goals as goal

pub loop-taken-preserved : goal.loop-taken-preserved
loop-taken-preserved g c =
    let limits = subst IsWithinLimits c.spec.ensures.value c.shape-shape.ensures.limits in
    goes_on g.W.Observer.sees c.args.i c.args.count c.args.room.now c.args.observer.now c.loop-taken.taken c.loop-taken.room c.step.new.room c.loop-taken.observer c.step.new.self
    limits (omega arith) c.loop-taken.invariant (sym c.step.ensures.reply ∙ c.in-Stepped.is) c.step.ensures.room (c.step.ensures.seen c.in-Stepped.is)

pub returns-in_default : goal.returns-in_default
returns-in_default g c =
    let limits = subst IsWithinLimits c.spec.ensures.value c.shape-shape.ensures.limits in
    let over = stops_at g.W.Observer.sees c.args.i c.args.count c.args.room.now c.args.observer.now c.loop-taken.taken c.loop-taken.room c.step.new.room c.loop-taken.observer c.step.new.self c.step.result
    limits (omega arith) c.loop-taken.invariant c.step.ensures.reply c.in_default.not-Stepped c.step.ensures.room (c.step.ensures.blind c.in_default.not-Stepped) in
    record { fields = over.fields; spec = over.same; left = over.left; taken = over.so_many; seen = over.seen }

pub returns-clause-fields : goal.returns-clause-fields
returns-clause-fields g c =
    let all : c.loop-taken.taken ≡ c.args.count = omega arith in
    let on = subst (λ (n : ℕ). IsOnTheWay g.W.Observer.sees c.args.i c.args.count c.args.room.now c.args.observer.now n c.loop-taken.room c.loop-taken.observer) all c.loop-taken.invariant in
    let over = all_done g.W.Observer.sees c.args.i c.args.count c.args.room.now c.args.observer.now c.loop-taken.room c.loop-taken.observer on in
    over.fields
