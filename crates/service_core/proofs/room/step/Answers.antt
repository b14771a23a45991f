use Rattle.std.proofs.Common.{◌∙◌, ℕ, length, ap, sym, subst}
use Rattle.room_core.specs.Observing.{steps_of_steps}
use Rattle.service_core.specs.Replies.{stepping}
use Rattle.service_core.specs.Rooms.{IsSteppedTo, room_stepped}
use Rattle.service_core.proofs.Answering.{no_step, step_answers}
use Rattle.service_core.proofs.Leaving.{taken_by}
use Rattle.service_core.proofs.room.step.Goals as goal

pub returns-then-not-has_simulator-clause-reply : goal.returns-then-not-has_simulator-clause-reply
returns-then-not-has_simulator-clause-reply c = λ name state is.
    no_step c.args.room.now state name c.args.sim c.args.count is (sym c.has_simulator.ensures ∙ c.if-not-has_simulator.true)

pub returns-clause-reply : goal.returns-clause-reply
returns-clause-reply c = λ name state is.
    let room = c.args.room.now in
    let stepped = subst (λ (i : ℕ). IsSteppedTo (stepping room.spec state.fields i c.args.count) c.steps.result c.steps.new.room) c.from.ensures (c.steps.ensures.fields state.fields is.fields) in
    step_answers room c.steps.new.room state name c.args.sim c.args.count c.steps.result is (sym c.has_simulator.ensures ∙ c.if-not-has_simulator.false) c.steps.ensures.spec stepped

pub returns-clause-left : goal.returns-clause-left
returns-clause-left c = c.steps.ensures.left ∙ ap (λ (i : ℕ). room_stepped c.args.room.now i c.args.count) c.from.ensures

pub returns-clause-taken : goal.returns-clause-taken
returns-clause-taken c = λ number last is.
    ap (λ (i : ℕ). length (steps_of_steps c.args.room.now i c.args.count)) (sym c.from.ensures) ∙ c.steps.ensures.taken ∙ taken_by c.steps.result.0 c.steps.result.1 number last is
