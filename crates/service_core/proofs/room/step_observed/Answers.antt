use Rattle.std.proofs.Common.{◌∙◌, ℕ, length, ap, sym, subst}
use Rattle.room_core.specs.Observing.{steps_of_steps}
use Rattle.service_core.specs.Replies.{stepping}
use Rattle.service_core.specs.Rooms.{IsSteppedTo, room_stepped}
use Rattle.service_core.proofs.Answering.{step_answers}
use Rattle.service_core.proofs.Leaving.{taken_by}
use Rattle.service_core.proofs.room.step_observed.Goals as goal

pub returns-clause-reply : goal.returns-clause-reply
returns-clause-reply g c = λ name state is.
    let room = c.args.room.now in
    let stepped = subst (λ (i : ℕ). IsSteppedTo (stepping room.spec state.fields i c.args.count) c.steps_observed.result c.steps_observed.new.room) c.from.ensures (c.steps_observed.ensures.fields state.fields is.fields) in
    step_answers room c.steps_observed.new.room state name c.args.sim c.args.count c.steps_observed.result is (sym c.has_simulator.ensures ∙ c.if-not-has_simulator.false) c.steps_observed.ensures.spec stepped

pub returns-clause-left : goal.returns-clause-left
returns-clause-left g c = c.steps_observed.ensures.left ∙ ap (λ (i : ℕ). room_stepped c.args.room.now i c.args.count) c.from.ensures

pub returns-clause-taken : goal.returns-clause-taken
returns-clause-taken g c = λ number last is.
    ap (λ (i : ℕ). length (steps_of_steps c.args.room.now i c.args.count)) (sym c.from.ensures) ∙ c.steps_observed.ensures.taken ∙ taken_by c.steps_observed.result.0 c.steps_observed.result.1 number last is
