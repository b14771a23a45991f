use Rattle.std.proofs.Common.{◌∙◌, Some, length, ap, sym, subst}
use Rattle.room_core.specs.Calls.{RoomState, Settle}
use Rattle.room_core.proofs.CallerLemmasOnSpecs.{same_spec}
use Rattle.service_core.specs.declared.command.Command.{Command}
use Rattle.service_core.specs.declared.command.Command.TheVariants as commands
use Rattle.service_core.specs.declared.reply.Reply.{Reply}
use Rattle.service_core.specs.declared.reply.Reply.TheVariants as replies
use Rattle.service_core.specs.Rooms.{Answers, command_for, steps_of}
use Rattle.service_core.proofs.Answering.{settle_answers}
use Rattle.service_core.proofs.room.answer.Goals as goal

pub returns-in-Step-clause-reply : goal.returns-in-Step-clause-reply
returns-in-Step-clause-reply g c = λ name state is.
    subst (λ (command : Command). Answers state command c.reply_to_steps.result c.step_observed.new.room) (ap (command_for name) (sym c.in-Step.is))
    (subst (λ (reply : Reply). Answers state (commands.Step name c.in-Step.sim c.in-Step.count) reply c.step_observed.new.room) (sym c.reply_to_steps.ensures) (c.step_observed.ensures.reply name state is))

pub returns-in-Crash-clause-reply : goal.returns-in-Crash-clause-reply
returns-in-Crash-clause-reply g c = λ name state is.
    subst (λ (command : Command). Answers state command c.crash.result c.crash.new.room) (ap (command_for name) (sym c.in-Crash.is)) (c.crash.ensures.reply name state is)

pub returns-in-Settle-clause-reply : goal.returns-in-Settle-clause-reply
returns-in-Settle-clause-reply g c = λ name state is.
    let same = ap (λ (r : RoomState). r.spec) c.settle_observed.ensures.room ∙ same_spec c.args.room.now Settle in
    subst (λ (command : Command). Answers state command replies.Settled c.settle_observed.new.self) (ap (command_for name) (sym c.in-Settle.is))
    (settle_answers c.args.room.now c.settle_observed.new.self state name is same (c.settle_observed.ensures.fields state.fields is.fields))

pub returns-in-Settle-clause-spec : goal.returns-in-Settle-clause-spec
returns-in-Settle-clause-spec g c = ap (λ (r : RoomState). r.spec) c.settle_observed.ensures.room ∙ same_spec c.args.room.now Settle

pub returns-in-Step-clause-taken : goal.returns-in-Step-clause-taken
returns-in-Step-clause-taken g c = λ name number last is.
    ap (λ (command : Command). length (steps_of (Some c.args.room.now) command)) (ap (command_for name) c.in-Step.is)
    ∙ c.step_observed.ensures.taken number last (sym c.reply_to_steps.ensures ∙ is)

pub returns-in-Crash-clause-taken : goal.returns-in-Crash-clause-taken
returns-in-Crash-clause-taken g c = λ name number last is. absurd (c.crash.ensures.no_steps number last is)
