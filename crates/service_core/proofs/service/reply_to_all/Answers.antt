use Rattle.std.proofs.Common.{◌++◌, ◌∷◌, [], List, sym, subst, arith, length-append}
use Rattle.service_core.specs.declared.reply.Reply.{Reply}
use Rattle.service_core.specs.Rooms.{Applies}
use Rattle.service_core.proofs.Running.{Ran, goes_on}
use Rattle.service_core.proofs.service.reply_to_all.Goals as goal

pub loop-command-preserved : goal.loop-command-preserved
loop-command-preserved c =
    let ran = c.loop-command.invariant.2 in
    let applies : Applies c.loop-command.service c.in-Some.command c.apply-reply.result c.apply-reply.new.self = record { answer = c.apply-reply.ensures.reply; others = c.apply-reply.ensures.others; report = c.apply-reply.ensures.report; want = c.apply-reply.ensures.want; refused = c.apply-reply.ensures.refused; room = c.apply-reply.ensures.room; taken = c.apply-reply.ensures.taken } in (
      tt,
      tt,
      subst (λ (all : List Reply). Ran (c.loop-command.yielded ++ c.in-Some.command ∷ []) all c.apply-reply.new.self) (sym c.push_reserved.ensures.items)
          (goes_on c.loop-command.yielded c.loop-command.replies.items c.in-Some.command c.apply-reply.result c.loop-command.service c.apply-reply.new.self ran applies),
      let more = length-append c.loop-command.yielded (c.in-Some.command ∷ []) in omega (arith, more, c.push_reserved.ensures.len, c.loop-command.invariant.3),
      omega (arith, c.push_reserved.ensures.capacity, c.loop-command.invariant.4),
    )
