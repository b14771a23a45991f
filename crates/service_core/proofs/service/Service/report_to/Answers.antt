use Rattle.std.proofs.Common.{sym, subst}
use Rattle.service_core.specs.declared.command.Command.TheVariants as commands
use Rattle.service_core.specs.declared.reply.Refusal.TheVariants.{OutOfMemory}
use Rattle.service_core.specs.declared.reply.Reply.TheVariants.{Refused}
use Rattle.service_core.specs.Rooms.{Applies, Entries, IsReported}
use Rattle.service_core.proofs.Applying.{lacks_report, reported_room}
use Rattle.service_core.proofs.service.Service.report_to.Goals as goal

pub returns-in-Ok-clause-reported : goal.returns-in-Ok-clause-reported
returns-in-Ok-clause-reported g c =
    let has = g.S.EventSink.has_taken in
    subst (λ (all : Entries). IsReported all c.args.name.now c.in-Ok.standing (has c.args.sink.now) (has c.report_to.new.sink)) c.self.view_is
    (reported_room c.args.name.now c.self.inside.rooms.entries c.in-Some.room.now c.in-Ok.standing (has c.args.sink.now) (has c.report_to.new.sink) (sym c.in-Some.ensures.value) c.in-Ok.ensures)

pub returns-in-Err-clause-refused : goal.returns-in-Err-clause-refused
returns-in-Err-clause-refused g c =
    subst (λ (all : Entries). Applies all (commands.Report c.args.name.now) (Refused OutOfMemory) all) c.self.view_is
    (lacks_report c.args.name.now c.self.inside.rooms.entries c.in-Some.room.now (sym c.in-Some.ensures.value))
