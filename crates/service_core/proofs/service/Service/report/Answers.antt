use Rattle.std.proofs.Common.{sym, subst}
use Rattle.service_core.specs.declared.command.Command.TheVariants as commands
use Rattle.service_core.specs.Rooms.{Applies, Entries}
use Rattle.service_core.proofs.Applying.{reports_room}
use Rattle.service_core.proofs.service.Service.report.Goals as goal

pub returns-in-Some : goal.returns-in-Some
returns-in-Some c =
    subst (λ (all : Entries). Applies all (commands.Report c.args.name.now) c.answer_report.result all) c.self.view_is
    (reports_room c.args.name.now c.answer_report.result c.self.inside.rooms.entries c.in-Some.room.now (sym c.in-Some.ensures.value) c.answer_report.ensures.reply c.answer_report.ensures.report c.answer_report.ensures.no_steps)
