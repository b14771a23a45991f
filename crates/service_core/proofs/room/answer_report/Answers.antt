use Rattle.std.proofs.Common.{◌≡◌, subst}
use Rattle.ws_history.specs.declared.states.Report.{Report as ReportData}
use Rattle.service_core.specs.declared.reply.Reply.TheVariants as replies
use Rattle.ws_history.specs.Reports.{IsTrueReport}
use Rattle.service_core.proofs.Answering.{report_answers}
use Rattle.service_core.proofs.room.answer_report.Goals as goal

pub returns-in-Ok-clause-reply : goal.returns-in-Ok-clause-reply
returns-in-Ok-clause-reply c = λ granted name state is. report_answers c.args.room.now state name c.in-Ok.report is c.in-Ok.ensures.fields

same_report : (one other : ReportData) → replies.Report one ≡ replies.Report other → one ≡ other
same_report one other is = cc

pub returns-in-Ok-clause-report : goal.returns-in-Ok-clause-report
returns-in-Ok-clause-report c = λ report is fields are.
    subst (λ (r : ReportData). IsTrueReport c.args.room.now.spec fields r) (same_report c.in-Ok.report report is)
    (c.in-Ok.ensures.truth fields are)
