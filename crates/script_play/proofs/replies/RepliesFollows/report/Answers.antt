use Rattle.std.proofs.Common.{[], refl}
use Rattle.service_core.specs.declared.reply.Reply.TheVariants as replies
use Rattle.script_play.proofs.replies.RepliesFollows.report.Goals as goal

pub returns-in_ok-write_lines-in-Ok : goal.returns-in_ok-write_lines-in-Ok
returns-in_ok-write_lines-in-Ok c =
    let is = c.in-Ok.ensures.reported in
    (replies.Report is.report, is.applies, refl, c.in_ok-write_lines-in-Ok.ensures is.report is.states is.crashed (is.history c.args.name.now [] c.begin.ensures))
