use Rattle.std.proofs.Common.{sym, ◌∙◌}
use Rattle.script_play.specs.Play.{Replied}
use Rattle.room_files.specs.declared.fault.TextFault.TheVariants.{NoCommand}
use Rattle.live_script.specs.Answers.{Did, Malformed}
use Rattle.live_script.proofs.Answering.{command_answered, malformed_answered, where_ok}
use Rattle.live_script.proofs.live.Live.take_line.Goals as goal

pub returns-in-Some : goal.returns-in-Some
returns-in-Some c =
    where_ok c.reply_to.result _ _
    (λ taken. (
      Did (Replied c.in-Some.command taken.0),
      command_answered c.args.line.now c.in-Some.command c.args.self.now c.pass-number.new.self c.reply_to.new.self taken.0 c.pass-number.ensures.line (sym c.read_command.ensures.exact ∙ c.in-Some.is) taken.1,
    ))
    c.reply_to.ensures

pub returns-in-None : goal.returns-in-None
returns-in-None c =
    where_ok c.refuse_line.result _ _
    (λ refused. (
      Malformed c.args.self.now.line NoCommand,
      malformed_answered c.args.line.now c.pass-number.result c.args.self.now c.pass-number.new.self c.refuse_line.new.self c.pass-number.ensures.line (sym c.read_command.ensures.exact ∙ c.in-None.is) c.pass-number.ensures.number refused,
    ))
    c.refuse_line.ensures
