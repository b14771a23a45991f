use Rattle.bgsim_command_line.proofs.Subcommands.{all_grown, grown}
use Rattle.bgsim_command_line.proofs.command_line.command.Goals as goal

pub returns : goal.returns
returns c =
    let check_is = grown _ _ _ c.check_command.result _ c.plain_command.ensures c.check_command.ensures.app c.check_command.ensures.local c.in_ok-with_check.ensures in
    let play_is = grown _ _ _ c.play_command.result _ check_is c.play_command.ensures.app c.play_command.ensures.local c.in_ok-with_play.ensures in
    all_grown _ _ _ c.run_command.result _ play_is c.run_command.ensures.app c.run_command.ensures.local c.with_subcommand-3.ensures
