use Rattle.std.proofs.Common.{◌≡◌, ap, map, subst}
use Rattle.std.specs.Prelude.{IfOk}
use Rattle.std.proofs.lemmas.Result.{IfOk-weaker}
use Rattle.clap.specs.Kinds.{FailsBy}
use Rattle.clap.specs.Words.{App, fault_of, is_simple, is_simple_and_free, subcommand_of, subcommand_rows_of}
use Rattle.bgview_command_line.proofs.command_line.read_words.Goals as goal

pub returns-clause-sound : goal.returns-clause-sound
returns-clause-sound g c =
    let asked = c.in_ok-command.ensures in
    subst (λ (app : App). IfOk c.try_get_matches_from.result (λ matches. subcommand_rows_of matches ≡ subcommand_of app (map g.S.AsStr.text c.args.words.now))) asked
    (IfOk-weaker c.try_get_matches_from.result _ _ (λ matches has. (has (ap is_simple asked)).1) c.try_get_matches_from.ensures.matches)

pub returns-clause-kinds : goal.returns-clause-kinds
returns-clause-kinds g c =
    let asked = c.in_ok-command.ensures in
    subst (λ (app : App). FailsBy (fault_of app (map g.S.AsStr.text c.args.words.now)) c.try_get_matches_from.result) asked (c.try_get_matches_from.ensures.kinds (ap is_simple_and_free asked))
