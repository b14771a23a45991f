use Rattle.room_spec.specs.Texts.{is_space}
use Rattle.script_play.proofs.Scripts.{no_command}
use Rattle.script_play.proofs.entries.command_with.Goals as goal

pub returns-in_default-None-cut : goal.returns-in_default-None-cut
returns-in_default-None-cut c =
    let pieces = rw c.in_default-Some.is-1 at c.cut.ensures.pieces in
    let behind = rw (c.in_default-Some.others-is, c.in_default-None-cut.is-1) at c.cut-in_default-Some.ensures.pieces in
    rw (pieces, behind) c.step_command.ensures

pub returns-in_default-Some-cut : goal.returns-in_default-Some-cut
returns-in_default-Some-cut c =
    let pieces = rw c.in_default-Some.is-1 at c.cut.ensures.pieces in
    let behind = rw (c.in_default-Some.others-is, c.in_default-Some-cut.is-1) at c.cut-in_default-Some.ensures.pieces in
    rw (pieces, behind) (no_command is_space c.args.word.now c.args.name c.cut.result.0.now c.cut-in_default-Some.result.0.now c.in_default-Some-cut.field-0-1.now)
