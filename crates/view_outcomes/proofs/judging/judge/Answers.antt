use Rattle.std.proofs.Common.{◌∙◌, sym}
use Rattle.view_outcomes.proofs.Answering.{judged_reported, taskless_reported, unjudged_reported}
use Rattle.view_outcomes.proofs.judging.judge.Goals as goal

pub returns-in_default : goal.returns-in_default
returns-in_default g c =
    taskless_reported c.args.room.now.search.now c.args.room.now.spec.now c.args.room.now.block.now c.args.output.now c.show_taskless.new.output (sym c.in_default.is ∙ c.task.ensures.value) c.in_ok-show_taskless.ensures

pub returns-in_ok-show_judgement-in-Ok : goal.returns-in_ok-show_judgement-in-Ok
returns-in_ok-show_judgement-in-Ok g c =
    judged_reported c.args.room.now.search.now c.args.room.now.spec.now c.args.room.now.block.now c.in-Ok.judgement c.is_kept.result c.args.output.now c.show_judgement.new.output c.in-Ok.ensures.judged c.is_kept.ensures
    c.in_ok-show_judgement-in-Ok.ensures

pub returns-in_ok-show_unjudged-in-Err-TooManyNodes : goal.returns-in_ok-show_unjudged-in-Err-TooManyNodes
returns-in_ok-show_unjudged-in-Err-TooManyNodes g c =
    unjudged_reported c.args.room.now.search.now c.args.room.now.spec.now c.args.room.now.block.now c.args.output.now c.show_unjudged.new.output (c.in-Err-TooManyNodes.ensures.beyond c.in-Err-TooManyNodes.field-0-is)
    c.in_ok-show_unjudged-in-Err-TooManyNodes.ensures
