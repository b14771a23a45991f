use Rattle.view_outcomes.proofs.Both.{both_reported}
use Rattle.view_outcomes.proofs.keeping.judge_both.Goals as goal

pub returns : goal.returns
returns g c =
    both_reported c.args.task.now c.args.room.now.search.now c.args.room.now.spec.now c.args.room.now.block.now c.in_ok-well.well c.in_ok-kept.kept c.args.output.now c.judge_if_any.new.output c.judge_own.new.output c.in_ok-well.ensures
    c.in_ok-kept.ensures
