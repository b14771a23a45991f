use Rattle.view_outcomes.proofs.JudgingVectors.{unjudged_vector}
use Rattle.view_outcomes.proofs.inputs.judge_vector.Goals as goal

pub returns-in-Err-TooManyNodes : goal.returns-in-Err-TooManyNodes
returns-in-Err-TooManyNodes g c =
    unjudged_vector c.args.room.now.search.now c.args.room.now.spec.now c.in_ok-spec.spec c.args.room.now.block.now c.args.inputs.now c.args.output.now c.show_vector_unjudged.new.output
    c.in_ok-spec.ensures.room (c.in-Err-TooManyNodes.ensures.beyond c.in-Err-TooManyNodes.field-0-is) c.in_ok-show_vector_unjudged-in-Err-TooManyNodes.ensures
