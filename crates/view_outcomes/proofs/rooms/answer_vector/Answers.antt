use Rattle.std.proofs.Common.{◌∙◌}
use Rattle.view_outcomes.proofs.AgreedInputs.{agreed_reported}
use Rattle.view_outcomes.proofs.rooms.answer_vector.Goals as goal

pub returns : goal.returns
returns g c =
    agreed_reported c.args.room.now.search.now c.args.room.now.spec.now c.in_ok-spec.spec c.args.room.now.block.now c.args.inputs.now c.as_bytes.result.now c.args.output.now c.show_agreed.new.output c.answer_one.new.output c.answer_one.result
    c.in_ok-spec.ensures.room (c.as_bytes.ensures ∙ c.in_ok-spec.ensures.block) c.in_ok-show_agreed.ensures c.answer_one.ensures
