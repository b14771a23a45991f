use Rattle.std.proofs.Common.{◌≡◌, ◌∙◌, subst}
use Rattle.room_files.specs.Blocks.{Setup}
use Rattle.room_files.specs.Inputs.{all_blocks}
use Rattle.room_files.specs.declared.kinds.Kinds.TheVariants.{All}
use Rattle.view_sample.specs.EachRoom.{IsRoomsOutput}
use Rattle.view_sample.specs.Inputs.{IsInputsText}
use Rattle.view_sample.proofs.RoomByRoom.{rooms_answered}
use Rattle.view_sample.proofs.inputs.sample_inputs.Goals as goal

pub returns : goal.returns
returns g c =
    let asked = c.args.asked.now in
    let read : Setup = record { rooms = c.rooms.inside.rooms.rooms; refused = c.rooms.inside.refused; line = c.rooms.inside.line } in
    let whole : read ≡ all_blocks All c.args.input.now = c.rooms.view_is ∙ c.in_ok-rooms.ensures.read in
    subst (λ (setup : Setup). IsRoomsOutput (IsInputsText asked.plan.now asked.values.now) asked.plan.now setup c.outcome_if.result c.write_last.new.output) whole
    (rooms_answered (IsInputsText asked.plan.now asked.values.now) asked.plan.now read c.is_empty-is_accepted.result c.in_ok-kept.kept c.outcome_if.result c.head_of-output.result c.write_rooms.new.output c.write_last.new.output c.head_of-output.ensures
    c.is_empty-is_accepted.ensures c.in_ok-kept.ensures c.in_ok-write_last.ensures c.outcome_if.ensures)
