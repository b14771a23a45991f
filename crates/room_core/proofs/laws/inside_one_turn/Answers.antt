use Rattle.room_core.proofs.fields.FieldCalls.{fields_stand}
use Rattle.room_core.proofs.agreements.Stages.{one_inside}
use Rattle.room_core.proofs.laws.inside_one_turn.Goals as goal

pub returns : goal.returns
returns c = λ room fields limits are i j k one. one_inside room.spec fields (fields_stand room fields limits are).tracks i j k one
