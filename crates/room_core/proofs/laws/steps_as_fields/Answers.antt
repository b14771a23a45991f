use Rattle.room_core.specs.Rooms.{steps, crashes}
use Rattle.room_core.proofs.fields.Replays.{shape_after}
use Rattle.room_core.proofs.fields.FieldReplays.{event_stands, opening_stands}
use Rattle.room_core.proofs.fields.FieldCalls.{fields_stand}
use Rattle.room_core.proofs.laws.steps_as_fields.Goals as goal

pub returns : goal.returns
returns c = record {
  opens = λ spec. opening_stands spec;
  line = λ room fields i shape for may. (shape_after room (steps i) may shape, event_stands room fields (steps i) shape may for);
  crash = λ room fields i shape for may. (shape_after room (crashes i) may shape, event_stands room fields (crashes i) shape may for);
  always = λ room fields limits are. fields_stand room fields limits are;
}
