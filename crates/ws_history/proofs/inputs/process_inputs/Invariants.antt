use Rattle.std.proofs.Common.{◌≡◌, map}
use Rattle.std.specs.List.{range_with_len}
use Rattle.arrayvec.specs.ArrayVec.{array_vec_len}
use Rattle.room_core.specs.Agreements.{agreed_input}
use Rattle.room_core.specs.Fields.{Fields}
use Rattle.room_core.specs.Reading.{AreFieldsOf}
use Rattle.ws_history.proofs.inputs.process_inputs.Given as goal

abbrev pub invariant-loop-j : goal.invariant-loop-j
invariant-loop-j l = record {
  so_far : (fields : Fields) → AreFieldsOf l.room fields → l.inputs.items ≡ map (agreed_input l.room.spec fields) (range_with_len 0 l.j);
  count : array_vec_len l.inputs ≡ l.j;
}
