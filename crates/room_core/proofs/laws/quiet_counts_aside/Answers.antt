use Rattle.std.proofs.Common.{refl}
use Rattle.room_core.proofs.fields.States.{moved_data, opening_data, woken_data}
use Rattle.room_core.proofs.laws.quiet_counts_aside.Goals as goal

pub returns : goal.returns
returns c = record {
  opens = λ spec. opening_data spec;
  step = λ room i. moved_data room i;
  crash = λ room i. refl;
  wakes = λ room i. woken_data room i;
}
