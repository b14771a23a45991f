use Rattle.room_core.proofs.fields.FieldCalls.{fields_stand}
use Rattle.room_core.proofs.agreements.Sound.{fields_sound}
use Rattle.std.proofs.Common.{inl, inr}
use Rattle.room_core.proofs.agreements.Fixing.{asked_is_resolved, fixed_is_resolved, left_is_resolved}
use Rattle.room_core.proofs.agreements.Inputs.{known_by, known_fixed}
use Rattle.room_core.proofs.values.Knowing.{fields_inputs}
use Rattle.room_core.proofs.laws.left_is_resolved.Goals as goal

pub returns-clause-snapshots : goal.returns-clause-snapshots
returns-clause-snapshots c = λ room fields limits are i j k below first less none.
    left_is_resolved room.spec fields i j k (fields_stand room fields limits are).tracks (fields_sound room fields limits are) below first less none

pub returns-clause-inputs : goal.returns-clause-inputs
returns-clause-inputs c = λ room fields limits are i j below low kind left none. elim left [
  | inl asks ↦ asked_is_resolved room.spec fields i j (fields_stand room fields limits are).tracks (fields_sound room fields limits are) below low kind asks none
  | inr has ↦ fixed_is_resolved room.spec fields j 0 (known_fixed room.spec fields (fields_stand room fields limits are).tracks (fields_sound room fields limits are) (fields_inputs room fields limits are) j low (known_by room.spec fields i j below kind has)) none
]
