use Rattle.room_core.proofs.agreements.Exact.{room_entry, room_rows, room_moments}
use Rattle.room_core.proofs.laws.snapshots.Goals as goal

pub returns-clause-moments : goal.returns-clause-moments
returns-clause-moments c = λ room fields limits are i j k below first two. room_moments room fields limits are i j k below first two

pub returns-clause-compare : goal.returns-clause-compare
returns-clause-compare c = λ room fields limits are i j k h p r below below' first first' two two'. room_rows room fields limits are i j k h p r below below' first first' two two'

pub returns-clause-own : goal.returns-clause-own
returns-clause-own c = λ room fields limits are i j k below first two. room_entry room fields limits are i j k below first two
