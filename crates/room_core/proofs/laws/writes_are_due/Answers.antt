use Rattle.room_core.proofs.moments.Contents.{due_only}
use Rattle.room_core.proofs.values.Knowing.{fields_known}
use Rattle.room_core.proofs.laws.writes_are_due.Goals as goal

pub returns-clause-due : goal.returns-clause-due
returns-clause-due c = λ room fields limits are i p r below below' first counted. (fields_known room fields limits are).values i p r below below' first counted

pub returns-clause-same : goal.returns-clause-same
returns-clause-same c = λ room fields limits are i h p r below below' within first counted counted'.
    let known = fields_known room fields limits are in
    due_only room.spec fields p r (fields.value i p r) (fields.value h p r) (known.values i p r below within first counted) (known.values h p r below' within first counted')
