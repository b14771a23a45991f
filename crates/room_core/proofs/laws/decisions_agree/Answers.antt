use Rattle.room_core.proofs.values.Known.{decided_last, decided_same}
use Rattle.room_core.proofs.values.Knowing.{fields_known}
use Rattle.room_core.proofs.laws.decisions_agree.Goals as goal

pub returns-clause-due : goal.returns-clause-due
returns-clause-due c = λ room fields limits are i p decision below within out.
    let at = (fields_known room fields limits are).outs i p decision below within out in
    (at.fixed, at.action)

pub returns-clause-last : goal.returns-clause-last
returns-clause-last c = λ room fields limits are i h p decision below below' within out. decided_last room.spec fields i h p decision (fields_known room fields limits are) below below' within out

pub returns-clause-same : goal.returns-clause-same
returns-clause-same c = λ room fields limits are i h p one two below below' within out out'. decided_same room.spec fields i h p one two (fields_known room fields limits are) below below' within out out'

pub returns-clause-spent : goal.returns-clause-spent
returns-clause-spent c = λ room fields limits are i p below within is. (fields_known room fields limits are).spent i p below within is
