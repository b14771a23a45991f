use Rattle.room_core.specs.Calls.{configuration_of}
use Rattle.room_core.proofs.fields.FieldCalls.{has_fields}
use Rattle.room_core.proofs.fields.Replays.{is_room}
use Rattle.room_core.proofs.settling.Decisions.{decision_low, decision_of, process_decided, same_decision, stays_over}
use Rattle.room_core.proofs.laws.simulators_decide.Goals as goal

pub returns-clause-stored : goal.returns-clause-stored
returns-clause-stored c = λ room fields limits are i below. (same_decision room fields limits are i below, decision_of room fields limits are i below)

pub returns-clause-process : goal.returns-clause-process
returns-clause-process c = λ room fields limits are i decision below is. process_decided room fields limits are i decision below is

pub returns-clause-range : goal.returns-clause-range
returns-clause-range c = λ room fields limits are i decision below is. decision_low room fields limits are i decision below is

pub returns-clause-stays : goal.returns-clause-stays
returns-clause-stays c = λ room calls i decision limits one below is.
    let fields = has_fields room (is_room (configuration_of room) limits one) in
    stays_over room fields.0 calls i decision limits fields.1 below is
