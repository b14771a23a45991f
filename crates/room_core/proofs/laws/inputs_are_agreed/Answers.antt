-- inputs_are_agreed
use Rattle.room_core.specs.Calls.{configuration_of}
use Rattle.room_core.proofs.fields.FieldCalls.{fields_stand, has_fields}
use Rattle.room_core.proofs.fields.Replays.{is_room}
use Rattle.room_core.proofs.agreements.Inputs.{known_fixed}
use Rattle.room_core.proofs.agreements.Sound.{fields_sound}
use Rattle.room_core.proofs.values.Knowing.{fields_inputs}
use Rattle.room_core.proofs.settling.AgreedInputs.{decided_known, input_is_agreed, input_is_own, input_stays, minds_agree, written_known}
use Rattle.room_core.proofs.laws.inputs_are_agreed.Goals as goal

pub returns-clause-fixed : goal.returns-clause-fixed
returns-clause-fixed c = λ room fields limits are j low is. known_fixed room.spec fields (fields_stand room fields limits are).tracks (fields_sound room fields limits are) (fields_inputs room fields limits are) j low is

pub returns-clause-own : goal.returns-clause-own
returns-clause-own c = λ room fields limits are j input low is. input_is_own room fields limits are j input low is

pub returns-clause-minds : goal.returns-clause-minds
returns-clause-minds c = λ room fields limits are i j input below is. minds_agree room fields limits are i j input below is

pub returns-clause-room : goal.returns-clause-room
returns-clause-room c = λ room fields limits are j low. input_is_agreed room fields limits are j low

pub returns-clause-written : goal.returns-clause-written
returns-clause-written c = λ room fields limits are j low kind counted. written_known room fields limits are j kind counted

pub returns-clause-decided : goal.returns-clause-decided
returns-clause-decided c = λ room fields limits are j low kind out. decided_known room fields limits are j kind out

pub returns-clause-stays : goal.returns-clause-stays
returns-clause-stays c = λ room calls j input limits one low is.
    let fields = has_fields room (is_room (configuration_of room) limits one) in
    input_stays room fields.0 calls j input limits fields.1 low is
