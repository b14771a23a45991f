use Rattle.room_spec.proofs.Values.{input_small, own_input_small, first_in_room, next_in_room, first_of_input, next_of_input}
use Rattle.room_spec.proofs.laws.values_are_small.Goals as goal

pub returns-clause-inputs : goal.returns-clause-inputs
returns-clause-inputs c = input_small

pub returns-clause-first : goal.returns-clause-first
returns-clause-first c = first_in_room

pub returns-clause-next : goal.returns-clause-next
returns-clause-next c = next_in_room

pub returns-clause-own : goal.returns-clause-own
returns-clause-own c = own_input_small

pub returns-clause-first_of_any : goal.returns-clause-first_of_any
returns-clause-first_of_any c = first_of_input

pub returns-clause-next_of_any : goal.returns-clause-next_of_any
returns-clause-next_of_any c = next_of_input
