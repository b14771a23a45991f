-- runs_are_of_ordinary_rooms
use Rattle.room_core.proofs.agreements.OrdinaryRuns.{run_agreed, run_asks, run_inputs, run_kind, run_limits, run_ordinary, run_processes}
use Rattle.room_core.proofs.laws.runs_are_of_ordinary_rooms.Goals as goal

pub returns-clause-agreed : goal.returns-clause-agreed
returns-clause-agreed c = λ room fields limits are. run_agreed room fields limits are

pub returns-clause-limits : goal.returns-clause-limits
returns-clause-limits c = λ room fields limits are. run_limits room fields limits are

pub returns-clause-kind : goal.returns-clause-kind
returns-clause-kind c = run_kind

pub returns-clause-processes : goal.returns-clause-processes
returns-clause-processes c = run_processes

pub returns-clause-inputs : goal.returns-clause-inputs
returns-clause-inputs c = run_inputs

pub returns-clause-asks : goal.returns-clause-asks
returns-clause-asks c = run_asks

pub returns-clause-ordinary : goal.returns-clause-ordinary
returns-clause-ordinary c = run_ordinary
