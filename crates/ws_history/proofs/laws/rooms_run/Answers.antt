use Rattle.room_core.proofs.CallerLemmas.{rooms_agree}
use Rattle.ws_history.proofs.RunSpecs.{run_from_own}
use Rattle.ws_history.proofs.SourceIs.{fields_run, ordinary_fields_run, reduction_fields_run}
use Rattle.ws_history.proofs.laws.rooms_run.Goals as goal

pub returns-clause-run : goal.returns-clause-run
returns-clause-run c = λ room fields limits are. fields_run room.spec fields (rooms_agree room fields limits are)

pub returns-clause-ordinary : goal.returns-clause-ordinary
returns-clause-ordinary c = λ room fields limits is are. ordinary_fields_run room.spec fields is (rooms_agree room fields limits are)

pub returns-clause-from_own : goal.returns-clause-from_own
returns-clause-from_own c = λ room fields limits is are. run_from_own room.spec fields (rooms_agree room fields limits are) is

pub returns-clause-reduction : goal.returns-clause-reduction
returns-clause-reduction c = λ room fields limits is are. reduction_fields_run room.spec fields is (rooms_agree room fields limits are)
