use Rattle.ws_history.proofs.SourceIs.{fields_run, ordinary_fields_run}
use Rattle.ws_history.proofs.laws.fields_run.Goals as goal

pub returns-clause-run : goal.returns-clause-run
returns-clause-run c = λ spec fields has. fields_run spec fields has

pub returns-clause-ordinary : goal.returns-clause-ordinary
returns-clause-ordinary c = λ spec fields is has. ordinary_fields_run spec fields is has
