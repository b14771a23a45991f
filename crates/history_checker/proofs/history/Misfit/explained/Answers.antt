use Rattle.history_checker.proofs.Explaining.{break_of}
use Rattle.history_checker.proofs.history.Misfit.explained.Goals as goal

pub returns : goal.returns
returns c = break_of c.args.spec.now c.args.events.now c.args.processes.now c.args.self c.index-events-self.result c.reason_of.result c.requires c.index-events-self.is c.reason_of.ensures
