use Rattle.service_core.proofs.Running.{alone}
use Rattle.service_core.proofs.service.Service.run.Goals as goal

pub returns-clause-alone : goal.returns-clause-alone
returns-clause-alone c = alone c.args.commands.items c.in_ok-replies.replies.items c.in_ok-replies.ensures.count c.in_ok-replies.ensures.refused
