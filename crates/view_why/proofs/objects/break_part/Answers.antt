use Rattle.view_why.proofs.Breaking.{broken_there}
use Rattle.view_why.proofs.objects.break_part.Goals as goal

pub event-event-requires : goal.event-event-requires
event-event-requires c = broken_there c.args.reported.now.spec c.args.reported.now.events c.args.broken.at c.args.broken.reason c.requires.first
