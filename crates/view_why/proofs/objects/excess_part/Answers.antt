use Rattle.std.proofs.lemmas.Option.{slice_get_within}
use Rattle.view_why.proofs.objects.excess_part.Goals as goal

pub event-event-requires : goal.event-event-requires
event-event-requires c = slice_get_within c.args.reported.now.events c.args.excess.at c.requires.first.event c.requires.first.there
