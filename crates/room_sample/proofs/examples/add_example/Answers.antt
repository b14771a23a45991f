use Rattle.std.proofs.Common.{sym}
use Rattle.room_sample.specs.Samples.{counted_of}
use Rattle.room_sample.proofs.ShownOutcomes.{shows_more}
use Rattle.room_sample.proofs.examples.add_example.Goals as goal

pub returns-clause-added : goal.returns-clause-added
returns-clause-added c =
    shows_more c.args.showing.now.spec.now c.args.showing.now.plan.now.crashes c.args.showing.now.scripts c.args.outcomes.now c.args.index (counted_of (c.in-Some.states.now, c.in-Some.outcome.now)) c.args.made.now.examples.items c.push.new.self.items c.in_ok-next.next
    c.requires.before (sym c.in-Some.ensures) c.in_ok-next.ensures c.in_ok-push.ensures.items
