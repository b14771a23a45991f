use Rattle.room_files.proofs.Feeding.{line_fed}
use Rattle.room_files.proofs.events.RoomsTakesEvents.take.Goals as goal

pub returns-in-Ok-clause-taken : goal.returns-in-Ok-clause-taken
returns-in-Ok-clause-taken c =
    let fed = c.in-Ok.ensures.fed in
    (fed.one, line_fed c.args.self.now c.feed_line.new.self c.args.number c.args.line.now fed, fed.processed)
