-- What the types of the code stand for.
use Rattle.room_sample.specs.Drawn.{Way}
use Rattle.room_sample.specs.declared.run.Scheduled.{Scheduled}

abbrev pub way_of : Scheduled → Way
way_of scheduled = record { room = scheduled.room; schedule = scheduled.schedule.items; crashes_left = scheduled.crashes_left }
