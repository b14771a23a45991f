use Rattle.service_core.specs.Rooms.{room_at}
use Rattle.view_grade.proofs.Watching.{judged_there, none_there}
use Rattle.view_grade.proofs.keeper.judged_at.Goals as goal

pub returns-in-Some : goal.returns-in-Some
returns-in-Some c = judged_there c.args.task.now (room_at c.args.rooms.now c.args.name.now) c.in-Some.room.now c.judged.result c.in-Some.ensures c.judged.ensures

pub returns-in-None : goal.returns-in-None
returns-in-None c = none_there c.args.task.now (room_at c.args.rooms.now c.args.name.now) c.in-None.ensures
