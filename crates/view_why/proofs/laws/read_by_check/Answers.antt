use Rattle.view_why.proofs.OrdinaryRooms.{ordinary_rooms}
use Rattle.view_why.proofs.laws.read_by_check.Goals as goal

pub returns : goal.returns
returns c = ordinary_rooms
