use Rattle.std.proofs.Common.{◌∙◌, sym, refl}
use Rattle.history_checker.proofs.NamedRooms.{known_by}
use Rattle.history_checker.proofs.RoomLists.{spec_in}
use Rattle.history_checker.proofs.rooms.Rooms.has.Goals as goal

pub returns : goal.returns
returns c = c.contains_key.ensures ∙ sym (known_by spec_in c.args.name.now c.args.name.now c.self.inside.rooms.entries c.args.self.now c.self.invariant c.self.view_is refl)
