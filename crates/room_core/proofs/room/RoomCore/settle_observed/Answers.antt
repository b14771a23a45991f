use Rattle.std.proofs.Common.{◌≡◌, rules, sym, subst}
use Rattle.room_core.specs.Calls.{RoomState, configuration_of, room_after_settle}
use Rattle.room_core.specs.Fields.{fields_after_settle}
use Rattle.room_core.specs.Reading.{AreFieldsOf}
use Rattle.room_core.specs.Rooms.{IsRoom}
use Rattle.room_core.proofs.fields.FieldCalls.{settle_in_fields}
use Rattle.room_core.proofs.settling.Observed.{settled_is, settled_seen}
use Rattle.room_core.proofs.room.RoomCore.settle_observed.Goals as goal

pub returns-clause-room : goal.returns-clause-room
returns-clause-room g c = search (rules, settled_is)

pub returns-clause-seen : goal.returns-clause-seen
returns-clause-seen g c = search (rules, settled_seen)

pub returns-clause-fields : goal.returns-clause-fields
returns-clause-fields g c = λ fields are.
    let room : RoomState = c.args.self.now in
    let was : IsRoom (configuration_of room) = subst (λ (r : RoomState). IsRoom (configuration_of r)) c.self.view_is c.self.invariant.is_room in
    let left : c.run_each.new.self ≡ room_after_settle room = search (rules, settled_is) in
    subst (λ (r : RoomState). AreFieldsOf r (fields_after_settle room.spec fields)) (sym left) (settle_in_fields room fields was.shape.limits are)
