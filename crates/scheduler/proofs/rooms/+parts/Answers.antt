use Rattle.std.proofs.Common.{IfOk, map, subst}
use Rattle.room_spec.specs.Rooms.{RoomSpec}
use Rattle.ruled_room.specs.Parts.{RoomName}
use Rattle.scheduler.specs.Results.{AddsRoomRuns}
use Rattle.scheduler.proofs.Ending.{adds_both}
use Rattle.scheduler.proofs.rooms.+parts.Goals as goal

abbrev spec_of : RoomName → RoomSpec
spec_of room = room.spec

pub returns : goal.returns
returns g t c =
    let has = g.A.Gathers.has_gathered in
    let specs = map spec_of c.cut.new.stopped.rooms.items in
    let more = map spec_of c.in_ok-part.part.rooms.items in
    let first = subst (λ r. IfOk r (λ gathered. AddsRoomRuns specs (has c.args.gathered) (has gathered))) c.in_ok-all.was c.join-first.ensures.first in
    let rest = subst (λ r. IfOk r (λ gathered. AddsRoomRuns more (has c.none-nothing.result) (has gathered))) c.in_ok-last.was c.join-first.ensures.second in
    adds_both (map spec_of c.args.stopped.rooms.items) specs more (has c.args.gathered) (has c.in_ok-all.all) (has c.none-nothing.result) (has c.in_ok-last.field-0) (has c.add_all.new.self) c.in_ok-part.ensures.specs c.none-nothing.ensures first rest
    c.in_ok-add_all.ensures
