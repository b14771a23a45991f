use Rattle.std.proofs.Common.{subst}
use Rattle.std.specs.Prelude.{OnOk}
use Rattle.room_spec.specs.Rooms.{RoomSpec}
use Rattle.service_core.specs.Rooms.{room_at}
use Rattle.view_open.specs.Watched.{Does, IsSearched}
use Rattle.view_open.proofs.Showing.{in_room, no_room, not_changed}
use Rattle.view_open.proofs.watcher.Watcher.follow.Goals as goal

pub returns-in_default : goal.returns-in_default
returns-in_default g c =
    not_changed c.show_plainly.result c.args.self.now c.show_plainly.new.self c.args.written.now.name.now c.args.written.now.words.now c.args.what (room_at c.args.rooms.now c.args.written.now.name.now) c.in_default.is c.show_plainly.ensures

pub returns-in_default-room : goal.returns-in_default-room
returns-in_default-room g c =
    no_room c.show_plainly-in_default-room.result c.args.self.now c.show_plainly-in_default-room.new.self c.args.written.now.name.now c.args.written.now.words.now c.args.what c.in-Some.what (room_at c.args.rooms.now c.args.written.now.name.now) c.in-Some.is c.in_default-room.ensures c.show_plainly-in_default-room.ensures

pub returns : goal.returns
returns g c =
    in_room c.search.result c.args.self.now c.search.new.self c.args.written.now.name.now c.args.written.now.words.now c.args.what c.in-Some.what (room_at c.args.rooms.now c.args.written.now.name.now) c.in-Some-room.room.now c.in-Some.is c.in-Some-room.ensures
    (subst (λ (s : RoomSpec). OnOk c.search.result (Does (λ so_far next. IsSearched so_far c.args.written.now.name.now c.args.written.now.words.now c.in-Some.what s next) c.args.self.now c.search.new.self)) c.spec.ensures.value c.search.ensures)
