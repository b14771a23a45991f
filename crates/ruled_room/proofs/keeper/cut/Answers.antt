use Rattle.std.proofs.Common.{sym, ap, ◌∙◌, arith}
use Rattle.ruled_room.specs.Parts.{RoomName}
use Rattle.ruled_room.proofs.Sharing.{cuts}
use Rattle.ruled_room.proofs.keeper.cut.Goals as goal

pub split_seat-requires : goal.split_seat-requires
split_seat-requires g c =
    let count = c.room.invariant.1 in
    (c.requires.table ∙ ap (λ (r : RoomName). r.table) (sym c.room.view_is), omega arith, cuts _ c.args.seat.now.id g.C.Chosen.number c.args.seat.now.me.0)
