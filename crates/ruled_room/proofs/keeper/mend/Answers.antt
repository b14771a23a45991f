use Rattle.std.proofs.Common.{◌≡◌, ℕ, sym, ap, ◌∙◌, arith}
use Rattle.ruled_room.specs.Parts.{RoomName}
use Rattle.ruled_room.specs.Views.{only}
use Rattle.ruled_room.proofs.Sharing.{joins}
use Rattle.ruled_room.proofs.keeper.mend.Goals as goal

pub join_seat-requires : goal.join_seat-requires
join_seat-requires g c =
    let count = c.room.invariant.1 in
    let table = ap (λ (r : RoomName). r.table) (sym c.room.view_is) in
    let other = c.requires.other in
    let alone : c.args.other.me.0.held ≡ only g.C.Chosen.number other.0 = other.1 ∙ ap (λ (n : ℕ). only n other.0) c.requires.number in
    (c.requires.table.0 ∙ table, c.requires.table.1 ∙ table, other.2, omega arith, joins _ g.C.Chosen.spec c.args.seat.now.id c.args.other.id g.C.Chosen.number c.args.seat.now.me.0 c.args.other.me.0 other.0 alone)
