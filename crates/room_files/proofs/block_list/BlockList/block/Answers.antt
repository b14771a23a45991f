use Rattle.std.proofs.Common.{List, length, sym, ap, ◌∙◌, subst, arith}
use Rattle.room_spec.specs.Rooms.{RoomSpec}
use Rattle.room_files.specs.BlockLists.{IsBlockAt, RoomBlocks}
use Rattle.room_files.proofs.BlockLists.{as_many, block_at}
use Rattle.room_files.proofs.block_list.BlockList.block.Goals as goal

pub index-requires : goal.index-requires
index-requires c =
    let many = as_many c.self.inside.rooms c.self.inside.blocks.items c.self.invariant in
    let same = ap (λ (list : RoomBlocks). length list.rooms) c.self.view_is in
    omega (arith, many, same, c.requires)

pub returns : goal.returns
returns c =
    let same = ap (λ (list : RoomBlocks). length list.rooms) c.self.view_is in
    let at = block_at c.self.inside.rooms c.self.inside.blocks.items c.args.index c.index.result.now c.self.invariant (omega (arith, same, c.requires)) in
    subst (λ (rooms : List RoomSpec). IsBlockAt rooms c.args.index c.as_bytes.result.now) (ap (λ (list : RoomBlocks). list.rooms) c.self.view_is)
    (subst (IsBlockAt c.self.inside.rooms c.args.index) (sym (c.as_bytes.ensures ∙ c.index.ensures)) at)
