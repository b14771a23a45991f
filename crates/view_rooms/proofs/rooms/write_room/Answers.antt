use Rattle.std.proofs.Common.{◌∙◌, sym}
use Rattle.view_rooms.proofs.Answering.{own_room, reported_of_said}
use Rattle.view_rooms.proofs.rooms.write_room.Goals as goal

pub list-requires : goal.list-requires
list-requires g c = own_room c.args.block.now c.in-Ok.spec c.in-Ok.field-0-1 (sym c.in_ok-spec.ensures.read ∙ c.in-Ok.is) c.requires

pub returns : goal.returns
returns g c =
    reported_of_said c.args.plan.now c.args.block.now c.in-Ok.spec c.args.output.now c.list.new.output c.list.result
    (own_room c.args.block.now c.in-Ok.spec c.in-Ok.field-0-1 (sym c.in_ok-spec.ensures.read ∙ c.in-Ok.is) c.requires) c.list.ensures
