use Rattle.std.proofs.Common.{refl}
use Rattle.view_rooms.proofs.Answering.{found_reported, unfinished_reported}
use Rattle.view_rooms.proofs.rooms.list.Goals as goal

pub returns-in_ok-show_found-in-Ok : goal.returns-in_ok-show_found-in-Ok
returns-in_ok-show_found-in-Ok g c =
    found_reported c.args.room.now.plan.now c.args.room.now.spec.now c.args.room.now.block.now c.crashes_for-crashes.result c.in-Ok.all _ c.args.output.now c.show_head.new.output c.show_found.new.output
    c.leading_scripts.ensures c.shape-shape.ensures.limits c.requires c.crashes_for-crashes.ensures c.in-Ok.ensures refl c.in_ok-show_head.ensures c.in_ok-show_found-in-Ok.ensures

pub returns-in_ok-show_unfinished-in-Err-TooManyNodes : goal.returns-in_ok-show_unfinished-in-Err-TooManyNodes
returns-in_ok-show_unfinished-in-Err-TooManyNodes g c =
    unfinished_reported c.args.room.now.plan.now c.args.room.now.spec.now c.args.room.now.block.now c.crashes_for-crashes.result c.args.output.now c.show_head.new.output c.show_unfinished.new.output
    c.requires c.crashes_for-crashes.ensures c.in_ok-show_head.ensures c.in_ok-show_unfinished-in-Err-TooManyNodes.ensures
