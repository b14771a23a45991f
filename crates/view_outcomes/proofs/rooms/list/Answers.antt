use Rattle.view_outcomes.proofs.Answering.{found_reported, none_is, unfinished_reported}
use Rattle.view_outcomes.proofs.rooms.list.Goals as goal

pub returns-in_ok-show_found-in-Ok : goal.returns-in_ok-show_found-in-Ok
returns-in_ok-show_found-in-Ok g c =
    found_reported c.args.room.now.search.now c.args.room.now.spec.now c.args.room.now.block.now c.crashes_for-crashes.result c.in-Ok.all c.is_none.result c.args.output.now c.show_head.new.output c.show_found.new.output
    c.crashes_for-crashes.ensures c.in-Ok.ensures.outcomes c.in-Ok.ensures.nodes c.in-Ok.ensures.task (none_is c.in-Ok.all.breaking c.is_none.result c.is_none.ensures) c.in_ok-show_head.ensures c.in_ok-show_found-in-Ok.ensures

pub returns-in_ok-show_unfinished-in-Err-TooManyNodes : goal.returns-in_ok-show_unfinished-in-Err-TooManyNodes
returns-in_ok-show_unfinished-in-Err-TooManyNodes g c =
    unfinished_reported c.args.room.now.search.now c.args.room.now.spec.now c.args.room.now.block.now c.crashes_for-crashes.result c.args.output.now c.show_head.new.output c.show_unfinished.new.output
    c.crashes_for-crashes.ensures (c.in-Err-TooManyNodes.ensures.beyond c.in-Err-TooManyNodes.field-0-is) c.in_ok-show_head.ensures c.in_ok-show_unfinished-in-Err-TooManyNodes.ensures
