use Rattle.std.proofs.Common.{arith}
use Rattle.view_draw.proofs.Finishing.{finished_here}
use Rattle.view_draw.proofs.playing.finish.Goals as goal

pub returns : goal.returns
returns c = finished_here c.args.rooms.now.entries c.args.panel.now c.finish.new.self c.in-Some.room.now c.in_ok-report.field-0
    (grind (arith, c.is_open.ensures, c.if-not-is_open.false, c.if-not-is_open.ensures)) (grind (arith, c.get.ensures.value, c.head.ensures, c.in-Some.is, c.in-Some.ensures.value))
    c.in_ok-report.ensures.fields c.in_ok-report.ensures.truth
    c.finish.ensures
