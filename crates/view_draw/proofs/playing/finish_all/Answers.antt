use Rattle.std.proofs.Common.{◌<◌, length, refl, arith, ◌≤◌}
use Rattle.view_draw.proofs.Finishing.{all_finished, one_more}
use Rattle.view_draw.proofs.playing.finish_all.Goals as goal

pub loop-place-init : goal.loop-place-init
loop-place-init c = record { front = tt; rest = refl }

pub loop-place-preserved : goal.loop-place-preserved
loop-place-preserved c =
    let within : c.loop-place.place < length c.args.panels.now.items = omega (arith, c.loop-place-test.true, c.len-place-end.ensures) in
    one_more c.args.rooms.now.entries c.args.panels.now.items c.loop-place.panels.items c.loop-place.place c.index_mut.result.now c.finish.new.panel within
    c.loop-place.invariant c.index_mut.ensures.value c.in_ok-finish.ensures

pub returns : goal.returns
returns c =
    let long : length c.args.panels.now.items ≤ c.loop-place.place = omega (arith, c.loop-place-test.false, c.len-place-end.ensures) in
    all_finished c.args.rooms.now.entries c.args.panels.now.items c.loop-place.panels.items c.loop-place.place long c.loop-place.invariant
