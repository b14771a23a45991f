use Rattle.std.proofs.Common.{subst}
use Rattle.room_sample.specs.Chances.{random_in}
use Rattle.room_sample.specs.Drawn.{Draws, goes_on}
use Rattle.room_sample.specs.Ways.{way_of}
use Rattle.room_sample.specs.declared.active.Style.{Style}
use Rattle.room_sample.proofs.run.act_by_chance.Goals as goal

pub loop-preserved : goal.loop-preserved
loop-preserved c = λ spec crashes random same out.
    goes_on c.loop.counter (way_of c.loop.scheduled) (way_of c.act_next.new.scheduled) c.loop.active.items c.act_next.new.active.items (random_in c.loop.chances) (random_in c.act_next.new.chances)
    (c.loop.invariant spec crashes random same out)
    (subst (λ (s : Style). Draws s (way_of c.loop.scheduled) c.loop.active.items (random_in c.loop.chances) (way_of c.act_next.new.scheduled) c.act_next.new.active.items (random_in c.act_next.new.chances)) same c.in_ok-act_next.ensures)
