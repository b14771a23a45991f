use Rattle.std.proofs.Common.{rules}
use Rattle.room_sample.specs.Chances.{random_in}
use Rattle.room_sample.proofs.Drawing.{none_active, one_active}
use Rattle.room_sample.proofs.active.all_active.Goals as goal

pub loop-simulator-init : goal.loop-simulator-init
loop-simulator-init c = record { long = search rules; drawn = none_active c.args.spec.now c.args.style (random_in c.args.chances.now) c.new-all.result.items c.new-all.ensures }

pub loop-simulator-preserved : goal.loop-simulator-preserved
loop-simulator-preserved c = record {
  long = search rules;
  drawn = one_active c.args.spec.now c.args.style c.loop-simulator.simulator (random_in c.args.chances.now) (random_in c.loop-simulator.chances) (random_in c.random_active.new.chances) c.loop-simulator.all.items c.push.new.self.items c.random_active.result
      c.loop-simulator.invariant.drawn c.random_active.ensures c.push.ensures.items;
}
