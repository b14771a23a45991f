use Rattle.std.proofs.Common.{rules}
use Rattle.room_core.specs.Settling.{ran_alone}
use Rattle.room_core.specs.Observing.{traced_kind}
use Rattle.room_core.proofs.settling.Observed.{all_of_them, nobody_yet, one_more_runs}
use Rattle.room_core.proofs.room.RoomCore.run_each.Goals as goal

pub loop-i-init : goal.loop-i-init
loop-i-init g c = nobody_yet g.W.Observer.sees (ran_alone traced_kind) c.args.self.now c.args.observer.now

pub loop-i-preserved : goal.loop-i-preserved
loop-i-preserved g c =
    one_more_runs g.W.Observer.sees c.loop-i.i c.args.self.now c.loop-i.self c.run_alone.new.self c.args.observer.now c.loop-i.observer c.run_alone.new.observer
    (search rules) c.loop-i.invariant c.run_alone.ensures

pub returns : goal.returns
returns g c = all_of_them g.W.Observer.sees (ran_alone traced_kind) c.loop-i.i c.args.self.now c.loop-i.self c.args.observer.now c.loop-i.observer (search rules) c.loop-i.invariant
