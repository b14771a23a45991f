use Rattle.std.proofs.Common.{arith}
use Rattle.scheduler.proofs.Visits.{last_stopped}
use Rattle.scheduler.proofs.visiting.put_stopped.Goals as goal

pub loop-one-preserved : goal.loop-one-preserved
loop-one-preserved c =
    let loop = c.loop-one.invariant in
    let last = last_stopped c.in-Some.one c.ended.result c.in-Some-stop.stop c.pop.new.self.items c.loop-one.all.items c.loop-one.done.items c.push.new.self.items c.in-Some.ensures.items c.in-Some-stop.is c.ended.ensures.0 c.ended.ensures.1 c.ended.ensures.2 c.in_ok-push.ensures.items in
    record {
      stopped = last.stopped loop.stopped;
      every = λ rooms every. last.every rooms (loop.every rooms every);
      done = λ rooms every before. last.done rooms (loop.every rooms every) (loop.done rooms every before);
      same = λ k i. omega (arith, last.same k i, loop.same k i);
    }
