use Rattle.std.proofs.Common.{◌≡◌, Global, List, length, map, arith}
use Rattle.std.specs.declared.collections.VecDeque.{VecDeque}
use Rattle.scheduler.specs.declared.workers.Task.{Task}
use Rattle.scheduler.proofs.Dealing.{opened_more}
use Rattle.scheduler.proofs.opening.Opened.open.Goals as goal

abbrev own : VecDeque Task Global → List Task
own queue = queue.items

pub returns-clause-opened : goal.returns-clause-opened
returns-clause-opened c =
    let place : c.len-place.result ≡ length c.args.self.now.rooms.items = omega (arith, c.len-place.ensures, c.args.self.now.rooms.ok) in
    opened_more c.args.self.now.rooms.items c.push.new.self.items c.args.self.now.keepers.items c.push-2.new.self.items (map own c.args.self.now.queues.items) (map own c.deal.new.queues.items) c.in_ok-room.room c.deal.new.keeper c.len-place.result
    c.requires.opened place c.in_ok-push.ensures.items c.in_ok-push-2.ensures.items c.in_ok-deal.ensures.keeper.0 c.in_ok-deal.ensures.keeper.1 c.in_ok-deal.ensures.tasks c.in_ok-deal.ensures.away
