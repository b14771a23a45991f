use Rattle.std.proofs.Common.{List, map, subst}
use Rattle.std.specs.List.{All}
use Rattle.std.specs.declared.collections.VecDeque.{VecDeque}
use Rattle.std.proofs.Common.{Global}
use Rattle.scheduler.specs.declared.workers.Task.{Task}
use Rattle.scheduler.specs.Tasks.{AreTasksOf, IsTaskOf}
use Rattle.scheduler.proofs.Rounds.{all_init, all_last}
use Rattle.scheduler.proofs.workers.+start_each.Goals as goal

abbrev own : VecDeque Task Global → List Task
own queue = queue.items

pub spawn_with-requires-clause-runs : goal.spawn_with-requires-clause-runs
spawn_with-requires-clause-runs g t c κs within =
    all_last (λ (tasks : List Task). All (λ task. IsTaskOf c.args.rooms.now task) tasks) own c.pop.new.self.items c.in-Some.tasks
    (subst (λ (l : List (VecDeque Task Global)). AreTasksOf c.args.rooms.now (map own l)) c.in-Some.ensures.items c.requires.tasks)

pub start_each-others-requires-clause-tasks : goal.start_each-others-requires-clause-tasks
start_each-others-requires-clause-tasks g t c κs within =
    all_init (λ (tasks : List Task). All (λ task. IsTaskOf c.args.rooms.now task) tasks) own c.pop.new.self.items c.in-Some.tasks
    (subst (λ (l : List (VecDeque Task Global)). AreTasksOf c.args.rooms.now (map own l)) c.in-Some.ensures.items c.requires.tasks)

pub work-requires : goal.work-requires
work-requires g t c =
    all_last (λ (tasks : List Task). All (λ task. IsTaskOf c.args.rooms.now task) tasks) own c.pop.new.self.items c.in-Some.tasks
    (subst (λ (l : List (VecDeque Task Global)). AreTasksOf c.args.rooms.now (map own l)) c.in-Some.ensures.items c.requires.tasks)
