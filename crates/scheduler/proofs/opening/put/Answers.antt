use Rattle.std.proofs.Common.{Global, List, [], ◌∷◌, ◌++◌, ap, ◌∙◌}
use Rattle.std.specs.declared.collections.VecDeque.{VecDeque}
use Rattle.scheduler.specs.declared.workers.Task.{Task}
use Rattle.scheduler.proofs.Dealing.{put_all, put_count}
use Rattle.scheduler.proofs.opening.put.Goals as goal

abbrev own : VecDeque Task Global → List Task
own queue = queue.items

pub returns-clause-tasks : goal.returns-clause-tasks
returns-clause-tasks c = λ rooms is all. put_all rooms own c.args.queues.now.items c.args.worker c.push_back.new.self c.index_mut.result.now c.args.task c.requires (c.in_ok-push_back.ensures.items ∙ ap (λ (q : VecDeque Task Global). q.items ++ c.args.task ∷ []) c.index_mut.ensures.value) is all

pub returns-clause-count : goal.returns-clause-count
returns-clause-count c = λ k i. put_count k i own c.args.queues.now.items c.args.worker c.push_back.new.self c.index_mut.result.now c.args.task c.requires (c.in_ok-push_back.ensures.items ∙ ap (λ (q : VecDeque Task Global). q.items ++ c.args.task ∷ []) c.index_mut.ensures.value)
