use Rattle.std.proofs.Common.{◌++◌, ◌∷◌, [], sym, ◌∙◌}
use Rattle.history_checker.proofs.Counting.{counts_on}
use Rattle.history_checker.proofs.tally.RoomTask.feed.Goals as goal

pub returns-clause-task : goal.returns-clause-task
returns-clause-task c = λ fed one event line stands.
    let fed_on = rw c.from.ensures at (c.feed.ensures fed one event line) in
    counts_on c.args.self.now.spec c.in-Some.most fed (fed ++ one ∷ []) c.args.self.now.tally c.feed.new.self (sym c.in-Some.is ∙ c.task.ensures.value) fed_on stands
