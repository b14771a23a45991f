use Rattle.view_sample.proofs.Alike.{alike_held, alike_tasks, alike_values, grouped_broken}
use Rattle.view_sample.proofs.laws.grouped_tasks.Goals as goal

pub returns-clause-alike : goal.returns-clause-alike
returns-clause-alike c = λ spec one other is. (alike_values one other is, alike_held one other is, alike_tasks spec one other is)

pub returns-clause-broken : goal.returns-clause-broken
returns-clause-broken c = λ spec outcomes few. grouped_broken spec outcomes few
