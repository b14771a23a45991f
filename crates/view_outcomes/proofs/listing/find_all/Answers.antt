use Rattle.run_search.specs.Outcomes.{outcomes_in}
use Rattle.view_outcomes.proofs.AllListed.{all_in_order, all_listed, task_of}
use Rattle.view_outcomes.proofs.listing.find_all.Goals as goal

pub returns-clause-outcomes : goal.returns-clause-outcomes
returns-clause-outcomes g c =
    let listed = c.in_ok-listed.listed.items in
    all_in_order c.args.room.now.spec.now c.args.crashes c.args.room.now.search.now.brief listed c.sort_by_values.new.all.items
    (all_listed c.args.room.now.spec.now c.args.crashes c.args.room.now.search.now.brief listed (outcomes_in c.in_ok-found.found) c.in_ok-listed.ensures.runs c.in_ok-listed.ensures.ends
    c.in_ok-found.ensures.complete c.in_ok-found.ensures.sound c.in_ok-found.ensures.distinct)
    c.sort_by_values.ensures.same c.in_ok-sort_by_values.ensures.sorted

pub returns-clause-task : goal.returns-clause-task
returns-clause-task g c =
    let is = c.in_ok-breaking.ensures in
    task_of c.args.room.now.spec.now (λ events. events.items) c.in_ok-breaking.breaking is.keeps is.breaks is.shortest
