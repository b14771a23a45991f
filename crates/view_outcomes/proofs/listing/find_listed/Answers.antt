use Rattle.std.proofs.Common.{Bool, subst}
use Rattle.run_search.specs.Outcomes.{outcomes_in}
use Rattle.view_outcomes.specs.Listing.{AreInOrder}
use Rattle.view_outcomes.proofs.AllListed.{all_in_order, all_listed}
use Rattle.view_outcomes.proofs.listing.find_listed.Goals as goal

pub returns-clause-outcomes : goal.returns-clause-outcomes
returns-clause-outcomes g c =
    let spec = c.args.room.now.spec.now in
    let listed = c.in_ok-listed.listed.items in
    subst (λ (brief : Bool). AreInOrder spec c.args.crashes brief c.sort_by_values.new.all.items) c.is_brief_alone-brief.ensures
    (all_in_order spec c.args.crashes c.is_brief_alone-brief.result listed c.sort_by_values.new.all.items
    (all_listed spec c.args.crashes c.is_brief_alone-brief.result listed (outcomes_in c.in_ok-found.found) c.in_ok-listed.ensures.runs c.in_ok-listed.ensures.ends
    c.in_ok-found.ensures.complete c.in_ok-found.ensures.sound c.in_ok-found.ensures.distinct)
    c.sort_by_values.ensures.same c.in_ok-sort_by_values.ensures.sorted)
