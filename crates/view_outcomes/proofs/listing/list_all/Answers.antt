use Rattle.std.proofs.Common.{List, sym, ap, ◌∙◌, subst}
use Rattle.run_search.specs.Outcomes.{outcomes_in}
use Rattle.view_outcomes.specs.declared.listing.Listed.{Listed}
use Rattle.view_outcomes.specs.Listing.{listed_ends}
use Rattle.view_outcomes.proofs.AllListed.{Runs, ends_more, one_run_more}
use Rattle.view_outcomes.proofs.listing.list_all.Goals as goal

pub loop-index-preserved : goal.loop-index-preserved
loop-index-preserved c =
    let spec = c.args.spec.now in
    let all = c.loop-index.all.items in
    let one = c.in_ok-list_one.field-0 in
    record {
      runs = subst (λ (l : List Listed). Runs spec c.args.brief l) (sym c.in_ok-push.ensures.items) (one_run_more spec c.args.brief all one c.loop-index.invariant.runs c.in_ok-list_one.ensures.run);
      ends = ap listed_ends c.in_ok-push.ensures.items ∙ ends_more all one (outcomes_in c.args.found.now) c.loop-index.index c.loop-index.invariant.ends c.in_ok-list_one.ensures.there;
    }
