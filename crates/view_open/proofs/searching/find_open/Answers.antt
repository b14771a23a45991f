use Rattle.std.proofs.Common.{ℕ, ◌≤◌, sym, subst}
use Rattle.room_search.specs.Beginnings.{begun}
use Rattle.room_search.specs.Reaching.{AreAllOpen}
use Rattle.view_open.specs.Open.{crashes_for}
use Rattle.view_open.proofs.searching.find_open.Goals as goal

pub returns-in_ok-found_in-in-Ok : goal.returns-in_ok-found_in-in-Ok
returns-in_ok-found_in-in-Ok g c =
    let reach = c.in-Ok.reach in
    let spec = c.args.from.now.spec.now in
    let P : ℕ → ℕ → Type 0 = λ crashes missed. AreAllOpen (begun spec c.args.from.now.acts.now) spec crashes missed reach.outcomes.items in
    let all : P c.crashes_for-crashes.result reach.missed =
    record { complete = c.in-Ok.ensures.complete; sound = c.in-Ok.ensures.sound; distinct = c.in-Ok.ensures.distinct; among = c.in-Ok.ensures.among } in
    record {
      outcomes = reach.outcomes.items;
      are = subst (P (crashes_for spec c.args.plan.now.crashes)) (sym c.in_ok-found_in-in-Ok.ensures.missed) (subst (λ (n : ℕ). P n reach.missed) c.crashes_for-crashes.ensures all);
      open_are = c.in_ok-found_in-in-Ok.ensures.ends;
      nodes = subst (λ (n : ℕ). n ≤ c.args.plan.now.nodes) (sym c.in_ok-found_in-in-Ok.ensures.nodes) c.in-Ok.ensures.nodes;
    }
