use Rattle.std.proofs.Common.{List, ℕ, subst}
use Rattle.std.specs.Prelude.{IfSome, Option}
use Rattle.run_search.specs.Outcomes.{Ends}
use Rattle.room_search.specs.Ends.{DoEnd}
use Rattle.room_search.proofs.Noting.{found_said}
use Rattle.room_search.proofs.taking.Taking.take_one.Goals as goal

pub returns-then-has-clause-taken : goal.returns-then-has-clause-taken
returns-then-has-clause-taken c = λ yes words says.
    let spec = c.args.source.now.subject.now.spec.now in
    let said = c.args.choice.now.said.items in
    let end : DoEnd spec said c.in-Some.ends.items = subst (λ (l : List ℕ). DoEnd spec l c.in-Some.ends.items) c.as_slice.ensures.value (subst (λ (o : Option Ends). IfSome o (λ ends. DoEnd spec c.as_slice.result.now ends.items)) c.in-Some.is c.in_ok-ended.ensures) in
    found_said spec c.args.self.now.outcomes.items said c.in-Some.ends.items end (c.has.ensures c.if-has.true) words says

pub returns-clause-taken : goal.returns-clause-taken
returns-clause-taken c = λ yes words says.
    let spec = c.args.source.now.subject.now.spec.now in
    let said = c.args.choice.now.said.items in
    let end : DoEnd spec said c.in-Some.ends.items = subst (λ (l : List ℕ). DoEnd spec l c.in-Some.ends.items) c.as_slice.ensures.value (subst (λ (o : Option Ends). IfSome o (λ ends. DoEnd spec c.as_slice.result.now ends.items)) c.in-Some.is c.in_ok-ended.ensures) in
    found_said spec c.run_to.new.self.outcomes.items said c.in-Some.ends.items end (c.has-2.ensures yes) words says
