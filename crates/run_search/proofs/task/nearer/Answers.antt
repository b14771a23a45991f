use Rattle.std.proofs.Common.{subst, arith}
use Rattle.run_search.specs.Breaking.{IsLeastBreaking, IsLeastBreakingIn}
use Rattle.run_search.proofs.Breaking.{before_here, fewer_here, first_here, none_here}
use Rattle.run_search.proofs.task.nearer.Goals as goal

pub returns-in_default : goal.returns-in_default
returns-in_default c = λ spec most nodes node here before found. none_here spec most nodes c.args.index node c.args.first here before (subst (IsLeastBreakingIn spec most node) c.in_default.is found)

pub returns-in_default-first : goal.returns-in_default-first
returns-in_default-first c = λ spec most nodes node here before found.
    first_here spec most nodes c.args.index node c.in-Some.state here (subst (IsLeastBreaking spec most nodes c.args.index) c.in_default-first.is before) (subst (IsLeastBreakingIn spec most node) c.in-Some.is found)

pub returns-then-events_in : goal.returns-then-events_in
returns-then-events_in c = λ spec most nodes node here before found.
    before_here spec most nodes c.args.index node c.in-Some-first.breaking c.in-Some.state here (subst (IsLeastBreaking spec most nodes c.args.index) c.in-Some-first.is before) (subst (IsLeastBreakingIn spec most node) c.in-Some.is found)
    (omega (arith, c.events_in.ensures, c.events_in-2.ensures, c.if-events_in.true))

pub returns-else-events_in : goal.returns-else-events_in
returns-else-events_in c = λ spec most nodes node here before found.
    fewer_here spec most nodes c.args.index node c.in-Some-first.breaking c.in-Some.state here (subst (IsLeastBreaking spec most nodes c.args.index) c.in-Some-first.is before) (subst (IsLeastBreakingIn spec most node) c.in-Some.is found)
    (omega (arith, c.events_in.ensures, c.events_in-2.ensures, c.if-events_in.false))
