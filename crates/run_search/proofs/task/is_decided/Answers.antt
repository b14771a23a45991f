use Rattle.std.proofs.Common.{List, get_or, length, sym, subst, ap, ◌∙◌, arith}
use Rattle.std.specs.List.{Contains}
use Rattle.transcript.proofs.CallerLemmas.{in_contains}
use Rattle.run_search.specs.declared.local_state.Due.TheVariants.{Decided}
use Rattle.run_search.specs.declared.local_state.LocalState.{LocalState}
use Rattle.run_search.specs.States.{blank}
use Rattle.run_search.specs.Tasks.{decided_values}
use Rattle.run_search.proofs.Deciding.{same_decided, value_in}
use Rattle.run_search.proofs.Same.{same_due}
use Rattle.run_search.proofs.task.is_decided.Goals as goal

pub returns-then-eq : goal.returns-then-eq
returns-then-eq c = λ yes v is.
    let state = c.args.state.now.items in
    let i = c.loop-local.local-index in
    let long = ap (λ (l : List LocalState). length l) c.as_slice-local-items.ensures.value in
    let read = ap (λ (l : List LocalState). (get_or l i blank).due) c.as_slice-local-items.ensures.value in
    let due = same_due (get_or c.as_slice-local-items.result.now i blank).due (Decided c.in-Decided.v) (sym c.eq.ensures ∙ c.if-eq.true) in
    subst (Contains (decided_values state)) (same_decided c.in-Decided.v v (sym c.in-Decided.is ∙ is))
    (in_contains c.in-Decided.v (decided_values state) (value_in state i c.in-Decided.v (omega (arith, long, c.loop-local-test.true)) (sym read ∙ due)))
