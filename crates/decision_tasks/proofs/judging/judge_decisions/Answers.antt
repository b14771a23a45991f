use Rattle.std.proofs.Common.{ℕ, List, Contains, arith, subst, sym}
use Rattle.std.specs.List.{All}
use Rattle.room_spec.specs.Rooms.{processes}
use Rattle.run_search.specs.declared.ended.Ended.{Ended}
use Rattle.run_search.specs.Outcomes.{IsRunOutcome, outcomes_in}
use Rattle.decision_tasks.specs.Decisions.{decisions}
use Rattle.decision_tasks.specs.Tasks.{AreAllowed}
use Rattle.decision_tasks.proofs.Moments.{each_moment, found_ends, if_none}
use Rattle.decision_tasks.proofs.judging.judge_decisions.Goals as goal

pub first_break-requires-clause-ends : goal.first_break-requires-clause-ends
first_break-requires-clause-ends g c = found_ends c.args.spec.now c.n.result (outcomes_in c.in_ok-found.found) c.in_ok-found.ensures.sound

pub returns-clause-judged : goal.returns-clause-judged
returns-clause-judged g c =
    let all = outcomes_in c.in_ok-found.found in
    let complete : (outcome : List Ended) → IsRunOutcome c.args.spec.now (processes c.args.spec.now) outcome → Contains all outcome =
    λ outcome is. c.in_ok-found.ensures.complete outcome (subst (λ (n : ℕ). IsRunOutcome c.args.spec.now n outcome) (sym c.n.ensures.value) is) in
    let allowed = if_none c.in_ok-broken.field-0 (All (λ ends. AreAllowed c.args.task.now c.args.spec.now.inputs (decisions ends)) all) c.in-None.is c.in_ok-broken.ensures.allowed in (
      each_moment c.args.task.now c.args.spec.now all complete allowed,
      (c.in_ok-found.found.nodes, c.in_ok-found.ensures.nodes.0, sym c.nodes.ensures, omega (arith, c.nodes.ensures, c.in_ok-found.ensures.nodes.1)),
    )
