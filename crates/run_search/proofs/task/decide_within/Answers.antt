use Rattle.std.proofs.Common.{ℕ, List, get_or, length, refl, sym, ap, ◌∙◌, arith, inl, inr}
use Rattle.std.proofs.lemmas.Bool.{cases_eq}
use Rattle.transcript.proofs.CallerLemmas.{contains_in}
use Rattle.run_search.specs.declared.local_state.LocalState.{LocalState}
use Rattle.run_search.specs.States.{blank}
use Rattle.run_search.specs.Tasks.{decided_values}
use Rattle.run_search.proofs.Deciding.{in_value}
use Rattle.run_search.proofs.task.decide_within.Goals as goal

pub loop-local-preserved : goal.loop-local-preserved
loop-local-preserved c = λ i v below due. elim (cases_eq i c.loop-local.local-index) [
  | inl same ↦
      let read = ap (λ (l : List LocalState). (get_or l c.loop-local.local-index blank).due) c.as_slice-local-items.ensures.value in
      c.if-not-is_decided.ensures refl v (read ∙ ap (λ (k : ℕ). (get_or c.args.one.now.items k blank).due) (sym same) ∙ due)
  | inr other ↦ c.loop-local.invariant i v (omega (arith, below, other)) due
]

pub returns : goal.returns
returns c = λ yes v there.
    let at = in_value c.args.one.now.items v (contains_in v (decided_values c.args.one.now.items) there) in
    let long = ap (λ (l : List LocalState). length l) c.as_slice-local-items.ensures.value in
    c.loop-local.invariant at.0 v (let inside = at.1 in omega (arith, inside, long, c.loop-local-test.false)) at.2
