use Rattle.std.proofs.Common.{◌∙◌, ◌≡◌, Option, ℕ, ap, rules, subst, sym}
use Rattle.simulator.specs.Minds.{MindState}
use Rattle.room_core.specs.Calls.{decision_at}
use Rattle.room_steps.specs.Steps.{end_in, new_decision}
use Rattle.room_steps.proofs.Words.{step_left}
use Rattle.room_steps.proofs.step.take_step.Goals as goal

pub returns-clause-step : goal.returns-clause-step
returns-clause-step c = (
  search rules,
  step_left c.args.room.now c.step-reply.new.self c.args.i c.in-Some.step c.word_at-after.result c.end_of-end.result c.new_decision-decision.result c.step-reply.ensures.room c.in-Some.ensures.step c.word_at-after.ensures
      (c.end_of-end.ensures ∙ ap (λ (mind : MindState). end_in mind c.in-Some.step.process) c.mind.ensures.value)
      (c.new_decision-decision.ensures ∙ ap (λ (before : Option ℕ). new_decision before c.decision.result) c.decision-before.ensures.value
      ∙ ap (λ (after : Option ℕ). new_decision (decision_at c.args.room.now c.args.i) after) c.decision.ensures.value),
)
