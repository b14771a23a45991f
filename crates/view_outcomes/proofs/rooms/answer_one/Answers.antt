use Rattle.std.proofs.Common.{inl, inr}
use Rattle.view_outcomes.specs.declared.search.Asked.TheVariants.{Outcomes, First, Task, Inputs}
use Rattle.view_outcomes.proofs.Answering.{asked_reported}
use Rattle.view_outcomes.proofs.rooms.answer_one.Goals as goal

pub returns-in-Outcomes : goal.returns-in-Outcomes
returns-in-Outcomes g c = elim c.in-Outcomes.is [
  | inl all ↦ asked_reported c.args.room.now.search.now c.args.room.now.spec.now c.args.room.now.block.now Outcomes c.args.output.now c.list.new.output c.list.result all c.list.ensures
  | inr first ↦ asked_reported c.args.room.now.search.now c.args.room.now.spec.now c.args.room.now.block.now (First first.0) c.args.output.now c.list.new.output c.list.result first.1 c.list.ensures
]

pub returns-in-Task : goal.returns-in-Task
returns-in-Task g c = asked_reported c.args.room.now.search.now c.args.room.now.spec.now c.args.room.now.block.now Task c.args.output.now c.judge.new.output c.judge.result c.in-Task.is c.judge.ensures

pub returns-in-Inputs : goal.returns-in-Inputs
returns-in-Inputs g c =
    asked_reported c.args.room.now.search.now c.args.room.now.spec.now c.args.room.now.block.now (Inputs c.in-Inputs.values) c.args.output.now c.judge_all.new.output c.judge_all.result c.in-Inputs.is c.judge_all.ensures
