use Rattle.serde_json.specs.View.{view}
use Rattle.json_lines.specs.Values.{number_data}
use Rattle.view_outcomes.specs.Counts.{can_be_spent}
use Rattle.view_outcomes.proofs.Spending.{one_number_more}
use Rattle.view_outcomes.proofs.json.spent_value.Goals as goal

pub loop-process-preserved : goal.loop-process-preserved
loop-process-preserved c = one_number_more view number_data (can_be_spent c.args.all.now) c.loop-process.values.items c.push_if_spent.new.values.items c.loop-process.process c.loop-process.invariant c.in_ok-push_if_spent.ensures
