use Rattle.std.proofs.Common.{◌∙◌, ap, map, rules}
use Rattle.serde_json.specs.View.{view}
use Rattle.step_words.specs.Data.{own_step_data}
use Rattle.step_words.proofs.Behind.{one_value_more}
use Rattle.step_words.proofs.data.own_steps_value.Goals as goal

pub loop-process-preserved : goal.loop-process-preserved
loop-process-preserved c =
    ap (map view) c.in_ok-push.ensures.items
    ∙ one_value_more view (own_step_data c.args.spec.now c.args.words.now c.args.simulator) c.loop-process.numbers.items c.from.result c.loop-process.process c.loop-process.invariant (search rules)
