use Rattle.std.proofs.Common.{◌∙◌, ap, map}
use Rattle.serde_json.specs.View.{view}
use Rattle.step_words.specs.Data.{own_steps_data}
use Rattle.step_words.specs.Sights.{memory_with}
use Rattle.step_words.proofs.Behind.{one_value_more}
use Rattle.step_words.proofs.data.steps_value.Goals as goal

pub loop-simulator-preserved : goal.loop-simulator-preserved
loop-simulator-preserved c =
    let more = c.in_ok-row.ensures ∙ ap (λ words. own_steps_data c.args.spec.now words c.loop-simulator.simulator) c.memory_with-words.ensures.value in
    ap (map view) c.in_ok-push.ensures.items
    ∙ one_value_more view (own_steps_data c.args.spec.now (memory_with c.args.at c.args.word)) c.loop-simulator.rows.items c.in_ok-row.row c.loop-simulator.simulator c.loop-simulator.invariant more
