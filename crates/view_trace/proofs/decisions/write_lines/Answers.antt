use Rattle.std.proofs.Common.{None, ap, slice_index_or}
use Rattle.std.proofs.lemmas.List.{get_or_default}
use Rattle.report_text.proofs.CallerLemmas.{one_text_more}
use Rattle.view_trace.specs.Decisions.{decision_line}
use Rattle.view_trace.proofs.decisions.write_lines.Goals as goal

pub loop-simulator-preserved : goal.loop-simulator-preserved
loop-simulator-preserved c =
    one_text_more (λ i. decision_line i (slice_index_or c.args.decisions.now i None)) c.args.output.now c.loop-simulator.output c.write_line.new.output _ c.loop-simulator.simulator c.loop-simulator.invariant c.in_ok-write_line.ensures
    (ap (decision_line c.loop-simulator.simulator) (get_or_default c.args.decisions.now c.loop-simulator.simulator _ None c.loop-simulator-test.true))
