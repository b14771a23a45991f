use Rattle.std.proofs.Common.{refl}
use Rattle.report_text.proofs.CallerLemmas.{one_text_more}
use Rattle.view_outcomes.specs.Texts.{spent_line_if}
use Rattle.view_outcomes.proofs.text.write_spent_lines.Goals as goal

pub loop-process-preserved : goal.loop-process-preserved
loop-process-preserved c =
    one_text_more (spent_line_if c.args.name.now c.args.all.now) c.args.output.now c.loop-process.output c.write_spent_if.new.output _ c.loop-process.process c.loop-process.invariant
    c.in_ok-write_spent_if.ensures refl
