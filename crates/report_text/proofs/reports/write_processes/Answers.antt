use Rattle.std.proofs.Common.{ap, slice_index_or}
use Rattle.std.proofs.lemmas.List.{get_or_default}
use Rattle.ws_history.specs.declared.states.ProcessState.TheVariants.{Going}
use Rattle.report_text.specs.ReportTexts.{process_line}
use Rattle.report_text.proofs.Pieces.{one_text_more}
use Rattle.report_text.proofs.reports.write_processes.Goals as goal

pub loop-process-preserved : goal.loop-process-preserved
loop-process-preserved c =
    one_text_more (λ process. process_line c.args.name.now process (slice_index_or c.args.states.now process Going)) c.args.output.now c.loop-process.output c.write_process.new.output _ c.loop-process.process c.loop-process.invariant
    c.in_ok-write_process.ensures
    (ap (process_line c.args.name.now c.loop-process.process) (get_or_default c.args.states.now c.loop-process.process _ Going c.loop-process-test.true))
