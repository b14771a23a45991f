use Rattle.std.proofs.Common.{◌≡◌, ◌++◌, map, slice_index_or}
use Rattle.std.specs.List.{concat, range_with_len}
use Rattle.ws_history.specs.declared.states.ProcessState.TheVariants.{Going}
use Rattle.report_text.specs.ReportTexts.{process_line}
use Rattle.report_text.proofs.reports.write_processes.Given as goal

abbrev pub invariant-loop-process : goal.invariant-loop-process
invariant-loop-process l = l.output ≡ l.initial.output ++ concat (map (λ process. process_line l.name process (slice_index_or l.states process Going)) (range_with_len 0 l.process))
