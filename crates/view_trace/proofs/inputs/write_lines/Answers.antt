use Rattle.std.proofs.Common.{ap}
use Rattle.report_text.proofs.CallerLemmas.{one_text_more}
use Rattle.room_core.specs.Calls.{input_of}
use Rattle.view_trace.specs.Inputs.{input_line}
use Rattle.view_trace.proofs.inputs.write_lines.Goals as goal

pub loop-process-preserved : goal.loop-process-preserved
loop-process-preserved c =
    one_text_more (λ j. input_line j (input_of c.args.room.now j)) c.args.output.now c.loop-process.output c.write_line.new.output _ c.loop-process.process c.loop-process.invariant c.in_ok-write_line.ensures
    (ap (input_line c.loop-process.process) c.input.ensures.value)
