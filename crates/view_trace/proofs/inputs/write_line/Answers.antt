use Rattle.std.proofs.Common.{◌∷◌, ◌++◌, codes, decimal}
use Rattle.view_trace.specs.Inputs.{process_words}
use Rattle.view_trace.proofs.Tracing.{two_texts}
use Rattle.view_trace.proofs.inputs.write_line.Goals as goal

pub returns-in_ok-write_process-in-Some : goal.returns-in_ok-write_process-in-Some
returns-in_ok-write_process-in-Some c = rw c.in-Some.is
    (two_texts c.write_value.result c.args.output.now c.write_process-in-Some.new.output c.write_value.new.output (process_words c.args.process (codes " has the input")) ((32 ∷ decimal c.in-Some.value) ++ codes "\n")
    c.in_ok-write_process-in-Some.ensures c.write_value.ensures)
