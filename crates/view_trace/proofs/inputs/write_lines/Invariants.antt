use Rattle.std.proofs.Common.{◌≡◌, ◌++◌, map}
use Rattle.std.specs.List.{concat, range_with_len}
use Rattle.room_core.specs.Calls.{input_of}
use Rattle.view_trace.specs.Inputs.{input_line}
use Rattle.view_trace.proofs.inputs.write_lines.Given as goal

abbrev pub invariant-loop-process : goal.invariant-loop-process
invariant-loop-process l = l.output ≡ l.initial.output ++ concat (map (λ j. input_line j (input_of l.room j)) (range_with_len 0 l.process))
