use Rattle.std.proofs.Common.{◌≡◌, ◌++◌, None, map, slice_index_or}
use Rattle.std.specs.List.{concat, range_with_len}
use Rattle.view_trace.specs.Decisions.{decision_line}
use Rattle.view_trace.proofs.decisions.write_lines.Given as goal

abbrev pub invariant-loop-simulator : goal.invariant-loop-simulator
invariant-loop-simulator l = l.output ≡ l.initial.output ++ concat (map (λ i. decision_line i (slice_index_or l.decisions i None)) (range_with_len 0 l.simulator))
