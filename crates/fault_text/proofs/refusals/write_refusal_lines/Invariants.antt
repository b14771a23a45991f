use Rattle.std.proofs.Common.{◌≡◌, ◌++◌, take}
use Rattle.std.specs.List.{flat_map}
use Rattle.fault_text.specs.Refusals.{refusal_line}
use Rattle.fault_text.proofs.refusals.write_refusal_lines.Given as goal

abbrev pub invariant-loop-refusal : goal.invariant-loop-refusal
invariant-loop-refusal l = l.output ≡ l.initial.output ++ flat_map refusal_line (take l.refusal-index l.refusals)
