use Rattle.std.proofs.Common.{◌≡◌, ◌++◌, take}
use Rattle.std.specs.List.{flat_map}
use Rattle.fault_text.specs.Lines.{lines_after, from_line}
use Rattle.fault_text.specs.Refusals.{said_refusal}
use Rattle.fault_text.proofs.refusals.write_explained.Given as goal

-- what is left stands behind the lines that were passed
abbrev pub invariant-loop-refusal : goal.invariant-loop-refusal
invariant-loop-refusal l =
    (l.rest ≡ lines_after l.passed l.input)
    × (l.output ≡ l.initial.output ++ flat_map (λ refusal. said_refusal (from_line refusal.line l.input) refusal) (take l.refusal-index l.refusals))
