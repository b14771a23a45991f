use Rattle.std.proofs.Common.{◌≡◌, ◌++◌, take}
use Rattle.fault_text.specs.Lines.{lines_after}
use Rattle.file_faults.specs.Files.{all_objects}
use Rattle.file_faults.proofs.files.write_explained.Given as goal

-- what is left comes after the lines that were passed
abbrev pub invariant-loop-refusal : goal.invariant-loop-refusal
invariant-loop-refusal l = (l.rest ≡ lines_after l.passed l.input) × (l.output ≡ l.initial.output ++ all_objects l.input (take l.refusal-index l.refusals))
