use Rattle.std.proofs.Common.{◌≡◌, ◌≤◌, ◌++◌, ℕ, length}
use Rattle.file_faults.specs.Warnings.{file_parts, warnings_said}
use Rattle.file_faults.specs.Walks.{said_from}
use Rattle.file_faults.proofs.warnings.warnings_said.Given as goal

-- what is said so far, and what is said of the rest
abbrev pub invariant-walk : goal.invariant-walk
invariant-walk l = (most : ℕ) × (length l.rest ≤ most) × (l.output ++ said_from (file_parts l.json) most l.left tt l.number l.rest ≡ warnings_said l.json l.input)

abbrev pub decreases-walk : goal.decreases-walk
decreases-walk l = length l.rest
