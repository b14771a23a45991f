use Rattle.std.proofs.Common.{◌≡◌, ◌≤◌, ◌++◌, ℕ, length}
use Rattle.file_faults.specs.Scripts.{entries, script_said}
use Rattle.file_faults.specs.Walks.{said_from}
use Rattle.file_faults.proofs.scripts.script_said.Given as goal

-- what is said so far, and what is said of the rest
abbrev pub invariant-walk : goal.invariant-walk
invariant-walk l = (most : ℕ) × (length l.rest ≤ most) × (l.output ++ said_from (entries l.json l.script) most l.left l.known l.number l.rest ≡ script_said l.json l.script)

abbrev pub decreases-walk : goal.decreases-walk
decreases-walk l = length l.rest
