use Rattle.std.proofs.Common.{◌≡◌, ◌≤◌, ◌+◌, ℕ, List, ◌++◌, length}
use Rattle.std.specs.Io.KnownBytes.{Appends}
use Rattle.io_text.proofs.output.write_output.Given as goal

-- what was written so far, and what is left of the output
abbrev pub invariant-loop-rest : goal.invariant-loop-rest
invariant-loop-rest g l =
    (written : List ℕ) × (l.output ≡ written ++ l.rest) × Appends (g.W.Write.contents l.initial.writer.inner) (g.W.Write.contents l.writer.inner) written × (l.writer.failed ≡ l.initial.writer.failed)
    × (l.writer.empty_write ≡ l.initial.writer.empty_write)
    × (l.writer.calls ≤ l.initial.writer.calls + length written) × (l.writer.calls + length l.rest ≤ l.initial.writer.calls + length l.output)

abbrev pub decreases-loop-rest : goal.decreases-loop-rest
decreases-loop-rest g l = length l.rest
