use Rattle.std.proofs.Common.{◌≡◌, ℕ, List, length, false, true}
use Rattle.std.specs.Io.KnownBytes.{Appends}
use Rattle.live_script.specs.Sessions.{IsFedOn}
use Rattle.live_script.proofs.serving.answer_all.Given as goal

-- what was answered so far, and what is left of the text
abbrev pub invariant-loop-used : goal.invariant-loop-used
invariant-loop-used g l =
    (output : List ℕ) × Appends (g.W.Write.contents l.initial.writer.inner) (g.W.Write.contents l.writer.inner) output × IsFedOn l.initial.live l.text l.rest output l.live × (l.writer.failed ≡ false)
    × (l.initial.writer.flushed ≡ true → l.writer.flushed ≡ true)

abbrev pub decreases-loop-used : goal.decreases-loop-used
decreases-loop-used g l = length l.rest
