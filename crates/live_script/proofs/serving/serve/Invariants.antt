use Rattle.std.proofs.Common.{◌≡◌, ◌<◌, ℕ, List, length, false, true}
use Rattle.std.specs.Io.KnownBytes.{Appends, Consumes}
use Rattle.live_script.specs.Entries.{IsBegun}
use Rattle.live_script.specs.Sessions.{IsFedOn, IsNew}
use Rattle.live_script.specs.declared.live.Live.{Live}
use Rattle.live_script.proofs.serving.serve.Given as goal

-- what was read so far, and the answers to it
abbrev pub invariant-loop : goal.invariant-loop
invariant-loop g l =
    (start : Live) × IsNew start × (bytes : List ℕ) × (output : List ℕ) × Consumes (g.R.Read.remaining l.initial.reader.inner) (g.R.Read.remaining l.reader.inner) bytes
    × Appends (g.W.Write.contents l.initial.writer.inner) (g.W.Write.contents l.writer.inner) output × IsFedOn start bytes l.feed.begun.items output l.feed.live × IsBegun l.feed.begun.items
    × (0 < length l.feed.piece.items) × (l.reader.failed ≡ false) × (l.writer.failed ≡ false) × (l.initial.writer.flushed ≡ true → l.writer.flushed ≡ true)
