use Rattle.std.proofs.Common.{◌≡◌, ℕ, ◌<◌, false}
use Rattle.std.specs.Prelude.{nat_le}
use Rattle.room_search.specs.Ends.{fields_by}
use Rattle.room_search.proofs.reading.first_with.Given as goal

abbrev pub invariant-loop-i : goal.invariant-loop-i
invariant-loop-i l = (k : ℕ) → k < l.i → nat_le l.r ((fields_by l.subject.spec.now l.words).step k l.p) ≡ false
