use Rattle.std.proofs.Common.{◌≡◌, ℕ, ◌<◌, false}
use Rattle.room_core.specs.Agreements.{is_out}
use Rattle.room_search.specs.Ends.{fields_by}
use Rattle.room_search.proofs.reading.decided_in.Given as goal

abbrev pub invariant-loop-i : goal.invariant-loop-i
invariant-loop-i l = (k : ℕ) → k < l.i → is_out ((fields_by l.subject.spec.now l.words).out k l.j) ≡ false
