use Rattle.std.proofs.Common.{◌≡◌, ◌<◌, ℕ, get_or}
use Rattle.room_search.specs.Ends.{IsNotCounted}
use Rattle.room_search.proofs.ends.says_enough.Given as goal

abbrev pub invariant-loop-index : goal.invariant-loop-index
invariant-loop-index l = (at : ℕ) → at < l.index → get_or l.said at 0 ≡ 0 → IsNotCounted l.subject.spec.now l.words at
