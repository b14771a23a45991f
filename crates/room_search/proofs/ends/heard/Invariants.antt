use Rattle.std.proofs.Common.{◌≡◌, ◌-◌, ◌<◌, ℕ, get_or, length}
use Rattle.room_search.proofs.ends.heard.Given as goal

abbrev pub invariant-loop-index : goal.invariant-loop-index
invariant-loop-index l = record {
  count : length l.words.items ≡ l.index;
  each : (at : ℕ) → at < l.index → get_or l.words.items at 0 ≡ get_or l.said at 0 - 1;
}
