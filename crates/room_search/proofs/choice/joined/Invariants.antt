use Rattle.std.proofs.Common.{◌≡◌, ◌⊎◌, ◌+◌, ℕ, get_or, length}
use Rattle.room_search.proofs.choice.joined.Given as goal

abbrev pub invariant-loop-index : goal.invariant-loop-index
invariant-loop-index l = record {
  count : length l.joined.items ≡ l.index;
  each : (at word : ℕ) → get_or l.joined.items at 0 ≡ word + 1 → (get_or l.said at 0 ≡ word + 1) ⊎ (get_or l.own at 0 ≡ word + 1);
}
