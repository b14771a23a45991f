use Rattle.std.proofs.Common.{◌≡◌, ◌≤◌, ◌++◌, length, take}
use Rattle.io_text.proofs.copies.append.Given as goal

abbrev pub invariant-loop-rest : goal.invariant-loop-rest
invariant-loop-rest l = record {
  so_far : l.bytes.items ++ l.rest ≡ l.initial.bytes.items ++ l.more;
  within : length l.initial.bytes.items ≤ length l.bytes.items;
  kept : take (length l.initial.bytes.items) l.bytes.items ≡ l.initial.bytes.items;
}

abbrev pub decreases-loop-rest : goal.decreases-loop-rest
decreases-loop-rest l = length l.rest
