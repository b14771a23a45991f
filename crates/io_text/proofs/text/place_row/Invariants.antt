use Rattle.std.proofs.Common.{◌≡◌, ◌+◌, ◌*◌, ◌≤◌, ◌++◌, length, take}
use Rattle.io_text.specs.Numbers.{entries_text}
use Rattle.io_text.proofs.text.place_row.Given as goal

abbrev pub invariant-loop-index : goal.invariant-loop-index
invariant-loop-index l = record {
  text : take l.end l.bytes ≡ take l.at l.initial.bytes ++ entries_text (take l.index l.row);
  room : l.end ≤ l.at + l.index * 24;
  len : length l.bytes ≡ length l.initial.bytes;
}
