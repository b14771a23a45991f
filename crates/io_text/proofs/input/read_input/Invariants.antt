use Rattle.std.proofs.Common.{◌≡◌, ◌+◌, false, ◌≤◌, ◌<◌, ◌-◌, length}
use Rattle.std.specs.Io.KnownBytes.{Consumes}
use Rattle.io_text.proofs.input.read_input.Given as goal

abbrev pub invariant-loop-text : goal.invariant-loop-text
invariant-loop-text g l = record {
  read : Consumes (g.R.Read.remaining l.initial.reader.inner) (g.R.Read.remaining l.reader.inner) l.text.items;
  short : length l.text.items ≤ 16777216;
  piece : 0 < length l.piece.items;
  sound : l.reader.failed ≡ false;
  reads : l.reader.calls ≤ l.initial.reader.calls + length l.text.items;
  ended : l.reader.ended ≡ l.initial.reader.ended;
  once : l.initial.reader.ended ≡ false → l.reader.asked_past_end ≡ l.initial.reader.asked_past_end;
}

abbrev pub decreases-loop-text : goal.decreases-loop-text
decreases-loop-text g l = 16777216 - length l.text.items
