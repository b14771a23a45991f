use Rattle.std.proofs.Common.{◌≡◌, length}
use Rattle.room_search.specs.Saying.{DoSay}
use Rattle.room_search.proofs.first.first_said.Given as goal

abbrev pub invariant-loop-index : goal.invariant-loop-index
invariant-loop-index l = record {
  count : length l.said.items ≡ l.index;
  says : DoSay l.said.items l.subject.start.now.words;
}
