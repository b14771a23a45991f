use Rattle.std.proofs.Common.{◌≡◌, length}
use Rattle.room_search.specs.Saying.{DoSay, IsOwn}
use Rattle.room_search.proofs.first.first_own.Given as goal

abbrev pub invariant-loop-index : goal.invariant-loop-index
invariant-loop-index l = record {
  count : length l.own.items ≡ l.index;
  says : DoSay l.own.items l.subject.start.now.words;
  own : IsOwn l.subject.spec.now l.i l.own.items;
}
