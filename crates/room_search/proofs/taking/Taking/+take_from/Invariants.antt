use Rattle.std.proofs.Common.{◌≡◌, ◌+◌, ◌-◌, suc, true, ℕ, length}
use Rattle.room_core.specs.Calls.{configuration_of}
use Rattle.room_search.specs.Beginnings.{begun}
use Rattle.room_search.specs.Taking.{Includes, IsTaking}
use Rattle.room_search.proofs.Alike.{AreFoundBefore}
use Rattle.room_search.proofs.taking.Taking.+take_from.Given as goal

abbrev pub decreases-take_from : goal.decreases-take_from
decreases-take_from l = l.source.now.subject.now.spec.now.simulators - length l.choice.now.numbers.items

abbrev pub invariant-loop-place : goal.invariant-loop-place
invariant-loop-place l = record {
  taking : IsTaking l.source.subject.now.spec.now (begun l.source.subject.now.spec.now l.source.subject.now.acts.now) l.source.crashes l.self;
  grown : Includes l.fn.self.outcomes.items l.self.outcomes.items;
  found : l.all ≡ true → (count : ℕ) → length l.choice.numbers.items + suc count ≡ l.source.subject.now.spec.now.simulators
      → AreFoundBefore l.source.subject.now.spec.now (configuration_of l.source.subject.now.start.now) l.source.explored.now.moves.table.keys l.self.outcomes.items l.node l.choice count l.before.keys l.place;
}
