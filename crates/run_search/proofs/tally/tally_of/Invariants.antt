use Rattle.std.proofs.Common.{◌≡◌, ◌<◌, ℕ, Some}
use Rattle.std.specs.Prelude.{slice_get}
use Rattle.room_spec.specs.Rooms.{processes}
use Rattle.run_search.specs.Choices.{AreSeen}
use Rattle.run_search.specs.Nodes.{Node}
use Rattle.run_search.specs.Outcomes.{AreEnds, AreNoted}
use Rattle.run_search.proofs.tally.tally_of.Given as goal

abbrev pub invariant-loop-index : goal.invariant-loop-index
invariant-loop-index l = record {
  ends : AreEnds l.spec l.nodes l.crashes l.listing.tally.ends.keys l.listing.tally.witnesses.items;
  seen : AreSeen (processes l.spec) l.crashes l.listing.seen.keys l.listing.tally.ends.keys l.listing.tally.witnesses.items;
  noted : (i : ℕ) (node : Node) → i < l.index → slice_get l.nodes i ≡ Some node → AreNoted l.spec node l.crashes l.listing.tally.ends.keys l.listing.tally.witnesses.items;
}
