use Rattle.std.proofs.Common.{map, take}
use Rattle.room_sample.specs.Shown.{AreShown, shown_of}
use Rattle.room_sample.proofs.examples.examples_of.Given as goal

-- the first ones are shown
abbrev pub invariant-loop-index : goal.invariant-loop-index
invariant-loop-index l = AreShown l.showing.spec.now l.showing.plan.now.crashes l.showing.scripts (take l.index l.outcomes) (map shown_of l.made.examples.items)
