use Rattle.std.proofs.Common.{◌≡◌, take}
use Rattle.simulator_lanes.specs.Turns.{last_of}
use Rattle.simulator_lanes.proofs.turns.last_of.Given as goal

abbrev pub invariant-loop-other : goal.invariant-loop-other
invariant-loop-other l = l.last ≡ last_of l.step l.initial.last (take l.other-index l.columns)
