use Rattle.std.proofs.Common.{◌≡◌, map, take}
use Rattle.room_sample.specs.Groups.{without_holder}
use Rattle.room_sample.proofs.tally.pattern_of.Given as goal

-- the states so far
abbrev pub invariant-loop-at : goal.invariant-loop-at
invariant-loop-at l = l.pattern.items ≡ map without_holder (take l.at l.states)
