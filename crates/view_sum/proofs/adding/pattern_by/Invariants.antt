use Rattle.std.proofs.Common.{◌≡◌, map, take}
use Rattle.view_sum.specs.Adding.{state_by}
use Rattle.view_sum.proofs.adding.pattern_by.Given as goal

-- the states so far
abbrev pub invariant-loop-at : goal.invariant-loop-at
invariant-loop-at l = l.pattern.items ≡ map (state_by l.grouped) (take l.at l.states)
