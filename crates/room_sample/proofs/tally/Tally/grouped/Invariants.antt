use Rattle.std.proofs.Common.{◌≡◌, map}
use Rattle.std.specs.List.{fold}
use Rattle.room_sample.specs.Groups.{ArePatterns, grouped, joined}
use Rattle.room_sample.specs.Samples.{counted_of}
use Rattle.room_sample.proofs.tally.Tally.grouped.Given as goal

-- those that are left, joined to the groups so far, give all
abbrev pub invariant-loop-states : goal.invariant-loop-states
invariant-loop-states l =
    (goal.iterator-loop-states).can_next l.states-iterator × (goal.iterator-loop-states).is_finite l.states-iterator
    × (fold (λ groups one. joined one groups) l.groups (map counted_of l.states-iterator) ≡ grouped l.fn.self)
    × ArePatterns l.groups l.patterns.keys
