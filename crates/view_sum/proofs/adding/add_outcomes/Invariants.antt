use Rattle.std.proofs.Common.{◌≡◌, ◌+◌, map, take}
use Rattle.std.specs.List.{sum_by}
use Rattle.room_sample.specs.Shown.{shown_of}
use Rattle.view_sum.specs.Adding.{ArePatterns, with_outcomes}
use Rattle.view_sum.proofs.adding.add_outcomes.Given as goal

-- those so far are added
abbrev pub invariant-loop-one : goal.invariant-loop-one
invariant-loop-one l =
    (map shown_of l.outcomes.items ≡ with_outcomes l.grouped (map shown_of l.initial.outcomes.items) (map shown_of (take l.one-index l.later)))
    × ArePatterns l.grouped (map shown_of l.outcomes.items) l.patterns.keys
    × (sum_by (λ one. one.times) l.outcomes.items ≡ sum_by (λ one. one.times) l.initial.outcomes.items + sum_by (λ one. one.times) (take l.one-index l.later))
