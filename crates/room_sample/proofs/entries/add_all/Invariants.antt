use Rattle.std.proofs.Common.{◌≡◌, ◌≤◌, length}
use Rattle.indexmap.specs.IndexMap.{spare}
use Rattle.room_sample.specs.Parts.{added_all}
use Rattle.room_sample.specs.Samples.{outcomes_in}
use Rattle.room_sample.proofs.entries.add_all.Given as goal

-- those that are left, added to the entries so far, give all; and there is room for them
abbrev pub invariant-loop-states : goal.invariant-loop-states
invariant-loop-states l =
    (goal.iterator-loop-states).can_next l.states-iterator × (goal.iterator-loop-states).is_finite l.states-iterator
    × (added_all (outcomes_in l.entries.entries) (outcomes_in l.states-iterator) ≡ added_all (outcomes_in l.initial.entries.entries) (outcomes_in l.fn.later.entries))
    × (length l.states-iterator ≤ spare l.entries)
