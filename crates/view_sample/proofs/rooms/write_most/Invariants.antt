use Rattle.std.proofs.Common.{◌≡◌, ◌≤◌, ℕ, length, take}
use Rattle.view_sample.proofs.rooms.write_most.Given as goal

-- nothing was written yet, and the first ones are left
abbrev pub invariant-loop-shown : goal.invariant-loop-shown
invariant-loop-shown l = (l.output ≡ l.initial.output) × ((most : ℕ) × (most ≤ length l.initial.shown.items) × (l.shown.items ≡ take most l.initial.shown.items))

abbrev pub decreases-loop-shown : goal.decreases-loop-shown
decreases-loop-shown l = length l.shown.items
