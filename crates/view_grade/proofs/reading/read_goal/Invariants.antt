use Rattle.std.proofs.Common.{◌≡◌, ◌+◌, ◌<◌, ℕ, length}
use Rattle.room_spec.specs.Texts.{fields_of}
use Rattle.view_grade.specs.Goals.{goal_from, goal_in}
use Rattle.view_grade.proofs.Claims.{after}
use Rattle.view_grade.proofs.reading.read_goal.Given as goal

-- the rest says what is left of the goal
abbrev pub invariant-loop-claim : goal.invariant-loop-claim
invariant-loop-claim l = (most : ℕ) × (length l.rest < most) × (goal_in l.text ≡ after l.claims.items (goal_from most (length l.claims.items + 1) l.joint (fields_of l.rest)))

abbrev pub decreases-loop-claim : goal.decreases-loop-claim
decreases-loop-claim l = length l.rest
