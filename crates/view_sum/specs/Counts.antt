-- What a sum of samples says, outcome by outcome.
use Rattle.std.specs.Prelude.{◌≡◌, ℕ, Bool, List, if◌then◌else◌}
use Rattle.std.specs.List.{sum_by}
use Rattle.room_sample.specs.Shown.{Shown}
use Rattle.view_sum.specs.Adding.{is_same}
use Rattle.view_sum.specs.Samples.{RoomSample, schedules_in}

-- how often an outcome came if it is the same as another
abbrev pub times_if : Bool → Shown → Shown → ℕ
times_if grouped one other = if is_same grouped one other then other.times else 0

-- how often this outcome came
abbrev pub times_of : Bool → Shown → List Shown → ℕ
times_of grouped one outcomes = sum_by (times_if grouped one) outcomes

-- Each outcome came as often as in all parts together, and so did all outcomes.
pub record AreSumsOf (grouped : Bool) (parts : List RoomSample) (outcomes : List Shown) : Type 0 where
  pub times : (one : Shown) → times_of grouped one outcomes ≡ sum_by (λ part. times_of grouped one part.outcomes) parts
  pub schedules : schedules_in outcomes ≡ sum_by (λ part. schedules_in part.outcomes) parts
