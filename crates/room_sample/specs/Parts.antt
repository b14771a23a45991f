-- Outcomes that are counted in parts, each part on its own.
use Rattle.std.specs.Prelude.{◌≡◌, ℕ, zero, suc, ◌+◌, ◌-◌, ◌^◌, List, [], ◌∷◌, min, if◌then◌else◌}
use Rattle.std.specs.List.{fold}
use Rattle.room_spec.specs.Rooms.{RoomSpec}
use Rattle.room_sample.specs.Samples.{AreRunsFrom, Counted, Sampled, counted_all, same_states}
use Rattle.room_sample.specs.declared.sampling.Plan.{Plan}

-- the outcomes of the runs by the schedules of this many places from the first one on
pub record AreCountedFrom (spec : RoomSpec) (plan : Plan) (first count : ℕ) (outcomes : List Counted) : Type 0 where
  pub runs : List Sampled
  pub are_runs : AreRunsFrom spec plan first count runs
  pub outcomes_are : outcomes ≡ counted_all runs

-- an outcome came this many times more; it stops at the greatest number that is counted
abbrev pub more_times : ℕ → Counted → Counted
more_times count one = record { states = one.states; first = one.first; times = min (one.times + count) (2 ^ 32 - 1) }

-- the outcomes, and one of a later part: it has come before, or comes for the first time
abbrev pub added : Counted → List Counted → List Counted
added one [] = one ∷ []
added one (other ∷ others) = if same_states one.states other.states then more_times one.times other ∷ others else other ∷ added one others

-- and all of a later part, in order
abbrev pub added_all : List Counted → List Counted → List Counted
added_all outcomes later = fold (λ so_far one. added one so_far) outcomes later

-- the outcomes, where that of an index came this many times more
abbrev pub more_at : List Counted → ℕ → ℕ → List Counted
more_at [] i count = []
more_at (one ∷ others) zero count = more_times count one ∷ others
more_at (one ∷ others) (suc i) count = one ∷ more_at others i count
