-- Parts that are samples: what each says of its outcomes is what schedules led to.
use Rattle.std.specs.Prelude.{◌≡◌, ⊤, ℕ, ◌<◌, ◌^◌, false, List, [], ◌∷◌, if◌then◌else◌}
use Rattle.std.specs.List.{sum_by}
use Rattle.room_spec.specs.Rooms.{RoomSpec}
use Rattle.ws_history.specs.declared.states.ProcessState.{ProcessState}
use Rattle.room_sample.specs.Samples.{Counted, IsSampleOf, same_states}
use Rattle.room_sample.specs.Shown.{Shown}
use Rattle.room_sample.specs.declared.sampling.Plan.{Plan}
use Rattle.view_sum.specs.Samples.{RoomSample, schedules_in}
use Rattle.view_sum.specs.Sums.{DoEachFollow, none_of, sum_of}

-- how often an outcome of these states came, among those that are counted
abbrev pub counted_times : List ProcessState → List Counted → ℕ
counted_times states outcomes = sum_by (λ one. if same_states states one.states then one.times else 0) outcomes

-- and among those that are listed
abbrev pub listed_times : List ProcessState → List Shown → ℕ
listed_times states outcomes = sum_by (λ one. if same_states states one.states then one.times else 0) outcomes

-- Each outcome is listed as often as it came in a sample of the room, by the seed, the crashes and the first number that are said.
pub record ListsSample (spec : RoomSpec) (part : RoomSample) : Type 0 where
  pub plan : Plan
  pub crashes : plan.crashes ≡ part.how.crashes
  pub seed : plan.seed ≡ part.how.seed
  pub from : plan.from ≡ part.how.from
  pub fits : part.how.from < 2 ^ 32
  pub outcomes : List Counted
  pub sample : IsSampleOf spec plan (schedules_in part.outcomes) outcomes
  pub times : (states : List ProcessState) → listed_times states part.outcomes ≡ counted_times states outcomes

-- each part does
abbrev pub ListSamples : RoomSpec → List RoomSample → Type 0
ListSamples spec [] = ⊤
ListSamples spec (part ∷ parts) = ListsSample spec part × ListSamples spec parts

-- samples of a room that follow each other add up to one sample of all their schedules
abbrev pub DoAddUp : RoomSpec → RoomSample → List RoomSample → Type 0
DoAddUp spec first later = first.how.grouped ≡ false → ListSamples spec (first ∷ later) → DoEachFollow (none_of first) (first ∷ later) → ListsSample spec (sum_of first (first ∷ later))
