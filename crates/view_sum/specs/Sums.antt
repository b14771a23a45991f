-- The sum of samples.
use Rattle.std.specs.Prelude.{◌≡◌, ⊤, ℕ, ◌+◌, ◌<◌, ◌^◌, ◌==◌, nat_lt, Bool, true, List, [], ◌∷◌, ◌++◌, map, length, Option, Some, None, is_some, option_map, slice_get, IsPermutation, string_bytes}
use Rattle.std.specs.List.{fold, list_all}
use Rattle.room_files.specs.Verdicts.{outcome_if}
use Rattle.room_files.specs.declared.outcome.Outcome.{Outcome}
use Rattle.room_sample.specs.Samples.{AreMostFirst, Counted}
use Rattle.room_sample.specs.Shown.{Shown, shown_of}
use Rattle.view_sum.specs.Adding.{with_part}
use Rattle.view_sum.specs.Files.{IsInOrder, Placed}
use Rattle.view_sum.specs.Forms.{has_held, sum_text}
use Rattle.view_sum.specs.Samples.{RoomSample, schedules_in}
use Rattle.view_sum.specs.declared.form.SumForm.{SumForm}
use Rattle.view_sum.specs.declared.so_far.SoFar.{SoFar}

-- the room, sampled in the same way, by no schedule yet
abbrev pub none_of : RoomSample → RoomSample
none_of part = record {
  name = part.name;
  how = part.how;
  decided = 0;
  held = 0;
  broken = option_map (λ times. 0) part.broken;
  outcomes = [];
}

-- 32 bits say in how many schedules of both the task was broken
abbrev pub are_few_broken : Option ℕ → Option ℕ → Bool
are_few_broken None later = true
are_few_broken (Some times) None = true
are_few_broken (Some times) (Some more) = nat_lt (times + more) (2 ^ 32)

-- A part is of the same room, which was sampled in the same way, and it begins with the schedule that comes after those so far.
pub record DoesFollow (so_far part : RoomSample) : Type 0 where
  pub name : part.name ≡ so_far.name
  pub crashes : so_far.how.crashes ≡ part.how.crashes
  pub seed : so_far.how.seed ≡ part.how.seed
  pub grouped : so_far.how.grouped ≡ part.how.grouped
  pub brief : so_far.how.brief ≡ part.how.brief
  pub task : is_some so_far.broken ≡ is_some part.broken
  pub from : part.how.from ≡ so_far.how.from + schedules_in so_far.outcomes
  pub few : schedules_in so_far.outcomes + schedules_in part.outcomes < 2 ^ 32
  pub few_broken : are_few_broken so_far.broken part.broken ≡ true

-- each part follows those before it
abbrev pub DoEachFollow : RoomSample → List RoomSample → Type 0
DoEachFollow so_far [] = ⊤
DoEachFollow so_far (part ∷ later) = DoesFollow so_far part × DoEachFollow (with_part so_far part) later

-- the parts, added one after the other
abbrev pub sum_of : RoomSample → List RoomSample → RoomSample
sum_of first parts = fold with_part (none_of first) parts

-- an outcome as it is counted
abbrev pub counted_as : Shown → Counted
counted_as one = record { states = one.states; first = one.first; times = one.times }

abbrev pub listed_as : List Shown → RoomSample → RoomSample
listed_as outcomes sample = record { name = sample.name; how = sample.how; decided = sample.decided; held = sample.held; broken = sample.broken; outcomes = outcomes }

-- the same, with those outcomes first that came most often, and of those that came as often the one that came first
pub record IsRanked (sum total : RoomSample) : Type 0 where
  pub ordered : List Shown
  pub all_ordered : IsPermutation sum.outcomes ordered
  pub most_first : AreMostFirst sum.how.from (map counted_as ordered)
  pub total_is : total ≡ listed_as ordered sum

-- The parts are of one room, sampled in one way by schedules that follow each other, and this is their sum.
pub record IsTotal (parts : List RoomSample) (total : RoomSample) : Type 0 where
  pub first : RoomSample
  pub first_is : slice_get parts 0 ≡ Some first
  pub follow : DoEachFollow (none_of first) parts
  pub ranked : IsRanked (sum_of first parts) total

abbrev pub in_list : Option RoomSample → List RoomSample
in_list None = []
in_list (Some part) = part ∷ []

-- the room of this number in each file that has one
abbrev pub parts_at : ℕ → List (List RoomSample) → List RoomSample
parts_at k [] = []
parts_at k (file ∷ files) = in_list (slice_get file k) ++ parts_at k files

-- of the rooms of the first numbers the sums of their parts
abbrev pub AreTotals : List (List RoomSample) → List RoomSample → Type 0
AreTotals files totals = (k : ℕ) (total : RoomSample) → slice_get totals k ≡ Some total → IsTotal (parts_at k files) total

-- The texts are samples of the same rooms, and of each room this is the sum: in the order of the files' first schedules, the schedules of each file
-- follow those before.
pub record IsSum (texts : List (List ℕ)) (totals : List RoomSample) : Type 0 where
  pub ordered : List Placed
  pub order : IsInOrder texts ordered
  pub same_rooms : list_all (λ file. length file.samples == length totals) ordered ≡ true
  pub each : AreTotals (map (λ file. file.samples) ordered) totals

-- The output is the sum of the texts, in this form. All is well if no schedule broke a room's task.
pub record IsSumOutput (form : SumForm) (texts : List (List ℕ)) (outcome : Outcome) (output : List ℕ) : Type 0 where
  pub totals : List RoomSample
  pub sum : IsSum texts totals
  pub output_is : output ≡ sum_text form totals
  pub outcome_is : outcome ≡ outcome_if (list_all has_held totals)

-- ---- how they are kept

abbrev pub so_far_of : SoFar → RoomSample
so_far_of so_far = record {
  name = string_bytes so_far.name;
  how = so_far.how;
  decided = so_far.decided;
  held = so_far.held;
  broken = so_far.broken;
  outcomes = map shown_of so_far.outcomes.items;
}
