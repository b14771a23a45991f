-- What is written of a sum.
use Rattle.std.specs.Prelude.{ℕ, ◌==◌, not, ◌||◌, Bool, true, false, List, [], ◌++◌, length, take, Option, Some, None, if◌then◌else◌}
use Rattle.std.specs.List.{flat_map}
use Rattle.json_lines.specs.Lines.{json_line}
use Rattle.room_sample.specs.Shown.{Shown}
use Rattle.room_sample.specs.declared.sampling.Plan.{Plan}
use Rattle.view_sample.specs.Json.{outcome_lines}
use Rattle.view_sample.specs.Sample.{last_of}
use Rattle.view_sample.specs.TaskTexts.{broken_line, held_line}
use Rattle.view_sample.specs.Texts.{most_numbers, new_words, outcome_texts, plan_line, shown_count}
use Rattle.view_sum.specs.Samples.{RoomSample, once_in, room_data, schedules_in}
use Rattle.view_sum.specs.declared.form.SumForm.{SumForm}

-- the plan by which one sample has all these schedules
abbrev pub plan_of : RoomSample → Plan
plan_of total = record {
  schedules = schedules_in total.outcomes;
  crashes = total.how.crashes;
  seed = total.how.seed;
  from = total.how.from;
  workers = 1;
  group = total.how.grouped;
  brief = true;
  top = None;
  json = false;
  outcome = None;
}

-- the outcomes that are shown
abbrev pub shown_of_total : SumForm → RoomSample → List Shown
shown_of_total form total = take (shown_count form.top (length total.outcomes)) total.outcomes

-- as `sample --json` has it
abbrev pub total_lines : SumForm → RoomSample → List ℕ
total_lines form total = outcome_lines total.name (total.how.brief || form.brief) (shown_of_total form total) ++ json_line (room_data total)

-- in how many schedules the room's task was broken, or that it held, if it has one
abbrev pub verdict_line : List ℕ → Plan → Option ℕ → List ℕ
verdict_line name plan None = []
verdict_line name plan (Some times) = if times == 0 then held_line name plan else broken_line name plan times

abbrev pub listing_words : SumForm → RoomSample → List ℕ
listing_words form total =
    plan_line total.name (plan_of total) ++ (outcome_texts true total.name [] (shown_of_total form total) ++ (most_numbers total.name total.decided total.held ++ new_words total.name (length total.outcomes) (once_in total.outcomes) (schedules_in total.outcomes)))

-- as `sample --brief` has it
abbrev pub total_words : SumForm → RoomSample → List ℕ
total_words form total = listing_words form total ++ verdict_line total.name (plan_of total) total.broken

abbrev pub total_text : SumForm → RoomSample → List ℕ
total_text form total = if form.json then total_lines form total else total_words form total

-- all rooms, and in words that they are samples
abbrev pub sum_text : SumForm → List RoomSample → List ℕ
sum_text form totals = flat_map (total_text form) totals ++ last_of (not form.json)

abbrev pub is_held : Option ℕ → Bool
is_held None = true
is_held (Some times) = times == 0

-- no schedule broke the room's task
abbrev pub has_held : RoomSample → Bool
has_held total = is_held total.broken
