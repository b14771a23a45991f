-- What the JSON of a sample says of a room, and its lines.
use Rattle.std.specs.Prelude.{ℕ, List, ◌++◌, ◌==◌, length, map, Option, Some, None, codes, if◌then◌else◌, string_bytes}
use Rattle.std.specs.List.{flat_map, sum_by}
use Rattle.serde_json.specs.Data.{Data, boolean, member, no_members, null, number, object, string, unsigned}
use Rattle.json_lines.specs.Lines.{json_line}
use Rattle.room_sample.specs.Shown.{Shown, shown_of}
use Rattle.view_sample.specs.Json.{outcome_lines}
use Rattle.view_sum.specs.declared.part.How.{How}
use Rattle.view_sum.specs.declared.part.Part.{Part}

-- A room, how it was sampled, and its outcomes in the order in which they are listed: with the most values that any of them decides, the most
-- processes that any holds, and in how many schedules the room's task was broken, if it has one.
pub record RoomSample : Type 0 where
  pub name : List ℕ
  pub how : How
  pub decided : ℕ
  pub held : ℕ
  pub broken : Option ℕ
  pub outcomes : List Shown

-- each schedule led to one outcome
abbrev pub schedules_in : List Shown → ℕ
schedules_in outcomes = sum_by (λ one. one.times) outcomes

abbrev pub one_if_once : Shown → ℕ
one_if_once one = if one.times == 1 then 1 else 0

-- how many outcomes came only once
abbrev pub once_in : List Shown → ℕ
once_in outcomes = sum_by one_if_once outcomes

abbrev pub broken_data : Option ℕ → Data
broken_data None = null
broken_data (Some times) = number (unsigned times)

-- what is said of the room after its outcomes
abbrev pub room_data : RoomSample → Data
room_data sample =
    object (member (codes "crashes") (number (unsigned sample.how.crashes)) (member (codes "decided_at_most") (number (unsigned sample.decided))
    (member (codes "from") (number (unsigned sample.how.from)) (member (codes "grouped") (boolean sample.how.grouped) (member (codes "held_at_most") (number (unsigned sample.held)) (member (codes "once") (number (unsigned (once_in sample.outcomes)))
    (member (codes "outcomes") (number (unsigned (length sample.outcomes))) (member (codes "room") (string sample.name)
    (member (codes "schedules") (number (unsigned (schedules_in sample.outcomes))) (member (codes "seed") (number (unsigned sample.how.seed))
    (member (codes "task_broken") (broken_data sample.broken) no_members)))))))))))

-- the lines of a room: one for each outcome, and then one for the room
abbrev pub room_text : RoomSample → List ℕ
room_text sample = outcome_lines sample.name sample.how.brief sample.outcomes ++ json_line (room_data sample)

-- the lines of a sample of several rooms
abbrev pub sample_text : List RoomSample → List ℕ
sample_text samples = flat_map room_text samples

-- ---- how they are kept

abbrev pub sample_of : Part → RoomSample
sample_of part = record {
  name = string_bytes part.name;
  how = part.how;
  decided = part.decided;
  held = part.held;
  broken = part.broken;
  outcomes = map shown_of part.outcomes.items;
}
