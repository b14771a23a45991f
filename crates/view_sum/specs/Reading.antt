-- What was read of a file.
use Rattle.std.specs.Prelude.{ℕ, ◌==◌, Bool, List, ◌++◌, length, map, string_bytes}
use Rattle.room_sample.specs.Shown.{shown_of}
use Rattle.view_sample.specs.Json.{outcome_lines}
use Rattle.view_sum.specs.Samples.{sample_of, sample_text}
use Rattle.view_sum.specs.Fields.{OutcomeSaid, RoomSaid}
use Rattle.view_sum.specs.declared.lines.OutcomeRead.{OutcomeRead}
use Rattle.view_sum.specs.declared.lines.RoomRead.{RoomRead}
use Rattle.view_sum.specs.declared.listed.Listed.{Listed}
use Rattle.view_sum.specs.declared.reading.Reading.{Reading}

-- the lines of outcomes whose room's own line isn't read yet
abbrev pub listed_text : Listed → List ℕ
listed_text listed = outcome_lines (string_bytes listed.name) listed.brief (map shown_of listed.outcomes.items)

-- the lines that were read
abbrev pub read_text : Reading → List ℕ
read_text reading = sample_text (map sample_of reading.parts.items) ++ listed_text reading.listed

-- ---- what a line says

abbrev pub outcome_said : OutcomeRead → OutcomeSaid
outcome_said read = record { name = string_bytes read.name; brief = read.brief; one = shown_of read.one }

abbrev pub room_said : RoomRead → RoomSaid
room_said read = record {
  name = string_bytes read.name;
  crashes = read.crashes;
  seed = read.seed;
  from = read.from;
  grouped = read.grouped;
  decided = read.decided;
  held = read.held;
  broken = read.broken;
  count = read.count;
}

abbrev pub is_none_listed : Listed → Bool
is_none_listed listed = length listed.outcomes.items == 0
