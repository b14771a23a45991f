-- When samples are not added up: what is said of a file and of its line is so.
use Rattle.std.specs.Prelude.{◌≡◌, ◌≢◌, ◌⊎◌, ⊤, ℕ, zero, suc, ◌+◌, ◌-◌, ◌^◌, ◌<◌, ◌≤◌, min, Bool, false, List, [], ◌++◌, length, map, take, Option, Some, None, is_some, slice_get, codes, string_bytes, IsUtf8}
use Rattle.serde_json.specs.Data.{Data}
use Rattle.serde_json.specs.Read.{read}
use Rattle.json_lines.specs.Lines.{json_line}
use Rattle.room_sample.specs.Shown.{Shown, shown_of}
use Rattle.view_sample.specs.Json.{outcome_line, outcome_lines}
use Rattle.view_sum.specs.Fields.{RoomSaid, number_at, text_at}
use Rattle.view_sum.specs.Files.{IsInOrder, Placed, lines_in}
use Rattle.view_sum.specs.Lines.{IsWritable, IsWritableRoom}
use Rattle.view_sum.specs.Samples.{RoomSample, room_data, sample_text, schedules_in}
use Rattle.view_sum.specs.Sums.{DoEachFollow, are_few_broken, none_of, parts_at, sum_of}
use Rattle.view_sum.specs.declared.fault.BadPart.{BadPart}
use Rattle.view_sum.specs.declared.fault.Member.{Member}
use Rattle.view_sum.specs.declared.fault.Member.TheVariants.{Crashes, Seed, Grouped, Schedule, Task}
use Rattle.view_sum.specs.declared.fault.Reason.{Reason}
use Rattle.view_sum.specs.declared.fault.Reason.TheVariants.{Malformed, NotOfSample, OtherRoom, OtherCount, Unended, TooMany, OtherRooms, OtherPlan, Overlap, Gap}
use Rattle.view_sum.specs.declared.fault.Stop.{Stop}
use Rattle.view_sum.specs.declared.fault.Stop.TheVariants as stops
use Rattle.view_sum.specs.declared.fault.SumFault.{SumFault}
use Rattle.view_sum.specs.declared.fault.SumFault.TheVariants.{Memory, Bad}
use Rattle.view_sum.specs.declared.listed.Listed.{Listed}

-- ---- a line that isn't of a sample

-- Outcomes of a room whose own line is still to come, and whether their schedules are left out.
pub record Pending : Type 0 where
  pub name : List ℕ
  pub brief : Bool
  pub outcomes : List Shown

-- what the first lines of a file say
abbrev pub begun_text : List RoomSample → Pending → List ℕ
begun_text samples pending = sample_text samples ++ outcome_lines pending.name pending.brief pending.outcomes

-- a line about this room, with or without schedules, may be next
abbrev pub MayFollow : Pending → List ℕ → Bool → Type 0
MayFollow pending name brief = (pending.outcomes ≡ []) ⊎ ((pending.name ≡ name) × (pending.brief ≡ brief))

-- the line is no outcome's
abbrev pub IsNoOutcome : Pending → List ℕ → Type 0
IsNoOutcome pending line = (name : List ℕ) (brief : Bool) (one : Shown) → IsUtf8 name → IsWritable one → MayFollow pending name brief → line ≢ outcome_line name brief one

-- nor is it that of the room with these outcomes
abbrev pub IsNoRoom : Pending → List ℕ → Type 0
IsNoRoom pending line = (sample : RoomSample) → IsWritableRoom sample → sample.outcomes ≡ pending.outcomes → MayFollow pending sample.name sample.how.brief → line ≢ json_line (room_data sample)

-- the line is JSON of this value
abbrev pub SaysData : List ℕ → Data → Type 0
SaysData line it = (content : List ℕ) × (line ≡ content ++ codes "\n") × (read content ≡ Some it)

abbrev pub IsNoJson : List ℕ → Type 0
IsNoJson line = (content : List ℕ) → line ≡ content ++ codes "\n" → IsUtf8 content → read content ≡ None

-- the line says another room than the outcomes before it
abbrev pub SaysOtherRoom : Pending → List ℕ → Type 0
SaysOtherRoom pending line = (it : Data) × SaysData line it × (name : List ℕ) × (text_at (codes "room") it ≡ Some name) × (name ≢ pending.name) × (pending.outcomes ≢ [])

-- the line says another number of outcomes than come before it
abbrev pub SaysOtherCount : Pending → List ℕ → ℕ → Type 0
SaysOtherCount pending line listed = (it : Data) × SaysData line it × (count : ℕ) × (number_at (codes "outcomes") it ≡ Some count) × (count ≢ listed) × (listed ≡ length pending.outcomes)

-- why a line isn't read
abbrev pub IsUnreadLine : Pending → List ℕ → Reason → Type 0
IsUnreadLine pending line Malformed = IsNoJson line
IsUnreadLine pending line NotOfSample = IsNoOutcome pending line × IsNoRoom pending line
IsUnreadLine pending line OtherRoom = SaysOtherRoom pending line
IsUnreadLine pending line (OtherCount listed) = SaysOtherCount pending line listed
IsUnreadLine pending line TooMany = 2 ^ 32 ≤ schedules_in pending.outcomes
IsUnreadLine pending line _ = ⊥

-- a text ends within a line, or after outcomes of a room whose own line isn't there
abbrev pub IsCutOff : Pending → List ℕ → List ℕ → Reason → Type 0
IsCutOff pending line rest Unended = (lines_in line ≡ 0) × (rest ≡ []) × ((line ≢ []) ⊎ (pending.outcomes ≢ []))
IsCutOff pending line rest _ = ⊥

-- A file is read up to the line of this number, which can't be read for this reason.
pub record IsUnreadable (text : List ℕ) (number : ℕ) (reason : Reason) : Type 0 where
  pub samples : List RoomSample
  pub pending : Pending
  pub line : List ℕ
  pub rest : List ℕ
  pub text_is : text ≡ begun_text samples pending ++ (line ++ rest)
  pub number_is : number ≡ lines_in (begun_text samples pending) + 1
  pub why : IsUnreadLine pending line reason ⊎ IsCutOff pending line rest reason

-- the file of this number is unreadable
pub record IsUnread (texts : List (List ℕ)) (bad : BadPart) : Type 0 where
  pub text : List ℕ
  pub text_is : slice_get texts bad.file ≡ Some text
  pub unreadable : IsUnreadable text bad.line bad.reason
  pub alone : bad.other ≡ bad.file

-- ---- a file that doesn't follow those before it

-- the parts were sampled in different ways, as this member says
abbrev pub IsOtherPlan : Member → RoomSample → RoomSample → Type 0
IsOtherPlan Crashes so_far part = so_far.how.crashes ≢ part.how.crashes
IsOtherPlan Seed so_far part = so_far.how.seed ≢ part.how.seed
IsOtherPlan Grouped so_far part = so_far.how.grouped ≢ part.how.grouped
IsOtherPlan Schedule so_far part = so_far.how.brief ≢ part.how.brief
IsOtherPlan Task so_far part = is_some so_far.broken ≢ is_some part.broken

-- the number that comes after the schedules so far
abbrev pub next_number : RoomSample → ℕ
next_number so_far = so_far.how.from + schedules_in so_far.outcomes

-- why a part doesn't follow the sum of those before it
abbrev pub IsOutOfStep : Reason → RoomSample → RoomSample → Type 0
IsOutOfStep OtherRooms so_far part = part.name ≢ so_far.name
IsOutOfStep (OtherPlan member) so_far part = IsOtherPlan member so_far part
IsOutOfStep (Overlap expected) so_far part = (expected ≡ next_number so_far) × (part.how.from < expected)
IsOutOfStep (Gap expected) so_far part = (expected ≡ next_number so_far) × (expected < part.how.from)
IsOutOfStep TooMany so_far part = (2 ^ 32 ≤ schedules_in so_far.outcomes + schedules_in part.outcomes) ⊎ (are_few_broken so_far.broken part.broken ≡ false)
IsOutOfStep _ so_far part = ⊥

-- In this order of files, the part of a room in one file doesn't follow those in the files before.
pub record DoesNotFollowIn (ordered : List Placed) (bad : BadPart) : Type 0 where
  pub place : ℕ
  pub here : Placed
  pub here_is : slice_get ordered place ≡ Some here
  pub file_is : bad.file ≡ here.index
  -- it is said which file comes before it
  pub other_is : slice_get (map (λ file. file.index) ordered) (place - 1) ≡ Some bad.other
  pub room : ℕ
  pub part : RoomSample
  pub part_is : slice_get here.samples room ≡ Some part
  pub line_is : slice_get here.lines room ≡ Some bad.line
  pub first : RoomSample
  pub first_is : slice_get (parts_at room (map (λ file. file.samples) ordered)) 0 ≡ Some first
  -- those before it follow each other
  pub follow : DoEachFollow (none_of first) (parts_at room (map (λ file. file.samples) (take place ordered)))
  pub reason : IsOutOfStep bad.reason (sum_of first (parts_at room (map (λ file. file.samples) (take place ordered)))) part

-- the line of the last of the first rooms, and of a file with none the first line
abbrev pub line_by : ℕ → List ℕ → Option ℕ
line_by zero lines = Some 1
line_by (suc count) lines = slice_get lines count

-- In this order, a file has another number of rooms than the first one.
pub record HasOtherRoomsIn (ordered : List Placed) (bad : BadPart) : Type 0 where
  pub place : ℕ
  pub here : Placed
  pub here_is : slice_get ordered place ≡ Some here
  pub file_is : bad.file ≡ here.index
  pub first : Placed
  pub first_is : slice_get ordered 0 ≡ Some first
  pub other_is : bad.other ≡ first.index
  pub reason_is : bad.reason ≡ OtherRooms
  pub differ : length here.samples ≢ length first.samples
  -- it is said where the last room is that both have
  pub line_is : line_by (min (length here.samples) (length first.samples)) here.lines ≡ Some bad.line

-- ---- inside the crate

-- why a line isn't read, unless an allocation failed
abbrev pub WhyStopped : (Reason → Type 0) → Stop → Type 0
WhyStopped is_why stops.Memory = ⊤
WhyStopped is_why (stops.Fault reason) = is_why reason

-- a line with its end, and no other
abbrev pub IsOneLine : List ℕ → Type 0
IsOneLine line = (content : List ℕ) × (line ≡ content ++ codes "\n") × (lines_in content ≡ 0)

abbrev pub pending_of : Listed → Pending
pending_of listed = record { name = string_bytes listed.name; brief = listed.brief; outcomes = map shown_of listed.outcomes.items }

-- what a room's line says, with the outcomes before it
abbrev pub sample_by : RoomSaid → Bool → List Shown → RoomSample
sample_by said brief outcomes = record {
  name = said.name;
  how = record { crashes = said.crashes; seed = said.seed; from = said.from; grouped = said.grouped; brief = brief };
  decided = said.decided;
  held = said.held;
  broken = said.broken;
  outcomes = outcomes;
}

-- ---- all reasons

-- a file can't be read; or, in the order of their first schedules, one has other rooms than the first, or doesn't follow those before it
abbrev pub IsBad : List (List ℕ) → BadPart → Type 0
IsBad texts bad = IsUnread texts bad ⊎ ((ordered : List Placed) × IsInOrder texts ordered × (HasOtherRoomsIn ordered bad ⊎ DoesNotFollowIn ordered bad))

-- why samples are not added up, unless an allocation failed
abbrev pub WhyRefused : (BadPart → Type 0) → SumFault → Type 0
WhyRefused is_why Memory = ⊤
WhyRefused is_why (Bad bad) = is_why bad

-- an `Err` of `sum_samples`
abbrev pub IsRefused : List (List ℕ) → SumFault → Type 0
IsRefused texts fault = WhyRefused (IsBad texts) fault
