-- What is said of rooms that are no run or break their task.
use Rattle.std.specs.Prelude.{◌≡◌, ℕ, Bool, true, false, List, [], ◌∷◌, ◌++◌, map, Option, Some, None, Result, Ok, Err, slice_get}
use Rattle.std.specs.List.{All, concat, flat_map}
use Rattle.room_spec.specs.Rooms.{RoomSpec, is_reduction}
use Rattle.transcript.specs.Grammar.{event_line}
use Rattle.transcript.specs.declared.event.Event.{Event}
use Rattle.history_checker.specs.Verdicts.{FedEvent, events_of, fed_to}
use Rattle.serde_json.specs.Data.{Data, null}
use Rattle.history_checker.specs.declared.verdict.Verdict.{Verdict}
use Rattle.history_checker.specs.declared.verdict.Verdict.TheVariants.{Run, Broken}
use Rattle.history_checker.specs.declared.verdict.TaskVerdict.{TaskVerdict}
use Rattle.history_checker.specs.declared.verdict.TaskVerdict.TheVariants as tasks
use Rattle.room_files.specs.Blocks.{Setup}
use Rattle.room_files.specs.Inputs.{input_says}
use Rattle.room_files.specs.Reports.{task_line, verdict_line}
use Rattle.room_files.specs.Verdicts.{Judged, IsOutput, judged_line, is_well, outcome_of}
use Rattle.room_files.specs.declared.outcome.Outcome.{Outcome}
use Rattle.room_files.specs.declared.kinds.Kinds.TheVariants as kinds
use Rattle.fault_text.specs.Lines.{indented_all}
use Rattle.fault_text.specs.Refusals.{refusal_line, said_refusals}
use Rattle.json_lines.specs.Lines.{json_line}
use Rattle.view_why.specs.Json.{IsBreakData, IsExcessData, kept_data, room_data, task_data}
use Rattle.view_why.specs.Reported.{ReportedRoom, AreDecidedBefore, AreReported, IsExcess, IsLineBreak, lines_of, specs_of}
use Rattle.view_why.specs.Verdicts.{IsJustifiedIn, IsTaskAnswerIn, IsVerdictIn}
use Rattle.view_why.specs.Words.{break_words, excess_words}
use Rattle.fault_text.specs.declared.refusals.RefusedBlock.{RefusedBlock}
use Rattle.view_why.specs.declared.reported.Decision.{Decision}
use Rattle.view_why.specs.declared.reported.Excess.{Excess}
use Rattle.view_why.specs.declared.reported.LineBreak.{LineBreak}

-- ---- the reason

-- an event's line, and why it may not come
abbrev pub notes_on : RoomSpec → Event → LineBreak → List (List ℕ)
notes_on spec event broken = event_line spec.name event ∷ break_words spec.own event broken.reason broken.earlier ∷ []

-- the line that breaks the run of a room, and the reason
pub record IsBecause (reported : ReportedRoom) (line : ℕ) (notes : List (List ℕ)) : Type 0 where
  pub broken : LineBreak
  pub breaks : IsLineBreak reported broken
  pub line_is : broken.line ≡ line
  pub event : Event
  pub there : slice_get reported.events broken.at ≡ Some event
  pub notes_are : notes ≡ notes_on reported.spec event broken

-- the line that breaks the task of a room, and why: what it decides, and which line decided each other value before it
pub record IsExcessSaid (reported : ReportedRoom) (line : ℕ) (notes : List (List ℕ)) : Type 0 where
  pub excess : Excess
  pub exceeds : IsExcess reported excess
  pub line_is : excess.line ≡ line
  pub event : Event
  pub there : slice_get reported.events excess.at ≡ Some event
  pub before : List Decision
  pub decided : AreDecidedBefore reported excess.at before
  pub notes_are : notes ≡ event_line reported.spec.name event ∷ excess_words reported.spec excess.most event before ∷ []

-- of a task that holds there is nothing to say
abbrev pub IsTaskReason : ReportedRoom → Option TaskVerdict → List (List ℕ) → Type 0
IsTaskReason reported None notes = notes ≡ []
IsTaskReason reported (Some tasks.Holds) notes = notes ≡ []
IsTaskReason reported (Some (tasks.Broken line)) notes = IsExcessSaid reported line notes

-- why the room is no run, or else why it breaks its task
abbrev pub IsReasonFor : ReportedRoom → Verdict → Option TaskVerdict → List (List ℕ) → Type 0
IsReasonFor reported Run task notes = IsTaskReason reported task notes
IsReasonFor reported (Broken line) task notes = IsBecause reported line notes

-- the verdict on a room whose run breaks there, or nowhere
abbrev pub verdict_of : Result (Unit {0}) LineBreak → Verdict
verdict_of (Ok run) = Run
verdict_of (Err broken) = Broken broken.line

-- the verdict on the task of a room that breaks it there, or nowhere, if it has one
abbrev pub task_verdict_of : Option ℕ → Result (Unit {0}) Excess → Option TaskVerdict
task_verdict_of None excess = None
task_verdict_of (Some most) (Ok kept) = Some tasks.Holds
task_verdict_of (Some most) (Err excess) = Some (tasks.Broken excess.line)

-- ---- the same as JSON

-- what is said of a task that holds, or that breaks there
abbrev pub IsTaskData : ReportedRoom → Option TaskVerdict → Data → Type 0
IsTaskData reported None it = it ≡ kept_data reported.spec.task
IsTaskData reported (Some tasks.Holds) it = it ≡ kept_data reported.spec.task
IsTaskData reported (Some (tasks.Broken line)) it = (most : ℕ) × (reported.spec.task ≡ Some most) × (why : Data) × IsExcessData reported line why × (it ≡ task_data most why)

-- a room that is a run, and what is said of its task; or what breaks it
abbrev pub IsRoomData : ReportedRoom → Verdict → Option TaskVerdict → Data → Type 0
IsRoomData reported Run task it = (of_task : Data) × IsTaskData reported task of_task × (it ≡ room_data reported.spec.name null of_task)
IsRoomData reported (Broken line) task it = (why : Data) × IsBreakData reported line why × (it ≡ room_data reported.spec.name why null)

-- in text why the room is no run, or breaks its task; as JSON the line that says all
abbrev pub IsReasonIn : Bool → ReportedRoom → Verdict → Option TaskVerdict → List (List ℕ) → Type 0
IsReasonIn false reported verdict task notes = IsReasonFor reported verdict task notes
IsReasonIn true reported verdict task notes = (it : Data) × IsRoomData reported verdict task it × (notes ≡ json_line it ∷ [])

-- ---- the answer

pub record Explained : Type 0 where
  pub judged : Judged
  -- why the room is no run, or breaks its task
  pub notes : List (List ℕ)

-- what a transcript says of a room
abbrev pub reported_of : RoomSpec → List FedEvent → ReportedRoom
reported_of room fed = record { spec = room; events = events_of (fed_to room.name fed); lines = lines_of (fed_to room.name fed) }

-- the verdicts on the room, for an ordinary room those of `check`, and why it is no run, or breaks its task
abbrev pub IsExplained : Bool → List FedEvent → Explained → Type 0
IsExplained json fed one = IsJustifiedIn fed one.judged × IsReasonIn json (reported_of one.judged.room fed) one.judged.verdict one.judged.task one.notes

-- the verdict and what is said of it; as JSON all is in the line
abbrev pub said_lines : Bool → RoomSpec → Verdict → Option TaskVerdict → List (List ℕ) → List ℕ
said_lines false room verdict task notes = (verdict_line room.name verdict ++ task_line room.name verdict task) ++ indented_all notes
said_lines true room verdict task notes = concat notes

abbrev pub explained_lines : Bool → Explained → List ℕ
explained_lines json one = said_lines json one.judged.room one.judged.verdict one.judged.task one.notes

-- what is written of a room after a text, if that breaks its run and that its task
abbrev pub IsSaid : Bool → ReportedRoom → Result (Unit {0}) LineBreak → Result (Unit {0}) Excess → List ℕ → List ℕ → Type 0
IsSaid json reported reason excess old new =
    (notes : List (List ℕ)) × IsReasonIn json reported (verdict_of reason) (task_verdict_of reported.spec.task excess) notes
    × (new ≡ old ++ said_lines json reported.spec (verdict_of reason) (task_verdict_of reported.spec.task excess) notes)

-- what is written of a room after a text, and whether all is well with it
pub record IsRoomSaid (json : Bool) (spec : RoomSpec) (fed : List FedEvent) (old new : List ℕ) (well : Bool) : Type 0 where
  pub one : Explained
  pub room : one.judged.room ≡ spec
  pub verdict : IsVerdictIn spec fed one.judged.verdict
  pub task : IsTaskAnswerIn spec fed one.judged.task
  pub because : IsReasonIn json (record { spec = spec; events = events_of fed; lines = lines_of fed }) one.judged.verdict one.judged.task one.notes
  pub written : new ≡ old ++ explained_lines json one
  pub well_is : well ≡ is_well one.judged.verdict one.judged.task

-- what is said of the refused blocks, in text
abbrev pub refusals_shown : Bool → List ℕ → List RefusedBlock → List ℕ
refusals_shown false input refusals = said_refusals input refusals
refusals_shown true input refusals = []

-- none of the rooms is a reduction
abbrev pub AreOrdinary : List RoomSpec → Type 0
AreOrdinary rooms = All (λ room. is_reduction room ≡ false) rooms

-- In text, the line of each refused block of the input, with what is said of it; and the verdicts on each room, in order, each with
-- the reason after them. As JSON, an object on a line for each room.
pub record IsExplanation (json : Bool) (input : List ℕ) (rooms : List RoomSpec) (refused : List ℕ) (fed : List FedEvent) (outcome : Outcome) (output : List ℕ) : Type 0 where
  pub refusals : List RefusedBlock
  pub refused_are : refused ≡ flat_map refusal_line refusals
  pub all : List Explained
  pub each_room : map (λ one. one.judged.room) all ≡ rooms
  pub explained : All (IsExplained json fed) all
  pub output_is : output ≡ refusals_shown json input refusals ++ flat_map (explained_lines json) all
  -- all is well if no block was refused, each room's events are a run of it, and no task is broken
  pub outcome_is : outcome ≡ outcome_of refused (map (λ one. one.judged) all)
  -- If no room is a reduction, in text it is, without the indented lines, what `check` writes, and its outcome is that of `check`. Of a
  -- reduction the lines say its own verdicts in the same form.
  pub checked : AreOrdinary rooms → IsOutput rooms refused fed outcome (refused ++ flat_map judged_line (map (λ one. one.judged) all))

-- these rooms, with what the input says of each, and these refused blocks
pub record AreHeard (input : List ℕ) (rooms : List ReportedRoom) (refusals : List RefusedBlock) : Type 0 where
  pub setup : Setup
  pub fed : List FedEvent
  pub says : input_says kinds.All input ≡ Ok (setup, fed)
  pub rooms_are : specs_of rooms ≡ setup.rooms
  pub refused_are : flat_map refusal_line refusals ≡ setup.refused
  pub reported : AreReported rooms fed

abbrev pub IsExplanationIn : Bool → List ℕ → Outcome → List ℕ → Type 0
IsExplanationIn json input outcome output =
    (setup : Setup) × (fed : List FedEvent) × (input_says kinds.All input ≡ Ok (setup, fed)) × IsExplanation json input setup.rooms setup.refused fed outcome output

-- as text
abbrev pub IsExplanationFor : List ℕ → Outcome → List ℕ → Type 0
IsExplanationFor input outcome output = IsExplanationIn false input outcome output

-- as JSON
abbrev pub IsJsonExplanationFor : List ℕ → Outcome → List ℕ → Type 0
IsJsonExplanationFor input outcome output = IsExplanationIn true input outcome output
