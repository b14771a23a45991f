-- The verdicts on a room, which is an ordinary one or a reduction.
use Rattle.std.specs.Prelude.{◌≡◌, ℕ, Bool, true, false, List, Option, Some, slice_get}
use Rattle.room_spec.specs.Rooms.{RoomSpec, is_reduction}
use Rattle.transcript.specs.Reductions.{IsFirstBreakOf, IsRunOf}
use Rattle.history_checker.specs.Verdicts.{FedEvent, IsTaskAnswer, IsVerdict, events_of, fed_to}
use Rattle.history_checker.specs.declared.verdict.Verdict.{Verdict}
use Rattle.history_checker.specs.declared.verdict.Verdict.TheVariants.{Run, Broken}
use Rattle.history_checker.specs.declared.verdict.TaskVerdict.{TaskVerdict}
use Rattle.room_files.specs.Verdicts.{Judged}
use Rattle.view_why.specs.Reported.{judged_room}

-- the first event with which those of a reduction are no run of it was fed on this line
pub record BreaksReductionOn (spec : RoomSpec) (fed : List FedEvent) (line : ℕ) : Type 0 where
  pub place : ℕ
  pub first : IsFirstBreakOf spec (events_of fed) place
  pub one : FedEvent
  pub there : slice_get fed place ≡ Some one
  pub line_is : one.line ≡ line

-- the verdict on what was fed of a reduction
abbrev pub IsReductionVerdict : RoomSpec → List FedEvent → Verdict → Type 0
IsReductionVerdict spec fed Run = IsRunOf spec (events_of fed)
IsReductionVerdict spec fed (Broken line) = BreaksReductionOn spec fed line

-- the verdict on a room that is a reduction or isn't
abbrev pub IsVerdictBy : Bool → RoomSpec → List FedEvent → Verdict → Type 0
IsVerdictBy false spec fed verdict = IsVerdict spec fed verdict
IsVerdictBy true spec fed verdict = IsReductionVerdict spec fed verdict

-- the verdict on a room of either kind
abbrev pub IsVerdictIn : RoomSpec → List FedEvent → Verdict → Type 0
IsVerdictIn spec fed verdict = IsVerdictBy (is_reduction spec) spec fed verdict

-- the answer on the task of a room of either kind: that of a reduction is judged by the simulators' own inputs
abbrev pub IsTaskAnswerIn : RoomSpec → List FedEvent → Option TaskVerdict → Type 0
IsTaskAnswerIn spec fed task = IsTaskAnswer (judged_room spec) fed task

-- both rest on nothing but what was fed of the room
abbrev pub IsJustifiedIn : List FedEvent → Judged → Type 0
IsJustifiedIn fed one = IsVerdictIn one.room (fed_to one.room.name fed) one.verdict × IsTaskAnswerIn one.room (fed_to one.room.name fed) one.task
