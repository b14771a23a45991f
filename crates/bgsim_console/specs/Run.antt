-- What `run` answers for a file of rooms.
use Rattle.std.specs.Prelude.{◌≡◌, ◌⊎◌, ℕ, ◌≤◌, ◌<◌, ◌==◌, List, [], ◌∷◌, ◌++◌, length, Result, Ok, Err}
use Rattle.room_spec.specs.Rooms.{RoomSpec}
use Rattle.scheduler.specs.Results.{AreRoomRuns}
use Rattle.scheduler.specs.declared.rooms.RoomResult.{RoomResult}
use Rattle.scheduler.specs.declared.rooms.RunFault.{RunFault}
use Rattle.scheduler.specs.declared.rooms.RunFault.TheVariants.{Workers, Spawn, OutOfMemory}
use Rattle.room_files.specs.Blocks.{Setup}
use Rattle.room_files.specs.Inputs.{all_blocks}
use Rattle.room_files.specs.Verdicts.{outcome_if}
use Rattle.io_text.specs.Reading.{most_bytes}
use Rattle.room_files.specs.declared.outcome.Outcome.{Outcome}
use Rattle.room_files.specs.declared.kinds.Kinds.TheVariants.{Ordinary}
use Rattle.report_text.specs.ReportTexts.{report_text}
use Rattle.bgsim_console.specs.declared.fault.IoFault.{IoFault}
use Rattle.bgsim_console.specs.declared.fault.IoFault.TheVariants.{Read, Write, TooLong, BadInput, Incomplete, Run, Memory}

-- ---- the text

-- the rooms' reports, in order, each under its room's own name
abbrev pub report_texts : List RoomSpec → List RoomResult → List ℕ
report_texts [] results = []
report_texts (spec ∷ specs) [] = []
report_texts (spec ∷ specs) (result ∷ results) = report_text spec.name result.report ++ report_texts specs results

-- After a text come the reports of rooms of these specs, in order: each of some room that its own spec allows.
pub record AddsReports (specs : List RoomSpec) (before after : List ℕ) : Type 0 where
  pub results : List RoomResult
  pub each_room : AreRoomRuns specs results
  pub behind : after ≡ before ++ report_texts specs results

-- The lines of the refused blocks, and then a report of each room: of some room that its own spec allows, whatever the schedule
-- of its simulators. All is well if no block was refused.
pub record IsRunText (setup : Setup) (outcome : Outcome) (output : List ℕ) : Type 0 where
  pub results : List RoomResult
  pub each_room : AreRoomRuns setup.rooms results
  pub output_is : output ≡ setup.refused ++ report_texts setup.rooms results
  pub outcome_is : outcome ≡ outcome_if (length setup.refused == 0)

-- ---- the answer

-- a run has 1 to 16 workers
abbrev pub AreWorkers : ℕ → Type 0
AreWorkers workers = (1 ≤ workers) × (workers ≤ 16)

-- a text for an input that this number of workers runs
abbrev pub IsRunFor : ℕ → List ℕ → Outcome → List ℕ → Type 0
IsRunFor workers input outcome output = AreWorkers workers × IsRunText (all_blocks Ordinary input) outcome output

-- a beginning of one
abbrev pub IsRunPart : ℕ → List ℕ → List ℕ → Type 0
IsRunPart workers input part = (outcome : Outcome) × (rest : List ℕ) × IsRunFor workers input outcome (part ++ rest)

-- the rooms can't be run by this many workers, or not for another cause
abbrev pub IsRunFault : ℕ → RunFault → Type 0
IsRunFault workers Workers = (workers ≡ 0) ⊎ (16 < workers)
IsRunFault workers Spawn = AreWorkers workers
IsRunFault workers OutOfMemory = AreWorkers workers

-- the faults with which the rooms of a text may end
abbrev pub MayEndRun : ℕ → IoFault → Type 0
MayEndRun workers (Run fault) = IsRunFault workers fault
MayEndRun workers Memory = Unit {0}
MayEndRun workers Incomplete = ⊥
MayEndRun workers Read = ⊥
MayEndRun workers Write = ⊥
MayEndRun workers TooLong = ⊥
MayEndRun workers (BadInput line code) = ⊥

-- The answer to a whole file of rooms is an outcome, with its text, or a fault, with none; if writing failed a beginning of
-- a text is there. No input is bad, and the number of workers is judged after the input's length.
abbrev pub IsRan : ℕ → List ℕ → Result Outcome IoFault → List ℕ → Type 0
IsRan workers input (Ok outcome) output = (length input ≤ most_bytes) × IsRunFor workers input outcome output
IsRan workers input (Err TooLong) output = (most_bytes < length input) × (output ≡ [])
IsRan workers input (Err (BadInput line code)) output = ⊥
IsRan workers input (Err (Run fault)) output = (length input ≤ most_bytes) × IsRunFault workers fault × (output ≡ [])
IsRan workers input (Err Memory) output = output ≡ []
IsRan workers input (Err Incomplete) output = ⊥
IsRan workers input (Err Read) output = output ≡ []
IsRan workers input (Err Write) output = (length input ≤ most_bytes) × IsRunPart workers input output
