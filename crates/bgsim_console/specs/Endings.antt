-- How the program ends, by the words that it is given and the input that they name.
use Rattle.std.specs.Prelude.{◌≡◌, ◌≢◌, ◌⊎◌, ℕ, Bool, List, [], Option, Some, None, Result, Err, IfSome, IsSome}
use Rattle.clap.specs.Kinds.{IsAmong}
use Rattle.clap.specs.Words.{subcommand_of}
use Rattle.clap.specs.declared.error.kind.ErrorKind.{ErrorKind}
use Rattle.clap.specs.declared.error.kind.ErrorKind.TheVariants.{OutOfMemory}
use Rattle.room_files.specs.declared.outcome.Outcome.{Outcome}
use Rattle.bgsim_command_line.specs.CommandLine.{IsAsked, IsPlainly, IsWorkers, bgsim_app, words_fault, workers_among}
use Rattle.program_io.specs.Errors.{Errors}
use Rattle.program_io.specs.Named.{HasAppended, Writes, input_named}
use Rattle.program_io.specs.Statuses.{words_status}
use Rattle.bgsim_console.specs.Ends.{ending_status}
use Rattle.bgsim_console.specs.Modes.{IsAnswerIn}
use Rattle.bgsim_console.specs.Said.{IsEndSaid}
use Rattle.bgsim_command_line.specs.declared.words.Mode.{Mode}
use Rattle.bgsim_command_line.specs.declared.words.Mode.TheVariants.{Run}
use Rattle.bgsim_console.specs.declared.fault.IoFault.{IoFault}
use Rattle.bgsim_console.specs.declared.fault.IoFault.TheVariants.{Read}

-- what the words ask for; `run` alone takes a number of workers
pub record Asked : Type 0 where
  pub mode : Mode
  pub file : Option (List ℕ)
  pub workers : ℕ

pub record AreAsked (words : List (List ℕ)) (asked : Asked) : Type 0 where
  pub is_asked : IsAsked words asked.mode asked.file
  pub number : asked.mode ≡ Run → IsWorkers (workers_among (subcommand_of bgsim_app words)) asked.workers
  pub default : asked.mode ≢ Run → asked.workers ≡ 2

-- the mode's answer to an input is written
abbrev pub IsAnswered : Mode → ℕ → List ℕ → Result Outcome IoFault → Writes → Type 0
IsAnswered mode workers input result writes = (output : List ℕ) × IsAnswerIn mode workers input result output × HasAppended writes output

-- the words name a file, which was not opened, and nothing is written; or the input is answered, if what it gives is known
abbrev pub IsReadOrNot : Mode → ℕ → Option (List ℕ) → Option (List ℕ) → Result Outcome IoFault → Writes → Type 0
IsReadOrNot mode workers file input result writes = (IsSome file × (result ≡ Err Read) × HasAppended writes []) ⊎ IfSome input (λ bytes. IsAnswered mode workers bytes result writes)

-- The exit status for these words: that of what they ask for, and what is said with it on standard error; or they ask for nothing, for a
-- reason of this kind, and nothing is written. Words that are plainly a mode and a file are refused only if memory ends.
pub data IsStatusFor (standard : Option (List ℕ)) (file : List ℕ → Option (List ℕ)) (words : List (List ℕ)) (writes : Writes) (errors : Errors) (status : ℕ) : Type 0 where
  done : (asked : Asked) (result : Result Outcome IoFault) → words_fault words ≡ [] → AreAsked words asked
      → IsReadOrNot asked.mode asked.workers asked.file (input_named standard file asked.file) result writes → IsEndSaid result errors
      → status ≡ ending_status result → IsStatusFor standard file words writes errors status
  refused : (kind : ErrorKind) (is_printed : Bool) → (kind ≡ OutOfMemory) ⊎ IsAmong kind (words_fault words) → ((mode : Mode) → IsPlainly words mode → kind ≡ OutOfMemory)
      → HasAppended writes [] → status ≡ words_status kind is_printed → IsStatusFor standard file words writes errors status
