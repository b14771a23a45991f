-- What `check` answers for an input.
use Rattle.std.specs.Prelude.{◌≡◌, ℕ, ◌≤◌, ◌<◌, List, [], ◌++◌, length, Result, Ok, Err}
use Rattle.file_verdicts.specs.Check.{IsOutputFor}
use Rattle.io_text.specs.Reading.{most_bytes}
use Rattle.room_files.specs.Inputs.{input_says, with_code}
use Rattle.room_files.specs.declared.outcome.Outcome.{Outcome}
use Rattle.room_files.specs.declared.kinds.Kinds.TheVariants.{Ordinary}
use Rattle.bgsim_console.specs.declared.fault.IoFault.{IoFault}
use Rattle.bgsim_console.specs.declared.fault.IoFault.TheVariants.{Read, Write, TooLong, BadInput, Incomplete, Run as RunFailed, Memory}

-- a beginning of the output for an input that has no fault
abbrev pub IsPartFor : List ℕ → List ℕ → Type 0
IsPartFor input part = (outcome : Outcome) × (rest : List ℕ) × IsOutputFor input outcome (part ++ rest)

-- the answer to a whole input is an outcome, with its output, or a fault, with none; if writing failed a beginning of the output is there
abbrev pub IsAnswer : List ℕ → Result Outcome IoFault → List ℕ → Type 0
IsAnswer input (Ok outcome) output = (length input ≤ most_bytes) × IsOutputFor input outcome output
IsAnswer input (Err TooLong) output = (most_bytes < length input) × (output ≡ [])
IsAnswer input (Err (BadInput line code)) output = (length input ≤ most_bytes) × (with_code (input_says Ordinary input) ≡ Err (line, code)) × (output ≡ [])
IsAnswer input (Err Memory) output = output ≡ []
IsAnswer input (Err Incomplete) output = ⊥
IsAnswer input (Err Read) output = output ≡ []
IsAnswer input (Err (RunFailed fault)) output = ⊥
IsAnswer input (Err Write) output = (length input ≤ most_bytes) × IsPartFor input output
