-- What `play` answers for a script.
use Rattle.std.specs.Prelude.{◌≡◌, ℕ, ◌<◌, ◌≤◌, List, [], ◌++◌, length, Result, Ok, Err, alloc_error}
use Rattle.std.specs.declared.alloc.AllocError.{AllocError}
use Rattle.io_text.specs.Reading.{most_bytes}
use Rattle.script_play.specs.Script.{script_says}
use Rattle.room_files.specs.Inputs.{with_code}
use Rattle.room_files.specs.declared.outcome.Outcome.{Outcome}
use Rattle.room_files.specs.declared.kinds.Kinds.TheVariants.{Ordinary}
use Rattle.script_play.specs.Play.{IsPlayFor}
use Rattle.bgsim_console.specs.declared.fault.IoFault.{IoFault}
use Rattle.bgsim_console.specs.declared.fault.IoFault.TheVariants.{Read, Write, TooLong, BadInput, Incomplete, Run, Memory}

-- a beginning of it
abbrev pub IsPlayPart : List ℕ → List ℕ → Type 0
IsPlayPart input part = (ending : Result Outcome AllocError) × (rest : List ℕ) × IsPlayFor Ordinary input ending (part ++ rest)

-- The answer to a whole script is an outcome, with its text, or a fault. If an allocation failed for a part of the script the whole
-- text is there, with the refusals in it; if writing failed a beginning of it; at each other fault none.
abbrev pub IsPlayed : List ℕ → Result Outcome IoFault → List ℕ → Type 0
IsPlayed input (Ok outcome) output = (length input ≤ most_bytes) × IsPlayFor Ordinary input (Ok outcome) output
IsPlayed input (Err TooLong) output = (most_bytes < length input) × (output ≡ [])
IsPlayed input (Err (BadInput line code)) output = (length input ≤ most_bytes) × (with_code (script_says input) ≡ Err (line, code)) × (output ≡ [])
IsPlayed input (Err Memory) output = output ≡ []
IsPlayed input (Err Incomplete) output = (length input ≤ most_bytes) × IsPlayFor Ordinary input (Err alloc_error) output
IsPlayed input (Err Read) output = output ≡ []
IsPlayed input (Err (Run fault)) output = ⊥
IsPlayed input (Err Write) output = (length input ≤ most_bytes) × IsPlayPart input output
