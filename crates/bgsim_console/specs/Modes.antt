-- What each mode of the program answers.
use Rattle.std.specs.Prelude.{ℕ, List, Result}
use Rattle.room_files.specs.declared.outcome.Outcome.{Outcome}
use Rattle.bgsim_console.specs.Check.{IsAnswer}
use Rattle.bgsim_console.specs.Play.{IsPlayed}
use Rattle.bgsim_console.specs.Run.{IsRan}
use Rattle.bgsim_command_line.specs.declared.words.Mode.{Mode}
use Rattle.bgsim_command_line.specs.declared.words.Mode.TheVariants.{Check, Play, Run}
use Rattle.bgsim_console.specs.declared.fault.IoFault.{IoFault}

-- the mode's answer to an input, and what it writes; `run` has this many workers
abbrev pub IsAnswerIn : Mode → ℕ → List ℕ → Result Outcome IoFault → List ℕ → Type 0
IsAnswerIn Check workers input answer output = IsAnswer input answer output
IsAnswerIn Play workers input answer output = IsPlayed input answer output
IsAnswerIn Run workers input answer output = IsRan workers input answer output
