-- What the program says on standard error at its end.
use Rattle.std.specs.Prelude.{ℕ, List, [], Result, Ok, Err, codes}
use Rattle.program_io.specs.Errors.{Errors, IsSaid, fault_line, place_words}
use Rattle.scheduler.specs.declared.rooms.RunFault.{RunFault}
use Rattle.scheduler.specs.declared.rooms.RunFault.TheVariants as run
use Rattle.room_files.specs.declared.outcome.Outcome.{Outcome}
use Rattle.bgsim_console.specs.declared.fault.IoFault.{IoFault}
use Rattle.bgsim_console.specs.declared.fault.IoFault.TheVariants.{Read, Write, TooLong, BadInput, Incomplete, Run, Memory}

abbrev pub run_words : RunFault → List ℕ
run_words run.Workers = codes "bad number of workers"
run_words run.Spawn = codes "cannot start a worker"
run_words run.OutOfMemory = codes "out of memory"

abbrev pub fault_words : IoFault → List ℕ
fault_words Read = codes "read failed"
fault_words Write = codes "write failed"
fault_words TooLong = codes "input too long"
fault_words (BadInput line code) = place_words line code
fault_words (Run fault) = run_words fault
fault_words Memory = codes "out of memory"
fault_words Incomplete = codes "out of memory"

-- What is said at the end: nothing, or the fault that ended the engine.
abbrev pub IsEndSaid : Result Outcome IoFault → Errors → Type 0
IsEndSaid (Ok outcome) errors = IsSaid errors []
IsEndSaid (Err fault) errors = IsSaid errors (fault_line (codes "bgsim: ") (fault_words fault))
