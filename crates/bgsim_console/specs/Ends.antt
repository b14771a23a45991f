-- The program's exit statuses.
use Rattle.std.specs.Prelude.{ℕ, Bool, true, false, Result, Ok, Err}
use Rattle.std.specs.declared.alloc.AllocError.{AllocError}
use Rattle.scheduler.specs.declared.rooms.RunFault.{RunFault}
use Rattle.scheduler.specs.declared.rooms.RunFault.TheVariants as run
use Rattle.io_text.specs.declared.fault.DeviceFault.{DeviceFault}
use Rattle.io_text.specs.declared.fault.DeviceFault.TheVariants as devices
use Rattle.room_files.specs.declared.outcome.Outcome.{Outcome}
use Rattle.room_files.specs.declared.fault.InputFault.{InputFault}
use Rattle.room_files.specs.declared.fault.InputFault.TheVariants as inputs
use Rattle.room_files.specs.Faults.{text_code}
use Rattle.room_files.specs.Verdicts.{outcome_status}
use Rattle.bgsim_console.specs.declared.fault.IoFault.{IoFault}
use Rattle.bgsim_console.specs.declared.fault.IoFault.TheVariants.{Read, Write, TooLong, BadInput, Incomplete, Run, Memory}

-- an allocation that fails ends the run of rooms as it ends an engine
abbrev pub run_status : RunFault → ℕ
run_status run.Workers = 2
run_status run.Spawn = 2
run_status run.OutOfMemory = 3

abbrev pub fault_status : IoFault → ℕ
fault_status Read = 2
fault_status Write = 2
fault_status TooLong = 2
fault_status (BadInput line code) = 2
fault_status (Run fault) = run_status fault
fault_status Memory = 3
fault_status Incomplete = 3

abbrev pub ending_status : Result Outcome IoFault → ℕ
ending_status (Ok outcome) = outcome_status outcome
ending_status (Err fault) = fault_status fault

-- a device's fault ends an engine
abbrev pub device_fault : DeviceFault → IoFault
device_fault devices.Read = Read
device_fault devices.Write = Write
device_fault devices.TooLong = TooLong
device_fault devices.Memory = Memory

-- an input's fault ends an engine
abbrev pub input_fault : InputFault → IoFault
input_fault (inputs.BadInput line fault) = BadInput line (text_code fault)
input_fault inputs.Memory = Memory

-- the end of an answer that was written: memory may have been refused to a part of its script
abbrev pub written : Result Outcome AllocError → Result Outcome IoFault
written (Ok outcome) = Ok outcome
written (Err refused) = Err Incomplete

-- reading ended the run
abbrev pub is_read_failed : {A : Type 0} → Result A IoFault → Bool
is_read_failed (Ok value) = false
is_read_failed (Err Read) = true
is_read_failed (Err Write) = false
is_read_failed (Err TooLong) = false
is_read_failed (Err (BadInput line code)) = false
is_read_failed (Err (Run fault)) = false
is_read_failed (Err Memory) = false
is_read_failed (Err Incomplete) = false

-- writing ended the run
abbrev pub is_write_failed : {A : Type 0} → Result A IoFault → Bool
is_write_failed (Ok value) = false
is_write_failed (Err Read) = false
is_write_failed (Err Write) = true
is_write_failed (Err TooLong) = false
is_write_failed (Err (BadInput line code)) = false
is_write_failed (Err (Run fault)) = false
is_write_failed (Err Memory) = false
is_write_failed (Err Incomplete) = false
