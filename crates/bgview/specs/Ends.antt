-- How the program ends.
use Rattle.std.specs.Prelude.{ℕ, Bool, true, false, Result, Ok, Err}
use Rattle.std.specs.declared.alloc.AllocError.{AllocError}
use Rattle.io_text.specs.declared.fault.DeviceFault.TheVariants.{Read, Write, TooLong, Memory}
use Rattle.room_files.specs.declared.fault.InputFault.{InputFault}
use Rattle.room_files.specs.declared.fault.InputFault.TheVariants as inputs
use Rattle.room_files.specs.Verdicts.{outcome_status}
use Rattle.room_files.specs.declared.outcome.Outcome.{Outcome}
use Rattle.view_sum.specs.declared.fault.SumFault.{SumFault}
use Rattle.view_sum.specs.declared.fault.SumFault.TheVariants as sums
use Rattle.bgview.specs.declared.fault.ViewFault.{ViewFault}
use Rattle.bgview.specs.declared.fault.ViewFault.TheVariants.{BadInput, BadOption, BadPart, Device, Incomplete}

abbrev pub fault_status : ViewFault → ℕ
fault_status (Device Memory) = 3
fault_status (Device Read) = 2
fault_status (Device Write) = 2
fault_status (Device TooLong) = 2
fault_status Incomplete = 3
fault_status (BadOption fault) = 2
fault_status (BadPart bad) = 2
fault_status (BadInput line fault) = 2

abbrev pub ending_status : Result Outcome ViewFault → ℕ
ending_status (Ok outcome) = outcome_status outcome
ending_status (Err fault) = fault_status fault

-- the fault of an input ends the program
abbrev pub input_fault : InputFault → ViewFault
input_fault (inputs.BadInput line fault) = BadInput line fault
input_fault inputs.Memory = Device Memory

-- samples that are not added up end the program
abbrev pub sum_fault : SumFault → ViewFault
sum_fault (sums.Bad bad) = BadPart bad
sum_fault sums.Memory = Device Memory

-- the end of an answer that was written: an allocation may have failed for a part of its script, or for a room's sample
abbrev pub written : Result Outcome AllocError → Result Outcome ViewFault
written (Ok outcome) = Ok outcome
written (Err refused) = Err Incomplete

-- reading ended the answer
abbrev pub is_read_failed : {A : Type 0} → Result A ViewFault → Bool
is_read_failed (Ok value) = false
is_read_failed (Err (Device Read)) = true
is_read_failed (Err (Device Write)) = false
is_read_failed (Err (Device TooLong)) = false
is_read_failed (Err (Device Memory)) = false
is_read_failed (Err Incomplete) = false
is_read_failed (Err (BadOption fault)) = false
is_read_failed (Err (BadPart bad)) = false
is_read_failed (Err (BadInput line fault)) = false

-- writing ended the answer
abbrev pub is_write_failed : {A : Type 0} → Result A ViewFault → Bool
is_write_failed (Ok value) = false
is_write_failed (Err (Device Read)) = false
is_write_failed (Err (Device Write)) = true
is_write_failed (Err (Device TooLong)) = false
is_write_failed (Err (Device Memory)) = false
is_write_failed (Err Incomplete) = false
is_write_failed (Err (BadOption fault)) = false
is_write_failed (Err (BadPart bad)) = false
is_write_failed (Err (BadInput line fault)) = false
