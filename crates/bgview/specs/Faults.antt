-- What is answered for the numbers of faults.
use Rattle.std.specs.Prelude.{◌≡◌, ℕ, List, [], ◌++◌, Result, Ok, Err}
use Rattle.std.specs.List.{flat_map}
use Rattle.io_text.specs.declared.fault.DeviceFault.TheVariants.{Read, Write, TooLong, Memory}
use Rattle.room_files.specs.declared.outcome.Outcome.{Outcome}
use Rattle.fault_words.specs.Faults.{fault_line, faults_outcome}
use Rattle.bgview.specs.declared.fault.ViewFault.{ViewFault}
use Rattle.bgview.specs.declared.fault.ViewFault.TheVariants.{BadInput, BadOption, BadPart, Device, Incomplete}

-- the answer to these texts, with what is written: a line each, in order; an allocation that failed with none, a failed write with a beginning
abbrev pub AreFaultsSaid : List (List ℕ) → Result Outcome ViewFault → List ℕ → Type 0
AreFaultsSaid texts (Ok outcome) output = (output ≡ flat_map fault_line texts) × (outcome ≡ faults_outcome texts)
AreFaultsSaid texts (Err Incomplete) output = ⊥
AreFaultsSaid texts (Err (BadOption fault)) output = ⊥
AreFaultsSaid texts (Err (BadPart bad)) output = ⊥
AreFaultsSaid texts (Err (Device Memory)) output = output ≡ []
AreFaultsSaid texts (Err (Device Write)) output = (rest : List ℕ) × (output ++ rest ≡ flat_map fault_line texts)
AreFaultsSaid texts (Err (Device Read)) output = ⊥
AreFaultsSaid texts (Err (Device TooLong)) output = ⊥
AreFaultsSaid texts (Err (BadInput line fault)) output = ⊥
