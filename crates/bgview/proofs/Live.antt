-- The answer to a script that is played as it is written.
use Rattle.std.proofs.Common.{◌≡◌, ℕ, List, [], Option, Some, None, Result, Ok, Err, ap}
use Rattle.std.specs.Prelude.{IfSome}
use Rattle.std.specs.Result.{IsErrAnd, OnOk}
use Rattle.std.specs.declared.alloc.AllocError.{AllocError}
use Rattle.std.specs.Io.KnownBytes.{Appends, Consumes, IsAtEnd}
use Rattle.io_text.specs.declared.fault.DeviceFault.{DeviceFault}
use Rattle.room_files.specs.declared.outcome.Outcome.{Outcome}
use Rattle.live_script.specs.Sessions.{IsServed}
use Rattle.bgview.specs.Answers.{IsLiveAnswer, live_result}
use Rattle.bgview.specs.declared.fault.ViewFault.{ViewFault}
use Rattle.bgview.specs.declared.fault.ViewFault.TheVariants.{Device}

-- nothing is left to read once it has ended
at_end : (served : Result (Result Outcome AllocError) DeviceFault) (unread : List ℕ) → OnOk served (IsAtEnd (Some unread)) → OnOk served (unread ≡ [])
at_end (Ok ending) unread end = end
at_end (Err fault) unread end = tt

pub live_answer : (old new before after : Option (List ℕ)) (served : Result (Result Outcome AllocError) DeviceFault) (result : Result Outcome ViewFault)
    → ((bytes : List ℕ) × (output : List ℕ) × Consumes old new bytes × Appends before after output × IsServed bytes served output) → OnOk served (IsAtEnd new) → result ≡ live_result served
    → IfSome old (λ input. (output : List ℕ) × IsLiveAnswer input result output × Appends before after output)
live_answer None new before after served result is end becomes = tt
live_answer (Some input) None before after served result is end becomes = absurd is.2
live_answer (Some input) (Some unread) before after served result is end becomes =
    (is.1, record { bytes = is.0; unread = unread; parts = is.2; served = served; is = is.4; result_is = becomes; all = at_end served unread end }, is.3)

-- a fault that ended the script ends the program
pub fault_passed : (result : Result Outcome ViewFault) (fault : DeviceFault) → IsErrAnd result (λ passed. passed ≡ Device fault) → result ≡ live_result (Err fault)
fault_passed (Ok outcome) fault is = absurd is
fault_passed (Err passed) fault is = ap Err is
