use Rattle.file_faults.proofs.Refusing.{begun_known, others_begun, taken_found}
use Rattle.file_faults.proofs.laws.taken_names_are_found.Goals as goal

pub returns : goal.returns
returns c = record { refusal = taken_found; after = begun_known; others = others_begun }
