use Rattle.file_faults.proofs.Refusing.{known_after, others_known, refusal_found}
use Rattle.file_faults.proofs.laws.refused_commands_are_found.Goals as goal

pub returns : goal.returns
returns c = record { refusal = refusal_found; after = known_after; others = others_known }
