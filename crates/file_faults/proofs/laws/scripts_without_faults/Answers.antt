use Rattle.file_faults.proofs.LintedScripts.{played_well, well_formed}
use Rattle.file_faults.proofs.laws.scripts_without_faults.Goals as goal

pub returns : goal.returns
returns c = record { played = played_well; read = well_formed }
