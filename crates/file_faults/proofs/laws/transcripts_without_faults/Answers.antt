use Rattle.file_faults.proofs.LintedEvents.{transcript_fine}
use Rattle.file_faults.proofs.laws.transcripts_without_faults.Goals as goal

pub returns : goal.returns
returns c = transcript_fine
