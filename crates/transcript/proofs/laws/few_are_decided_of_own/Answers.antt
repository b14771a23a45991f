use Rattle.transcript.proofs.Singly.{decides_few_of_own, decides_own}
use Rattle.transcript.proofs.laws.few_are_decided_of_own.Goals as goal

pub returns : goal.returns
returns c = record { own = decides_own; few = decides_few_of_own }
