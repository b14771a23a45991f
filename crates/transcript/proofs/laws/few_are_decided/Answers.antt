use Rattle.transcript.proofs.Agreeing.{decides_few, decides_inputs, keeps_task}
use Rattle.transcript.proofs.laws.few_are_decided.Goals as goal

pub returns : goal.returns
returns c = record {
  inputs = λ spec f events certified run v at. decides_inputs spec f events certified run v at;
  few = λ spec f events certified run. decides_few spec f events certified run;
  task = λ spec f most events certified run enough. keeps_task spec f most events certified run enough;
}
