use Rattle.simulator.proofs.Alike.{same_knowledge}
use Rattle.simulator.proofs.Knowing.{goes_alike, knows_mind, wants_same}
use Rattle.simulator.proofs.laws.knowledge_goes_on.Goals as goal

pub returns : goal.returns
returns c = record { is_mind = knows_mind; wants = wants_same; knows = goes_alike; equal = same_knowledge }
