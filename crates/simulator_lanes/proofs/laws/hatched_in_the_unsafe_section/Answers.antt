use Rattle.simulator_lanes.proofs.Hatching.{hatched_more, hatched_none}
use Rattle.simulator_lanes.proofs.laws.hatched_in_the_unsafe_section.Goals as goal

pub returns-clause-none : goal.returns-clause-none
returns-clause-none c = hatched_none

pub returns-clause-one_more : goal.returns-clause-one_more
returns-clause-one_more c = hatched_more
