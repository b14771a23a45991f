-- What a simulator knows: its mind without the counts of its turns and steps.
use Rattle.std.specs.Prelude.{if◌then◌else◌}
use Rattle.simulator.specs.declared.knowledge.Knowledge.{Knowledge}
use Rattle.simulator.specs.Minds.{MindState}
use Rattle.simulator.specs.Sweeps.{is_resting}

abbrev pub knowledge_of : MindState → Knowledge
knowledge_of mind = record {
  number = mind.number;
  goals = record { items = mind.goals };
  process = mind.process;
  line = mind.line;
  word = mind.word;
  collects = mind.collects;
  before = mind.before;
  snapshot = mind.snapshot;
  entries = record { items = mind.entries };
  inputs = record { items = mind.inputs };
  decision = mind.decision;
}

-- a mind that knows this, has taken no step, and has begun a turn only if one is open
abbrev pub mind_of : Knowledge → MindState
mind_of knowledge = record {
  number = knowledge.number;
  goals = knowledge.goals.items;
  process = knowledge.process;
  turns = if is_resting knowledge.line then 0 else 1;
  steps = 0;
  turn_steps = 0;
  line = knowledge.line;
  word = knowledge.word;
  collects = knowledge.collects;
  before = knowledge.before;
  snapshot = knowledge.snapshot;
  entries = knowledge.entries.items;
  inputs = knowledge.inputs.items;
  decision = knowledge.decision;
}
