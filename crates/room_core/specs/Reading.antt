-- What the words and minds of a room stand for: its fields (the abstraction relation of the refinement).
use Rattle.std.specs.Prelude.{◌≡◌, ℕ, ◌<◌, ◌≤◌, List, map}
use Rattle.std.specs.List.{range_with_len}
use Rattle.room_spec.specs.Sizes.{Sizes, memory_words, sizes_in}
use Rattle.level_cells.specs.Fields.{level_of}
use Rattle.level_cells.specs.Packing.{packed}
use Rattle.view_table.specs.Places.{IsSimulator, IsProcess, IsRound, IsAgreementRound, IsMemoryWord}
use Rattle.view_table.specs.Words.{word_at}
use Rattle.view_table.specs.declared.place.Place.{Place}
use Rattle.view_table.specs.declared.place.Place.TheVariants as places
use Rattle.sim_memory.specs.Steps.{AreSameSteps, AreWithin, memory_of, memory_word, step_in}
use Rattle.simulator.specs.Minds.{MindOf, MindState}
use Rattle.room_core.specs.Rooms.{Configuration, IsOneInterleaving, mind_at, crashed_at}
use Rattle.room_core.specs.Calls.{RoomState, configuration_of, has_crashed, sweep_at}
use Rattle.room_core.specs.Fields.{Fields, StepMap, opening_fields, replay_fields}

-- the memory words at these places have these step numbers
pub record AreWordsAt (sizes : Sizes) (words : List ℕ) (place : ℕ → Place) (steps : StepMap) : Type 0 where
  pub within : AreWithin sizes steps
  pub same : (w : ℕ) → IsMemoryWord sizes w → word_at sizes words (place w) ≡ memory_word sizes steps w

-- a mind whose snapshot and whose collect before are given as words
abbrev pub worded : Sizes → MindOf StepMap → MindState
worded sizes mind = record {
  number = mind.number;
  goals = mind.goals;
  process = mind.process;
  turns = mind.turns;
  steps = mind.steps;
  turn_steps = mind.turn_steps;
  line = mind.line;
  word = mind.word;
  collects = mind.collects;
  before = memory_of sizes mind.before;
  snapshot = memory_of sizes mind.snapshot;
  entries = mind.entries;
  inputs = mind.inputs;
  decision = mind.decision;
}

pub record IsMindOf (sizes : Sizes) (mind : MindState) (field : MindOf StepMap) : Type 0 where
  pub before : AreWithin sizes field.before
  pub within : AreWithin sizes field.snapshot
  pub same : mind ≡ worded sizes field

-- the words of a room have these fields
pub record AreWordsOf (sizes : Sizes) (words : List ℕ) (fields : Fields) : Type 0 where
  pub step : AreWordsAt sizes words places.Memory fields.step
  pub level : (j k : ℕ) → IsProcess sizes j → IsAgreementRound sizes k → word_at sizes words (places.Levels j k) ≡ packed (λ i. fields.level i j k) 2 sizes.m
  pub levels : (i j k : ℕ) → IsSimulator sizes i → IsProcess sizes j → IsAgreementRound sizes k → fields.level i j k ≤ 2
  pub view : (i j k : ℕ) → IsSimulator sizes i → IsProcess sizes j → IsRound sizes k → AreWordsAt sizes words (places.View i j k) (fields.view i j k)
  pub value : (i j k : ℕ) → IsSimulator sizes i → IsProcess sizes j → IsAgreementRound sizes k → word_at sizes words (places.Value i j k) ≡ fields.value i j k
  pub out : (i j : ℕ) → IsSimulator sizes i → IsProcess sizes j → word_at sizes words (places.Out i j) ≡ fields.out i j

-- the room has these fields
pub record Reads (room : Configuration) (fields : Fields) : Type 0 where
  pub words : AreWordsOf (sizes_in room.spec) room.words fields
  pub minds : (i : ℕ) → i < room.spec.simulators → IsMindOf (sizes_in room.spec) (mind_at room i) (fields.mind i)
  pub crashed : (i : ℕ) → i < room.spec.simulators → crashed_at room i ≡ fields.crashed i

-- ---- the fields of a room

-- the same but for the quiet counts, which are 0
abbrev pub without_quiet : Fields → Fields
without_quiet fields = record fields { quiet = λ i. 0 }

-- A list of atomic steps and crashes leads to this room; quiet counts aside it leads to these fields, and their quiet counts are the room's.
pub record AreFieldsOf (room : RoomState) (fields : Fields) : Type 0 where
  pub run : IsOneInterleaving (configuration_of room)
  pub leads : without_quiet fields ≡ without_quiet (replay_fields room.spec (opening_fields room.spec) run.schedule)
  pub counts : (i : ℕ) → i < room.spec.simulators → fields.quiet i ≡ (sweep_at room i).quiet

-- ---- the reading of a room

-- a mind whose snapshot and whose collect before are given as their maps
abbrev pub unworded : Sizes → MindState → MindOf StepMap
unworded sizes mind = record {
  number = mind.number;
  goals = mind.goals;
  process = mind.process;
  turns = mind.turns;
  steps = mind.steps;
  turn_steps = mind.turn_steps;
  line = mind.line;
  word = mind.word;
  collects = mind.collects;
  before = step_in sizes mind.before;
  snapshot = step_in sizes mind.snapshot;
  entries = mind.entries;
  inputs = mind.inputs;
  decision = mind.decision;
}

-- the words at the places of all memory words
abbrev pub words_from : Sizes → List ℕ → (ℕ → Place) → List ℕ
words_from sizes words place = map (λ w. word_at sizes words (place w)) (range_with_len 0 (memory_words sizes))

-- the fields that its words, minds and marks say
abbrev pub fields_in : RoomState → Fields
fields_in room = record {
  step = step_in (sizes_in room.spec) (words_from (sizes_in room.spec) room.words places.Memory);
  level = λ i j k. level_of (word_at (sizes_in room.spec) room.words (places.Levels j k)) i;
  view = λ i j k. step_in (sizes_in room.spec) (words_from (sizes_in room.spec) room.words (places.View i j k));
  value = λ i j k. word_at (sizes_in room.spec) room.words (places.Value i j k);
  out = λ i j. word_at (sizes_in room.spec) room.words (places.Out i j);
  mind = λ i. unworded (sizes_in room.spec) (sweep_at room i).mind;
  quiet = λ i. (sweep_at room i).quiet;
  crashed = λ i. has_crashed room i;
}

-- the same but for the snapshot and the collect before, whose step numbers are the same
pub record AreAlikeMinds (sizes : Sizes) (mind other : MindOf StepMap) : Type 0 where
  pub before : AreSameSteps sizes.m sizes.n mind.before other.before
  pub snapshot : AreSameSteps sizes.m sizes.n mind.snapshot other.snapshot
  pub rest : record mind { before = other.before; snapshot = other.snapshot } ≡ other

-- the same at the numbers of each simulator, process and round
pub record AgreeIn (sizes : Sizes) (fields other : Fields) : Type 0 where
  pub step : AreSameSteps sizes.m sizes.n fields.step other.step
  pub level : (i j k : ℕ) → IsSimulator sizes i → IsProcess sizes j → IsAgreementRound sizes k → fields.level i j k ≡ other.level i j k
  pub view : (i j k : ℕ) → IsSimulator sizes i → IsProcess sizes j → IsRound sizes k → AreSameSteps sizes.m sizes.n (fields.view i j k) (other.view i j k)
  pub value : (i j k : ℕ) → IsSimulator sizes i → IsProcess sizes j → IsAgreementRound sizes k → fields.value i j k ≡ other.value i j k
  pub out : (i j : ℕ) → IsSimulator sizes i → IsProcess sizes j → fields.out i j ≡ other.out i j
  pub mind : (i : ℕ) → IsSimulator sizes i → AreAlikeMinds sizes (fields.mind i) (other.mind i)
  pub quiet : (i : ℕ) → IsSimulator sizes i → fields.quiet i ≡ other.quiet i
  pub crashed : (i : ℕ) → IsSimulator sizes i → fields.crashed i ≡ other.crashed i
