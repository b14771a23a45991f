-- An atomic step as data: the line of its turn, its place, and what the simulation reads in the word there.
use Rattle.std.specs.Prelude.{ℕ, zero, suc, ◌-◌, ◌==◌, List, map, Option, Some, None, codes, if◌then◌else◌}
use Rattle.std.specs.List.{range_with_len}
use Rattle.serde_json.specs.Data.{Data, array, member, no_members, null, object, string}
use Rattle.serde_json.specs.View.{items_of}
use Rattle.json_lines.specs.Values.{number_data, numbers_data}
use Rattle.room_steps.specs.declared.step.AtomicStep.{AtomicStep}
use Rattle.room_spec.specs.Rooms.{RoomSpec, processes}
use Rattle.room_spec.specs.Sizes.{sizes_in}
use Rattle.level_cells.specs.Fields.{levels_of}
use Rattle.sim_memory.specs.Steps.{step_in}
use Rattle.view_table.specs.declared.place.Place.{Place}
use Rattle.view_table.specs.declared.place.Place.TheVariants.{Memory, Levels, View, Value, Out}
use Rattle.simulator.specs.declared.line.Line.{Line}
use Rattle.simulator.specs.declared.line.Line.TheVariants as lines
use Rattle.simulator.specs.declared.operation.Move.{Move}
use Rattle.simulator.specs.declared.operation.Move.TheVariants.{Load}
use Rattle.step_words.specs.Sights.{memory_with}

-- ---- the line

-- a value is stored for a write, or in round 0 as a proposal of an input
abbrev pub store_word : ℕ → List ℕ
store_word zero = codes "propose"
store_word (suc round) = codes "write"

-- a turn's first step asks if it loads, and stores a value if it doesn't
abbrev pub first_word : Move → ℕ → List ℕ
first_word (Load index) round = codes "ask"
first_word operation round = store_word round

abbrev pub line_word : Line → Move → ℕ → List ℕ
line_word lines.Rest operation round = first_word operation round
line_word lines.Raise operation round = codes "raise"
line_word lines.Snap operation round = codes "snap"
line_word lines.Show operation round = codes "show"
line_word lines.Enter operation round = codes "enter"
line_word lines.Look operation round = codes "look"
line_word (lines.Leave saw_two) operation round = codes "leave"
line_word lines.Ask operation round = codes "ask"
line_word (lines.GetInput chosen) operation round = codes "input"
line_word (lines.GetView chosen) operation round = codes "view"
line_word lines.Values operation round = codes "values"
line_word (lines.Out decision) operation round = codes "out"

-- ---- the place

abbrev pub place_data : Place → Data
place_data (Memory word) = object (member (codes "kind") (string (codes "steps")) (member (codes "word") (number_data word) no_members))
place_data (Levels process round) = object (member (codes "kind") (string (codes "levels")) (member (codes "process") (number_data process) (member (codes "round") (number_data round) no_members)))
place_data (View simulator process round word) =
    object (member (codes "kind") (string (codes "view")) (member (codes "process") (number_data process) (member (codes "round") (number_data round)
    (member (codes "simulator") (number_data simulator) (member (codes "word") (number_data word) no_members)))))
place_data (Value simulator process round) =
    object (member (codes "kind") (string (codes "value")) (member (codes "process") (number_data process) (member (codes "round") (number_data round) (member (codes "simulator") (number_data simulator) no_members))))
place_data (Out simulator process) = object (member (codes "kind") (string (codes "out")) (member (codes "process") (number_data process) (member (codes "simulator") (number_data simulator) no_members)))

-- ---- the word

-- the step number that these memory words have of a simulator for a process
abbrev pub own_step_data : RoomSpec → List ℕ → ℕ → ℕ → Data
own_step_data spec words simulator process = number_data (step_in (sizes_in spec) words simulator process)

abbrev pub own_steps_data : RoomSpec → List ℕ → ℕ → Data
own_steps_data spec words simulator = array (items_of (map (own_step_data spec words simulator) (range_with_len 0 (processes spec))))

-- the step numbers of each simulator in one memory word, with 0 for those that another word has
abbrev pub steps_data : RoomSpec → ℕ → ℕ → Data
steps_data spec at word = array (items_of (map (own_steps_data spec (memory_with at word)) (range_with_len 0 spec.simulators)))

-- a decision is stored with 1 added
abbrev pub decision_data : ℕ → Data
decision_data word = if word == 0 then null else number_data (word - 1)

-- what the simulation reads in the word at a place: step numbers, levels, a value or a decision
abbrev pub word_data : Place → RoomSpec → ℕ → Data
word_data (Memory at) spec word = steps_data spec at word
word_data (Levels process round) spec word = numbers_data (levels_of word spec.simulators)
word_data (View simulator process round at) spec word = steps_data spec at word
word_data (Value simulator process round) spec word = number_data word
word_data (Out simulator process) spec word = decision_data word

-- what the step's simulator decides by it, if it does
abbrev pub decides_data : Option ℕ → Data
decides_data None = null
decides_data (Some decision) = number_data decision

-- what a step does: the line of its turn, the place of its word, what the simulation reads there before and after the step, and what its simulator decides
unfoldable pub access_data : RoomSpec → AtomicStep → Data
access_data spec step =
    object (member (codes "after") (word_data step.place spec step.after) (member (codes "before") (word_data step.place spec step.word) (member (codes "decides") (decides_data step.decision)
    (member (codes "line") (string (line_word step.line step.operation step.round)) (member (codes "place") (place_data step.place) no_members)))))
