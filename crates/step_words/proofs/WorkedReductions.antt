-- What is said of a turn that agrees on an input, in a reduction of two processes and two simulators, whose inputs are 7 and 3.
use Rattle.std.proofs.Common.{◌≡◌, ℕ, List, [], ◌∷◌, ◌++◌, Option, None, Some, refl}
use Rattle.std.specs.Prelude.{codes, decimal}
use Rattle.serde_json.specs.Data.{member, no_members, number, object, string, unsigned}
use Rattle.json_lines.specs.Values.{text_data}
use Rattle.room_spec.specs.Rooms.{RoomSpec}
use Rattle.view_table.specs.declared.place.Place.{Place}
use Rattle.view_table.specs.declared.place.Place.TheVariants.{Value, Levels}
use Rattle.simulator.specs.declared.goal.Goal.{Goal}
use Rattle.simulator.specs.declared.goal.Goal.TheVariants.{Write, AskInput}
use Rattle.simulator.specs.declared.line.Line.{Line}
use Rattle.simulator.specs.declared.line.Line.TheVariants.{Rest, Ask, GetInput}
use Rattle.simulator.specs.declared.operation.Move.{Move}
use Rattle.simulator.specs.declared.operation.Move.TheVariants.{Load, Store}
use Rattle.room_steps.specs.declared.step.AtomicStep.{AtomicStep}
use Rattle.step_words.specs.Data.{line_word}
use Rattle.step_words.specs.Json.{end_data, end_note, unresolved_data}
use Rattle.step_words.specs.Lines.{ending_text}
use Rattle.step_words.specs.Sights.{sight_text}

-- this room, of any protocol
abbrev vote : RoomSpec → RoomSpec
vote spec = record spec { inputs = 7 ∷ 7 ∷ []; own = 7 ∷ 3 ∷ []; simulators = 2; rounds = 1 }

-- a step of simulator 1 in its first turn, which is on process 1: its line, its operation, its place, the word that it finds there, and what is left to do
abbrev step_of : ℕ → Line → Move → Place → ℕ → Option Goal → AtomicStep
step_of round line operation place word end = record {
  simulator = 1;
  turn = 1;
  process = 1;
  round = round;
  line = line;
  operation = operation;
  place = place;
  word = word;
  after = word;
  end = end;
  decision = None;
}

-- ---- a proposal

-- What is stored in round 0 is a proposal; in a later round it is a write.
abbrev proposes : AtomicStep
proposes = step_of 0 Rest (Store 9 3) (Value 1 1 0) 0 None

proposal_said : (spec : RoomSpec) → sight_text (vote spec) proposes ≡ codes " proposes " ++ (decimal 3 ++ (codes " as the input of process " ++ decimal 1))
proposal_said spec = refl

write_said : (spec : RoomSpec) → sight_text (vote spec) (step_of 1 Rest (Store 9 3) (Value 1 1 1) 0 None) ≡ codes " process " ++ (decimal 1 ++ (codes " writes " ++ decimal 3))
write_said spec = refl

first_words : (line_word Rest (Store 9 3) 0 ≡ codes "propose") × (line_word Rest (Store 9 3) 1 ≡ codes "write") × (line_word Rest (Load 9) 0 ≡ codes "ask") × (line_word Rest (Load 9) 1 ≡ codes "ask")
first_words = (refl, refl, refl, refl)

-- ---- an input

-- With the input of the chosen simulator the turn ends; the next one is the process's first write.
abbrev has_input : List ℕ
has_input = codes "useful: process " ++ (decimal 1 ++ (codes " has the input " ++ (decimal 7 ++ (codes " of simulator " ++ decimal 0))))

abbrev gets : AtomicStep
gets = step_of 0 (GetInput 0) (Load 8) (Value 0 1 0) 7 (Some (Write 1 7))

input_said : (spec : RoomSpec) → (sight_text (vote spec) gets ≡ codes " " ++ decimal 7) × (ending_text gets.line gets (Write 1 7) ≡ has_input)
input_said spec = (refl, refl)

input_word : line_word (GetInput 0) (Load 8) 0 ≡ codes "input"
input_word = refl

input_end : (end_data gets.end None ≡ object (member (codes "state") (string (codes "writes")) (member (codes "turn") (string (codes "useful")) (member (codes "value") (number (unsigned 7)) no_members)))) × (end_note gets gets.end ≡ text_data has_input)
input_end = (refl, refl)

-- ---- no input yet

-- Simulator 0 is inside the agreement, and simulator 1 asks in vain.
abbrev asks : AtomicStep
asks = step_of 0 Ask (Load 3) (Levels 1 0) 9 (Some AskInput)

asks_in_vain : ending_text asks.line asks AskInput ≡ codes "quiet: the input of process " ++ (decimal 1 ++ codes " is not agreed on")
asks_in_vain = refl

no_input_end : end_data asks.end None ≡ unresolved_data 0 None None None
no_input_end = refl
