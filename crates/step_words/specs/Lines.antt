-- The lines that describe an atomic step.
use Rattle.std.specs.Prelude.{ℕ, ◌<◌, ◌-◌, ◌^◌, min, List, [], ◌++◌, Bool, true, false, Option, Some, None, codes, decimal}
use Rattle.room_spec.specs.Rooms.{RoomSpec, processes}
use Rattle.room_spec.specs.Sizes.{sizes_in}
use Rattle.view_table.specs.Places.{IsPlace}
use Rattle.simulator.specs.declared.goal.Goal.{Goal}
use Rattle.simulator.specs.declared.goal.Goal.TheVariants.{Write, Ask, Propose, AskInput, Done, Spent}
use Rattle.simulator.specs.declared.line.Line.{Line}
use Rattle.simulator.specs.declared.line.Line.TheVariants.{GetInput}
use Rattle.room_steps.specs.declared.step.AtomicStep.{AtomicStep}
use Rattle.ws_history.specs.declared.effects.Effect.{Effect}
use Rattle.ws_history.specs.declared.effects.Effect.TheVariants.{Write as WriteEffect, Snapshot, Decision}
use Rattle.ws_history.specs.declared.unreadable.Unreadable.{Unreadable}
use Rattle.step_words.specs.declared.step.Consequence.{Consequence}
use Rattle.step_words.specs.Pieces.{behind, between, padded}
use Rattle.step_words.specs.Names.{operation_text}
use Rattle.step_words.specs.Sights.{sight_text}

-- the widths of the columns with the number of a step, with its turn and with its operation
abbrev pub number_width : ℕ
number_width = 5

abbrev pub turn_width : ℕ
turn_width = 43

abbrev pub operation_width : ℕ
operation_width = 36

-- whose turn it is, and what it works on
abbrev pub turn_name : AtomicStep → List ℕ
turn_name step =
    behind (codes "simulator") step.simulator ++ (behind (codes ", turn") step.turn ++ (behind (codes ", process") step.process ++ behind (codes ", round") step.round))

-- said at the first of a turn's steps
abbrev pub turn_text : AtomicStep → Bool → List ℕ
turn_text step true = []
turn_text step false = turn_name step

-- how a turn ended, by what is left to do for its process
abbrev pub outcome_text : ℕ → Goal → List ℕ
outcome_text process (Write round value) = behind (codes "useful: process") process ++ between (codes " writes") value (codes " next")
outcome_text process (Ask round) = behind (codes "quiet: the agreement of process") process ++ between (codes ", round") round (codes " is not resolved")
outcome_text process (Propose value) = behind (codes "useful: process") process ++ between (codes " proposes the input") value (codes " next")
outcome_text process AskInput = between (codes "quiet: the input of process") process (codes " is not agreed on")
outcome_text process Done = between (codes "useful: process") process (codes " has decided")
outcome_text process Spent = between (codes "useful: process") process (codes " is spent")

-- the input that a process has from now on, and which simulator's it is
abbrev pub input_text : ℕ → ℕ → ℕ → List ℕ
input_text process input simulator = behind (codes "useful: process") process ++ (behind (codes " has the input") input ++ behind (codes " of simulator") simulator)

-- how a turn ended, by the line of its last step: that loads the input that was agreed on (a greater number is read as the greatest input), or else
-- what is left to do says it
abbrev pub ending_text : Line → AtomicStep → Goal → List ℕ
ending_text (GetInput chosen) step goal = input_text step.process (min step.word (2 ^ 32 - 1)) chosen
ending_text line step goal = outcome_text step.process goal

-- a line for the end of a turn
abbrev pub end_text : AtomicStep → Option Goal → List ℕ
end_text step None = []
end_text step (Some goal) = codes "         " ++ (ending_text step.line step goal ++ codes "\n")

-- a process does this with a value
abbrev pub here_text : ℕ → List ℕ → ℕ → List ℕ
here_text process verb value = behind (codes "here: process") process ++ behind verb value

-- what takes effect
abbrev pub effect_text : Effect → List ℕ
effect_text (WriteEffect process value) = here_text process (codes " writes") value
effect_text (Snapshot process) = codes "here, if proposed and chosen:" ++ behind (codes " the snapshot of process") process
effect_text (Decision process value) = here_text process (codes " decides") value

-- a line for it
abbrev pub effect_line : Option Effect → List ℕ
effect_line None = []
effect_line (Some effect) = codes "         " ++ (effect_text effect ++ codes "\n")

-- what a simulator decides by its first decision of a process
abbrev pub decision_text : ℕ → ℕ → List ℕ
decision_text simulator decision = behind (codes "simulator") simulator ++ behind (codes " decides") decision

-- a line for it
abbrev pub decision_line : ℕ → Option ℕ → List ℕ
decision_line simulator None = []
decision_line simulator (Some decision) = codes "         " ++ (decision_text simulator decision ++ codes "\n")

-- whose proposal is chosen for good, if one is
abbrev pub choice_text : Option ℕ → List ℕ
choice_text None = []
choice_text (Some simulator) = between (codes "chosen: simulator") simulator (codes "'s; ")

-- why it can't be read: a simulator is inside (in the unsafe section), and has crashed there or not
abbrev pub obstacle_text : Option ℕ → Option ℕ → ℕ → List ℕ
obstacle_text chosen (Some blocker) inside = behind (codes "blocked for ever by simulator") blocker
obstacle_text None None inside = between (codes "open: simulator") inside (codes " is inside")
obstacle_text (Some simulator) None inside = between (codes "not readable while simulator") inside (codes " is inside")

-- of an agreement that no simulator can read, the choice and why
abbrev pub unreadable_text : Unreadable → List ℕ
unreadable_text agreement = choice_text agreement.chosen ++ obstacle_text agreement.chosen agreement.blocker agreement.inside

-- a line for it
abbrev pub unreadable_line : Option Unreadable → List ℕ
unreadable_line None = []
unreadable_line (Some agreement) = codes "         " ++ (unreadable_text agreement ++ codes "\n")

-- the lines under a step
abbrev pub notes_lines : AtomicStep → Consequence → List ℕ
notes_lines step consequence =
    effect_line consequence.effect ++ (decision_line step.simulator step.decision ++ (end_text step step.end ++ unreadable_line consequence.unreadable))

-- The step's number, its turn where that begins, its operation, and what there is to see; what takes effect; what its simulator decides; the end of the
-- turn; and, if that was quiet, why the agreement can't be read.
abbrev pub step_lines : RoomSpec → ℕ → AtomicStep → Bool → Consequence → List ℕ
step_lines spec number step same_turn consequence =
    codes "    "
    ++ (padded number_width (decimal number)
    ++ (padded turn_width (turn_text step same_turn)
    ++ (padded operation_width (operation_text spec step) ++ (sight_text spec step ++ (codes "\n" ++ notes_lines step consequence)))))

-- its numbers are those of the room
pub record IsStepIn (spec : RoomSpec) (step : AtomicStep) : Type 0 where
  pub simulator : step.simulator < spec.simulators
  pub process : step.process < processes spec
  pub place : IsPlace (sizes_in spec) step.place
