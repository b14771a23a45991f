-- An atomic step as JSON.
use Rattle.std.specs.Prelude.{◌≡◌, ℕ, List, drop, Option, Some, None, codes}
use Rattle.serde_json.specs.Data.{Data, member, no_members, null, number, object, string, unsigned}
use Rattle.serde_json.specs.View.{view}
use Rattle.json_lines.specs.Values.{deed_data, text_data}
use Rattle.room_spec.specs.Rooms.{RoomSpec}
use Rattle.level_cells.specs.Fields.{levels_of}
use Rattle.safe_agreement.specs.Levels.{resolved_of}
use Rattle.view_table.specs.declared.place.Place.{Place}
use Rattle.view_table.specs.declared.place.Place.TheVariants.{Memory, Levels, View, Value, Out}
use Rattle.simulator.specs.declared.goal.Goal.{Goal}
use Rattle.simulator.specs.declared.goal.Goal.TheVariants.{Write, Ask, Propose, AskInput, Done, Spent}
use Rattle.room_steps.specs.declared.step.AtomicStep.{AtomicStep}
use Rattle.ws_history.specs.declared.effects.Effect.{Effect}
use Rattle.ws_history.specs.declared.effects.Effect.TheVariants.{Write as WriteEffect, Snapshot, Decision}
use Rattle.ws_history.specs.declared.unreadable.Unreadable.{Unreadable}
use Rattle.step_words.specs.Data.{access_data}
use Rattle.step_words.specs.Lines.{decision_text, effect_text, ending_text, unreadable_text}
use Rattle.step_words.specs.Names.{operation_text}
use Rattle.step_words.specs.Sights.{sight_text}
use Rattle.step_words.specs.declared.json.Parts.{Parts}
use Rattle.step_words.specs.declared.step.Consequence.{Consequence}

-- what takes effect, if something does; of a snapshot only if it is proposed and chosen
abbrev pub effect_data : Option Effect → Data
effect_data None = null
effect_data (Some (WriteEffect process value)) = deed_data (codes "write") process value
effect_data (Some (Snapshot process)) = object (member (codes "event") (string (codes "snap")) (member (codes "process") (number (unsigned process)) no_members))
effect_data (Some (Decision process value)) = deed_data (codes "decide") process value

-- a simulator's number, if there is one
abbrev pub simulator_data : Option ℕ → Data
simulator_data None = null
simulator_data (Some simulator) = number (unsigned simulator)

-- an agreement that wasn't resolved: who blocks it for ever, whose proposal is chosen for good, and who is inside
abbrev pub unresolved_data : ℕ → Option ℕ → Option ℕ → Option ℕ → Data
unresolved_data round blocker chosen inside =
    object (member (codes "blocked_by") (simulator_data blocker) (member (codes "chosen") (simulator_data chosen) (member (codes "inside") (simulator_data inside)
    (member (codes "round") (number (unsigned round)) (member (codes "state") (string (codes "unresolved")) (member (codes "turn") (string (codes "quiet")) no_members))))))

abbrev pub quiet_data : ℕ → Option Unreadable → Data
quiet_data round None = unresolved_data round None None None
quiet_data round (Some agreement) = unresolved_data round agreement.blocker agreement.chosen (Some agreement.inside)

-- how a turn ended, if it has ended, by what is left to do for its process
abbrev pub end_data : Option Goal → Option Unreadable → Data
end_data None agreement = null
end_data (Some (Write round value)) agreement = object (member (codes "state") (string (codes "writes")) (member (codes "turn") (string (codes "useful")) (member (codes "value") (number (unsigned value)) no_members)))
end_data (Some (Ask round)) agreement = quiet_data round agreement
end_data (Some (Propose value)) agreement = object (member (codes "state") (string (codes "proposes")) (member (codes "turn") (string (codes "useful")) (member (codes "value") (number (unsigned value)) no_members)))
end_data (Some AskInput) agreement = quiet_data 0 agreement
end_data (Some Done) agreement = object (member (codes "state") (string (codes "decided")) (member (codes "turn") (string (codes "useful")) no_members))
end_data (Some Spent) agreement = object (member (codes "state") (string (codes "spent")) (member (codes "turn") (string (codes "useful")) no_members))

-- ---- the agreement whose levels a step is on

-- who blocks it for ever, whose proposal is chosen for good, and who is inside
abbrev pub simulators_data : Option ℕ → Option ℕ → Option ℕ → Data
simulators_data blocker chosen inside =
    object (member (codes "blocked_by") (simulator_data blocker) (member (codes "chosen") (simulator_data chosen) (member (codes "inside") (simulator_data inside) no_members)))

-- if no simulator is inside, the levels say which proposal is chosen, if one is
abbrev pub agreement_of : Option Unreadable → List ℕ → Data
agreement_of None levels = simulators_data None (resolved_of levels) None
agreement_of (Some agreement) levels = simulators_data agreement.blocker agreement.chosen (Some agreement.inside)

-- of a step on another word nothing
abbrev pub agreement_data : Place → RoomSpec → ℕ → Option Unreadable → Data
agreement_data (Memory at) spec word agreement = null
agreement_data (Levels process round) spec word agreement = agreement_of agreement (levels_of word spec.simulators)
agreement_data (View simulator process round at) spec word agreement = null
agreement_data (Value simulator process round) spec word agreement = null
agreement_data (Out simulator process) spec word agreement = null

-- ---- the lines under the step

-- what takes effect, what the simulator decides, how the turn ended, and why the agreement that it asked about can't be read
abbrev pub effect_note : Option Effect → Data
effect_note None = null
effect_note (Some effect) = text_data (effect_text effect)

abbrev pub decision_note : ℕ → Option ℕ → Data
decision_note simulator None = null
decision_note simulator (Some decision) = text_data (decision_text simulator decision)

abbrev pub end_note : AtomicStep → Option Goal → Data
end_note step None = null
end_note step (Some goal) = text_data (ending_text step.line step goal)

abbrev pub obstacle_note : Option Unreadable → Data
obstacle_note None = null
obstacle_note (Some agreement) = text_data (unreadable_text agreement)

abbrev pub notes_data : AtomicStep → Consequence → Data
notes_data step consequence =
    object (member (codes "decision") (decision_note step.simulator step.decision) (member (codes "effect") (effect_note consequence.effect)
    (member (codes "end") (end_note step step.end) (member (codes "obstacle") (obstacle_note consequence.unreadable) no_members))))

-- what its word shows, without the space before it
abbrev pub shows_data : RoomSpec → AtomicStep → Data
shows_data spec step = text_data (drop 1 (sight_text spec step))

-- ---- a step

-- the members in the order of their names
abbrev pub object_with : RoomSpec → ℕ → AtomicStep → Data → Data → Data → Data → Data → Data → Data → Data
object_with spec n step access agreement effect end notes operation shows =
    object (member (codes "access") access (member (codes "agreement") agreement (member (codes "effect") effect (member (codes "end") end (member (codes "notes") notes (member (codes "operation") operation
    (member (codes "process") (number (unsigned step.process)) (member (codes "room") (string spec.name) (member (codes "round") (number (unsigned step.round)) (member (codes "shows") shows
    (member (codes "simulator") (number (unsigned step.simulator)) (member (codes "step") (number (unsigned n)) (member (codes "turn") (number (unsigned step.turn)) no_members)))))))))))))

-- the step of a number: whose turn it is, and what that works on; what it does, as data; the agreement whose levels it is on; what takes effect; the end of
-- the turn; the lines under it; and the operation and what its word shows, in words
abbrev pub step_data : RoomSpec → ℕ → AtomicStep → Consequence → Data
step_data spec n step consequence =
    object_with spec n step (access_data spec step) (agreement_data step.place spec step.after consequence.agreement) (effect_data consequence.effect)
    (end_data step.end consequence.unreadable) (notes_data step consequence) (text_data (operation_text spec step)) (shows_data spec step)

-- what is said of a step, as values
pub record ArePartsOf (spec : RoomSpec) (step : AtomicStep) (consequence : Consequence) (parts : Parts) : Type 0 where
  pub access_is : view parts.access ≡ access_data spec step
  pub agreement_is : view parts.agreement ≡ agreement_data step.place spec step.after consequence.agreement
  pub effect_is : view parts.effect ≡ effect_data consequence.effect
  pub end_is : view parts.end ≡ end_data step.end consequence.unreadable
  pub notes_are : view parts.notes ≡ notes_data step consequence
  pub operation_is : view parts.operation ≡ text_data (operation_text spec step)
  pub shows_are : view parts.shows ≡ shows_data spec step

abbrev pub object_of : RoomSpec → ℕ → AtomicStep → Parts → Data
object_of spec n step parts =
    object_with spec n step (view parts.access) (view parts.agreement) (view parts.effect) (view parts.end) (view parts.notes) (view parts.operation) (view parts.shows)
