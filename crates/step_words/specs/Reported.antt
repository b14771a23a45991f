-- What is said of steps, one after the other.
use Rattle.std.specs.Prelude.{◌≡◌, ℕ, suc, Bool, true, false, List, [], ◌∷◌, ◌++◌, Option, Some, None, ◌==◌, ◌&&◌}
use Rattle.json_lines.specs.Lines.{json_line}
use Rattle.room_spec.specs.Rooms.{RoomSpec}
use Rattle.room_core.specs.Calls.{RoomState, configuration_of, room_after_step}
use Rattle.room_core.specs.Fields.{Fields}
use Rattle.room_core.specs.Reading.{AreFieldsOf}
use Rattle.room_core.specs.Rooms.{IsOneInterleaving, ScheduleEvent, crashes, steps}
use Rattle.simulator.specs.declared.goal.Goal.{Goal}
use Rattle.simulator.specs.declared.goal.Goal.TheVariants.{Write, Ask, Propose, AskInput, Done, Spent}
use Rattle.room_steps.specs.Steps.{IsStepOf}
use Rattle.room_steps.specs.declared.step.AtomicStep.{AtomicStep}
use Rattle.ws_history.specs.Effects.{IsEffectOf}
use Rattle.ws_history.specs.Unreadable.{unreadable_of}
use Rattle.ws_history.specs.declared.unreadable.Unreadable.{Unreadable}
use Rattle.view_table.specs.declared.place.Place.{Place}
use Rattle.view_table.specs.declared.place.Place.TheVariants.{Memory, Levels, View, Value, Out}
use Rattle.step_words.specs.Json.{step_data}
use Rattle.step_words.specs.Lines.{step_lines}
use Rattle.step_words.specs.declared.step.Consequence.{Consequence}

-- Whether steps are written as JSON, the lines so far, and whose turn the last step was, by its number. ran_out: an allocation failed, and nothing
-- more is written.
pub record Reporting : Type 0 where
  pub json : Bool
  pub lines : List ℕ
  pub last : Option (ℕ × ℕ)
  pub ran_out : Bool

abbrev pub nothing_reported : Bool → Reporting
nothing_reported json = record { json = json; lines = []; last = None; ran_out = false }

-- it is the same turn as before
abbrev pub is_turn : Option (ℕ × ℕ) → ℕ → ℕ → Bool
is_turn None simulator turn = false
is_turn (Some (of, number)) simulator turn = (of == simulator) && (number == turn)

-- the step of a number, as text or as JSON
abbrev pub step_text : Bool → RoomSpec → ℕ → AtomicStep → Bool → Consequence → List ℕ
step_text false spec number step same_turn consequence = step_lines spec number step same_turn consequence
step_text true spec number step same_turn consequence = json_line (step_data spec number step consequence)

-- one step more
abbrev pub with_step : Reporting → RoomSpec → ℕ → AtomicStep → Consequence → Reporting
with_step reporting spec number step consequence = record {
  json = reporting.json;
  lines = reporting.lines ++ step_text reporting.json spec number step (is_turn reporting.last step.simulator step.turn) consequence;
  last = Some (step.simulator, step.turn);
  ran_out = reporting.ran_out;
}

-- how many steps a schedule has; a crash is none
abbrev pub steps_in : List ScheduleEvent → ℕ
steps_in [] = 0
steps_in (steps i ∷ schedule) = suc (steps_in schedule)
steps_in (crashes i ∷ schedule) = steps_in schedule

-- what keeps the agreement that a turn asked about from being read, if the turn ended quiet
abbrev pub asked_of : RoomSpec → Fields → ℕ → Option Goal → Option Unreadable
asked_of spec fields process None = None
asked_of spec fields process (Some (Ask round)) = unreadable_of spec fields process round
asked_of spec fields process (Some (Write round value)) = None
asked_of spec fields process (Some (Propose value)) = None
asked_of spec fields process (Some AskInput) = unreadable_of spec fields process 0
asked_of spec fields process (Some Done) = None
asked_of spec fields process (Some Spent) = None

-- what keeps the agreement from being read whose levels are at a place, if the place has levels
abbrev pub agreement_at : RoomSpec → Fields → Place → Option Unreadable
agreement_at spec fields (Memory word) = None
agreement_at spec fields (Levels process round) = unreadable_of spec fields process round
agreement_at spec fields (View simulator process round word) = None
agreement_at spec fields (Value simulator process round) = None
agreement_at spec fields (Out simulator process) = None

-- only JSON says it
abbrev pub agreement_for : Bool → RoomSpec → Fields → Place → Option Unreadable
agreement_for false spec fields place = None
agreement_for true spec fields place = agreement_at spec fields place

-- A step that simulator i took in a room was described, with what takes effect at it, with why the agreement can't be read if its turn ended quiet,
-- and in JSON with the state of the agreement whose levels it is on, unless an allocation failed by then.
pub record IsReported (old : Reporting) (room : RoomState) (i : ℕ) (new : Reporting) : Type 0 where
  pub step : AtomicStep
  pub is : IsStepOf room i step
  pub consequence : Consequence
  -- whatever interleaving leads to the room
  pub effect : (one : IsOneInterleaving (configuration_of room)) → IsEffectOf room.spec one.schedule i consequence.effect
  -- whatever fields the room has after the step
  pub unreadable : (fields : Fields) → AreFieldsOf (room_after_step room i) fields → consequence.unreadable ≡ asked_of room.spec fields step.process step.end
  pub agreement : (fields : Fields) → AreFieldsOf (room_after_step room i) fields → consequence.agreement ≡ agreement_for old.json room.spec fields step.place
  pub number : ℕ
  -- one more than there are steps in it
  pub numbered : (one : IsOneInterleaving (configuration_of room)) → number ≡ suc (steps_in one.schedule)
  pub reported : new.ran_out ≡ false → new ≡ with_step old room.spec number step consequence
