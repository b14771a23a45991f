-- The linearization of a room's simulated execution: the events of its history, each at the step at which it takes effect.
use Rattle.std.specs.Prelude.{⊤, ◌∷◌, ◌↔◌, ◌≡◌, ◌⊎◌, ℕ, zero, suc, ◌<◌, Bool, true, ◌==◌, List, [], ◌++◌, length, map, Some, None}
use Rattle.std.specs.List.{Contains, filter}
use Rattle.room_spec.specs.Rooms.{RoomSpec}
use Rattle.transcript.specs.declared.event.Event.{Event}
use Rattle.transcript.specs.declared.event.Event.TheVariants.{Write, Snap, Decide}
use Rattle.transcript.specs.Runs.{is_snap_by, process_of}
use Rattle.room_core.specs.Rooms.{ScheduleEvent}
use Rattle.room_core.specs.Fields.{Fields}
use Rattle.room_core.specs.Moments.{fields_at}
use Rattle.room_core.specs.Points.{Point, Writes, Snaps, Decides, TakesEffect, points_at}
use Rattle.room_core.specs.Timelines.{Timeline}
use Rattle.ws_history.specs.Histories.{Source, shown_row}
use Rattle.ws_history.specs.Sources.{source_of}

-- a write, snapshot or decision, and the time of the step at which it takes effect
pub record Timed : Type 0 where
  pub time : ℕ
  pub point : Point

abbrev pub IsRisingInTime : List Timed → Type 0
IsRisingInTime [] = ⊤
IsRisingInTime (x ∷ rest) = ((y : Timed) → Contains rest y → x.time < y.time) × IsRisingInTime rest

-- A linearization of a schedule that leads to these fields: just what takes effect at its steps, in the order of time, and no two at one step.
pub record IsLinearization (spec : RoomSpec) (schedule : List ScheduleEvent) (final : Fields) (points : List Timed) : Type 0 where
  pub rising : IsRisingInTime points
  pub exact : (x : Timed) → Contains points x ↔ ((x.time < length schedule) × TakesEffect spec schedule final x.time x.point)

-- ---- its events

-- the event of the history that takes effect there
abbrev pub event_of : Source → Point → Event
event_of src (Writes p r) = Write p (src.written p r)
event_of src (Snaps p r) = Snap p (record { items = shown_row src (record { process = p; round = r }) })
event_of src (Decides p decision) = Decide p decision

abbrev pub events_in : Source → List Timed → List Event
events_in src points = map (λ (x : Timed). event_of src x.point) points

-- an event, with the time of the step at which it takes effect
abbrev pub timed_event : Source → Timed → ℕ × Event
timed_event src x = (x.time, event_of src x.point)

-- These are the events of a linearization of this schedule, each with its time; the last fields are those to which it leads.
abbrev pub AreEventsAtSteps : RoomSpec → List ScheduleEvent → List (ℕ × Event) → Type 0
AreEventsAtSteps spec schedule events =
    (points : List Timed) × IsLinearization spec schedule (fields_at spec schedule (length schedule)) points × (events ≡ map (timed_event (source_of spec (fields_at spec schedule (length schedule)))) points)

-- the events of process p, in their order
abbrev pub is_by : ℕ → Event → Bool
is_by p event = process_of event == p

abbrev pub events_of : ℕ → List Event → List Event
events_of p events = filter (is_by p) events

-- the second events are the first, or those and a snapshot of process p more
abbrev pub LackAtMostASnapshot : ℕ → List Event → List Event → Type 0
LackAtMostASnapshot p first second = (second ≡ first) ⊎ ((event : Event) × (is_snap_by p event ≡ true) × (second ≡ first ++ event ∷ []))

-- the first events begin the second
pub record Begins (first second : List Event) : Type 0 where
  pub rest : List Event
  pub is : second ≡ first ++ rest

-- ---- the same, step by step

-- what takes effect at this time
abbrev pub events_at : RoomSpec → List ScheduleEvent → Fields → ℕ → List Event
events_at spec schedule final time = map (event_of (source_of spec final)) (points_at spec schedule final time)

-- what takes effect before this time, in order
abbrev pub events_before : (ℕ → List Event) → ℕ → List Event
events_before events zero = []
events_before events (suc time) = events_before events time ++ events time

abbrev pub linearized : RoomSpec → List ScheduleEvent → Fields → List Event
linearized spec schedule final = events_before (events_at spec schedule final) (length schedule)

-- ---- inside the crate

-- the source of a history is that of a timeline
pub record IsSourceOf (n : ℕ) (src : Source) (line : Timeline) : Type 0 where
  pub greatest : (p : ℕ) → p < n → src.greatest p ≡ line.counted line.length p
  pub row : (p r : ℕ) → src.row p r ≡ line.row p r
  pub decision : (p decision : ℕ) → p < n → line.decided p ≡ Some decision → src.decision p (line.counted line.length p) ≡ Some decision
  pub undecided : (p r : ℕ) → line.decided p ≡ None → src.decision p r ≡ None
  pub decides_last : (p r decision : ℕ) → src.decision p r ≡ Some decision → src.greatest p ≡ r
