-- The report of a room: the state of each process, which simulators have crashed, and the history.
use Rattle.std.specs.Prelude.{◌≡◌, ◌<◌, ◌≤◌, ◌↔◌, ℕ, Bool, true, false, not, List, Option, Some, None, is_some, length, map, slice_index_or, ◌==◌, ◌&&◌, ◌||◌, if◌then◌else◌}
use Rattle.std.specs.List.{Contains, count_by, filter, filter_map, find, list_any, range_with_len}
use Rattle.room_spec.specs.Rooms.{RoomSpec, is_reduction, processes}
use Rattle.transcript.specs.Reductions.{IsRunOf}
use Rattle.transcript.specs.Runs.{IsRun}
use Rattle.transcript.specs.declared.event.Event.TheVariants.{Decide}
use Rattle.room_core.specs.Calls.{RoomState}
use Rattle.room_core.specs.Fields.{Fields, decision_in}
use Rattle.room_core.specs.Reading.{AreFieldsOf}
use Rattle.room_core.specs.Agreements.{asks, decided_in, has_out, is_resolved, run_spec}
use Rattle.room_core.specs.Settled.{crashed_in, is_write}
use Rattle.ws_history.specs.Sources.{history_of}
use Rattle.ws_history.specs.Taking.{Keeps, TakesMore}
use Rattle.ws_history.specs.declared.states.Report.{Report}
use Rattle.ws_history.specs.declared.states.Standing.{Standing}
use Rattle.ws_history.specs.declared.states.ProcessState.{ProcessState}
use Rattle.ws_history.specs.declared.states.ProcessState.TheVariants.{Decided, Spent, Held, Going}

-- the last snapshot of process j was agreed on, and asks for a write
abbrev pub is_spent : RoomSpec → Fields → ℕ → Bool
is_spent spec fields j = is_resolved spec fields j spec.rounds && is_write (asks spec fields j spec.rounds)

-- simulator i is at level 1 in the agreement on the input of process j, which a reduction has
abbrev pub is_inside_input : RoomSpec → Fields → ℕ → ℕ → Bool
is_inside_input spec fields i j = is_reduction spec && (fields.level i j 0 == 1)

-- it is at level 1 there, or in an agreement on a snapshot of process j
abbrev pub is_inside : RoomSpec → Fields → ℕ → ℕ → Bool
is_inside spec fields i j = is_inside_input spec fields i j || list_any (λ k. fields.level i j k == 1) (range_with_len 1 spec.rounds)

-- the least simulator that has crashed there
abbrev pub held_by : RoomSpec → Fields → ℕ → Option ℕ
held_by spec fields j = find (λ i. fields.crashed i && is_inside spec fields i j) (range_with_len 0 spec.simulators)

-- the processes of which no decision is stored, and inside an agreement of which some simulator has crashed
abbrev pub held_in : RoomSpec → Fields → List ℕ
held_in spec fields = filter (λ j. not (has_out spec fields j) && is_some (held_by spec fields j)) (range_with_len 0 (processes spec))

abbrev pub is_held : ProcessState → Bool
is_held (Held i) = true
is_held state = false

abbrev pub is_decided : ProcessState → Bool
is_decided (Decided v) = true
is_decided state = false

-- nothing is left to do for it
abbrev pub is_over : ProcessState → Bool
is_over (Decided v) = true
is_over Spent = true
is_over state = false

abbrev pub held_or_going : Option ℕ → ProcessState
held_or_going (Some i) = Held i
held_or_going None = Going

-- the first that fits
abbrev pub state_by : Option ℕ → Bool → Option ℕ → ProcessState
state_by (Some v) spent holder = Decided v
state_by None spent holder = if spent then Spent else held_or_going holder

abbrev pub state_of : RoomSpec → Fields → ℕ → ProcessState
state_of spec fields j = state_by (decided_in spec fields j) (is_spent spec fields j) (held_by spec fields j)

abbrev pub states_of : RoomSpec → Fields → List ProcessState
states_of spec fields = map (state_of spec fields) (range_with_len 0 (processes spec))

-- what the simulators have decided, in order, without those that haven't
abbrev pub decisions_in : RoomSpec → Fields → List ℕ
decisions_in spec fields = filter_map (decision_in fields) (range_with_len 0 spec.simulators)

-- the whole report
abbrev pub report_of : RoomSpec → Fields → Report
report_of spec fields = record {
  states = record { items = states_of spec fields };
  crashed = record { items = crashed_in spec fields };
  history = history_of spec fields;
}

-- What a report of a room with these fields says: its history is a run of the processes, in a reduction from inputs that were agreed on, each
-- of them a simulator's own; it has each process's decision and no other, and so what each simulator has decided; and no more processes are held than simulators have crashed, nor are they with all that have no decision and an agreement inside
-- which a simulator has crashed.
pub record IsTrueReport (spec : RoomSpec) (fields : Fields) (report : Report) : Type 0 where
  pub run : IsRun (run_spec spec fields) report.history
  pub ordinary : is_reduction spec ≡ false → IsRun spec report.history
  pub from_own : is_reduction spec ≡ true → IsRunOf spec report.history
  pub decided : (j v : ℕ) → j < processes spec → (slice_index_or report.states.items j Going ≡ Decided v) ↔ Contains report.history (Decide j v)
  pub simulators : (i v : ℕ) → i < spec.simulators → decision_in fields i ≡ Some v → (j : ℕ) × (j < processes spec) × Contains report.history (Decide j v)
  pub held : count_by is_held report.states.items ≤ length report.crashed.items
  pub inside : length (held_in spec fields) ≤ length report.crashed.items

-- the report of a room: that of any fields that the room stands for, and a true one
abbrev pub IsReportIn : RoomState → Report → Type 0
IsReportIn room report = (fields : Fields) → AreFieldsOf room fields → (report ≡ report_of room.spec fields) × IsTrueReport room.spec fields report

-- The report of a room has these states and crashed simulators, and the events of its history were taken.
pub record IsReportTo (room : RoomState) (standing : Standing) (before after : Keeps) : Type 0 where
  pub report : Report
  pub is_report : IsReportIn room report
  pub states : standing.states ≡ report.states
  pub crashed : standing.crashed ≡ report.crashed
  pub history : TakesMore before report.history after
