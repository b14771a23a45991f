-- Real time: when a simulated write, snapshot or decision begins, and when it has ended (Herlihy and Wing 1990).
use Rattle.std.specs.Prelude.{◌≡◌, ◌⊎◌, ℕ, ◌<◌, ◌≤◌, true, List, length, Some}
use Rattle.room_spec.specs.Rooms.{RoomSpec, processes}
use Rattle.simulator.specs.declared.line.Line.TheVariants.{Raise}
use Rattle.simulator.specs.Minds.{current_round}
use Rattle.room_core.specs.Rooms.{ScheduleEvent}
use Rattle.room_core.specs.Fields.{Fields}
use Rattle.room_core.specs.Agreements.{IsFixedAt, decided_in, greatest_step, has_out}
use Rattle.room_core.specs.Moments.{fields_at}
use Rattle.room_core.specs.Points.{Point, Writes, Snaps, Decides}

-- simulator i has stored the value of write r of process p, and counts the write next
pub record IsCounting (fields : Fields) (i p r : ℕ) : Type 0 where
  pub process : (fields.mind i).process ≡ p
  pub round : current_round (fields.mind i) ≡ r
  pub line : (fields.mind i).line ≡ Raise

-- A write begins when the first simulator has stored its value; a snapshot, when the write before it has ended; a decision is one store.
abbrev pub HasBegun : RoomSpec → Fields → Point → Type 0
HasBegun spec fields (Writes p r) = (i : ℕ) × (i < spec.simulators) × ((r ≤ fields.step i p) ⊎ IsCounting fields i p r)
HasBegun spec fields (Snaps p r) = r ≤ greatest_step spec fields p
HasBegun spec fields (Decides p decision) = has_out spec fields p ≡ true

-- A write has ended when it was counted; a snapshot, when its agreement is fixed, which is before any simulator can find it resolved.
abbrev pub HasEnded : RoomSpec → Fields → Point → Type 0
HasEnded spec fields (Writes p r) = r ≤ greatest_step spec fields p
HasEnded spec fields (Snaps p r) = IsFixedAt spec fields p r
HasEnded spec fields (Decides p decision) = has_out spec fields p ≡ true

-- a write or snapshot of one of the room's processes, within its rounds, or the decision that a process has in the end
abbrev pub IsOperation : RoomSpec → Fields → Point → Type 0
IsOperation spec final (Writes p r) = (p < processes spec) × (1 ≤ r)
IsOperation spec final (Snaps p r) = (p < processes spec) × (1 ≤ r) × (r ≤ spec.rounds)
IsOperation spec final (Decides p decision) = (p < processes spec) × (decided_in spec final p ≡ Some decision)

-- In real time the one is before the other: at some moment it had ended, and the other had not begun.
pub record Precedes (spec : RoomSpec) (schedule : List ScheduleEvent) (one other : Point) : Type 0 where
  pub moment : ℕ
  pub early : moment ≤ length schedule
  pub ended : HasEnded spec (fields_at spec schedule moment) one
  pub waiting : HasBegun spec (fields_at spec schedule moment) other → ⊥
