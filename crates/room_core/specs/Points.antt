-- Linearization points: the atomic step of a schedule at which each write, snapshot and decision of a simulated process takes effect
-- (Herlihy and Wing 1990). The step at time t is the schedule's event number t, counted from 0.
use Rattle.std.specs.Prelude.{◌≡◌, ℕ, zero, suc, ◌+◌, ◌<◌, ◌≤◌, Bool, true, false, not, List, [], ◌∷◌, length, Option, Some, None, slice_get, nat_lt, ◌==◌, ◌&&◌, ◌||◌, if◌then◌else◌}
use Rattle.room_spec.specs.Rooms.{RoomSpec, processes}
use Rattle.simulator.specs.declared.line.Line.{Line}
use Rattle.simulator.specs.declared.line.Line.TheVariants.{Snap}
use Rattle.simulator.specs.Minds.{current_round}
use Rattle.simulator.specs.Turns.{words_in}
use Rattle.room_core.specs.Rooms.{ScheduleEvent, steps, crashes}
use Rattle.room_core.specs.Fields.{Fields}
use Rattle.room_core.specs.Agreements.{IsFixedAt, decided_in, greatest_step, has_out, is_fixed, shown_of}
use Rattle.room_core.specs.Moments.{fields_at}

-- ---- when a proposal was read

abbrev pub is_snap : Line → Bool
is_snap Snap = true
is_snap line = false

abbrev pub is_step_of : ℕ → Option ScheduleEvent → Bool
is_step_of i None = false
is_step_of i (Some (steps a)) = a == i
is_step_of i (Some (crashes a)) = false

-- By its step simulator i ends a collect for round k of process j: the only one of its scan, if the memory is one word; else one after
-- which its scan goes on.
abbrev pub reads_in : RoomSpec → Fields → Fields → ℕ → ℕ → ℕ → Bool
reads_in spec before after i j k =
    ((is_snap (before.mind i).line && ((before.mind i).process == j)) && ((current_round (before.mind i) == k) && ((before.mind i).word + 1 == words_in spec)))
    && ((words_in spec == 1) || is_snap (after.mind i).line)

-- the step at this time is such a step
abbrev pub reads_at : RoomSpec → List ScheduleEvent → ℕ → ℕ → ℕ → ℕ → Bool
reads_at spec schedule time i j k = is_step_of i (slice_get schedule time) && reads_in spec (fields_at spec schedule time) (fields_at spec schedule (time + 1)) i j k

-- the last time before this one at which the test holds, or 0
abbrev pub last_when : (ℕ → Bool) → ℕ → ℕ
last_when test zero = 0
last_when test (suc time) = if test time then time else last_when test time

-- The last such step of simulator i before this time: what its scan shows is the step numbers as they were then. Where the memory is more
-- than one word, that is the end of the collect before the scan's last.
abbrev pub last_read : RoomSpec → List ScheduleEvent → ℕ → ℕ → ℕ → ℕ → ℕ
last_read spec schedule i j k time = last_when (λ t. reads_at spec schedule t i j k) time

-- when the snapshot that was agreed on in round k of process j was read, by the simulator whose proposal was chosen
abbrev pub read_time : RoomSpec → List ScheduleEvent → Fields → ℕ → ℕ → ℕ
read_time spec schedule final j k = last_read spec schedule (shown_of spec final j k) j k (length schedule)

-- ---- what takes effect at a step

-- write r of process p, its snapshot after that write, or its decision
pub data Point : Type 0 where
  Writes : (p r : ℕ) → Point
  Snaps : (p r : ℕ) → Point
  Decides : (p decision : ℕ) → Point

-- of these agreements the one on the snapshot of process p in round r is fixed
pub record IsFixedIn (n rounds : ℕ) (fixed : ℕ → ℕ → Bool) (p r : ℕ) : Type 0 where
  pub process : p < n
  pub first : 1 ≤ r
  pub last : r ≤ rounds
  pub is : fixed p r ≡ true

-- the agreement on the snapshot of process p in round r is fixed in these fields: what it shows can't change any more
pub record HasFixed (spec : RoomSpec) (fields : Fields) (p r : ℕ) : Type 0 where
  pub process : p < processes spec
  pub first : 1 ≤ r
  pub last : r ≤ spec.rounds
  pub is : IsFixedAt spec fields p r

-- What takes effect at the step of this time; `final` are the fields in the end. A write takes effect at the step by which it is first
-- counted; a snapshot whose agreement is fixed in the end, at the step by which the proposal that was chosen was read; a decision at the step by
-- which it is first stored.
pub data TakesEffect (spec : RoomSpec) (schedule : List ScheduleEvent) (final : Fields) (time : ℕ) : Point → Type 0 where
  write_counted : (p r : ℕ) → p < processes spec → greatest_step spec (fields_at spec schedule time) p < r → greatest_step spec (fields_at spec schedule (time + 1)) p ≡ r
      → TakesEffect spec schedule final time (Writes p r)
  snapshot_read : (p r : ℕ) → HasFixed spec final p r → read_time spec schedule final p r ≡ time → TakesEffect spec schedule final time (Snaps p r)
  decision_stored : (p decision : ℕ) → p < processes spec → has_out spec (fields_at spec schedule time) p ≡ false → has_out spec (fields_at spec schedule (time + 1)) p ≡ true → decided_in spec final p ≡ Some decision
      → TakesEffect spec schedule final time (Decides p decision)

-- These are what takes effect at this time, and at most one does.
pub data AreEffects (spec : RoomSpec) (schedule : List ScheduleEvent) (final : Fields) (time : ℕ) : List Point → Type 0 where
  no_effect : ((point : Point) → TakesEffect spec schedule final time point → ⊥) → AreEffects spec schedule final time []
  one_effect : (point : Point) → TakesEffect spec schedule final time point → ((other : Point) → TakesEffect spec schedule final time other → other ≡ point)
      → AreEffects spec schedule final time (point ∷ [])

-- ---- the same, found step by step

-- by this step the snapshot was read that is agreed on in the end
abbrev pub is_read : RoomSpec → List ScheduleEvent → Fields → ℕ → ℕ → ℕ → ℕ → Bool
is_read spec schedule final time i j k =
    (reads_at spec schedule time i j k && is_fixed spec final j k) && ((shown_of spec final j k == i) && (read_time spec schedule final j k == time))

abbrev pub decision_of : ℕ → Option ℕ → List Point
decision_of p None = []
decision_of p (Some decision) = Decides p decision ∷ []

-- a step on process j in round k
abbrev pub points_on : RoomSpec → Bool → Fields → Fields → ℕ → ℕ → List Point
points_on spec read before after j k =
    if nat_lt (greatest_step spec before j) (greatest_step spec after j) then Writes j (greatest_step spec after j) ∷ []
    else if read then Snaps j k ∷ []
    else if not (has_out spec before j) then decision_of j (decided_in spec after j)
    else []

-- a crash has no effect
abbrev pub points_by : Option ScheduleEvent → RoomSpec → List ScheduleEvent → Fields → ℕ → List Point
points_by None spec schedule final time = []
points_by (Some (crashes i)) spec schedule final time = []
points_by (Some (steps i)) spec schedule final time =
    points_on spec (is_read spec schedule final time i ((fields_at spec schedule time).mind i).process (current_round ((fields_at spec schedule time).mind i)))
    (fields_at spec schedule time) (fields_at spec schedule (time + 1)) ((fields_at spec schedule time).mind i).process (current_round ((fields_at spec schedule time).mind i))

abbrev pub points_at : RoomSpec → List ScheduleEvent → Fields → ℕ → List Point
points_at spec schedule final time = points_by (slice_get schedule time) spec schedule final time
