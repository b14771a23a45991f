-- What crates above know of the points: numbers, decisions and snapshots as functions of time, with no field and no line of a simulator.
use Rattle.std.specs.Prelude.{◌≡◌, ◌≢◌, ℕ, ◌+◌, ◌<◌, ◌≤◌, Bool, true, false, List, [], ◌∷◌, length, Option, Some, None, slice_index}
use Rattle.room_spec.specs.Rooms.{RoomSpec}
use Rattle.room_core.specs.Rooms.{ScheduleEvent}
use Rattle.room_core.specs.Fields.{Fields}
use Rattle.room_core.specs.Agreements.{decided_in, greatest_step, has_out, is_fixed, row_at}
use Rattle.room_core.specs.Moments.{fields_at}
use Rattle.room_core.specs.Points.{Point, Writes, Snaps, Decides, IsFixedIn, read_time}

-- How many writes of each process had been counted at each time, and whether it had decided; the agreements on which snapshots are fixed in the end,
-- when each was read, and how many writes of each process it shows; and the decisions and the numbers of writes in the end.
pub record Timeline : Type 0 where
  pub length : ℕ
  pub counted : ℕ → ℕ → ℕ
  pub has_decided : ℕ → ℕ → Bool
  pub fixed : ℕ → ℕ → Bool
  pub read : ℕ → ℕ → ℕ
  pub row : ℕ → ℕ → List ℕ
  pub decided : ℕ → Option ℕ
  pub total : ℕ → ℕ

abbrev pub timeline_of : RoomSpec → List ScheduleEvent → Fields → Timeline
timeline_of spec schedule final = record {
  length = length schedule;
  counted = λ time p. greatest_step spec (fields_at spec schedule time) p;
  has_decided = λ time p. has_out spec (fields_at spec schedule time) p;
  fixed = is_fixed spec final;
  read = read_time spec schedule final;
  row = row_at spec final;
  decided = decided_in spec final;
  total = greatest_step spec final;
}

-- no snapshot was read at this time
abbrev pub IsUnread : ℕ → ℕ → Timeline → ℕ → Type 0
IsUnread n rounds line time = (p r : ℕ) → IsFixedIn n rounds line.fixed p r → line.read p r ≢ time

-- no write was counted at this time
abbrev pub AreCounted : ℕ → Timeline → ℕ → Type 0
AreCounted n line time = (p : ℕ) → p < n → line.counted (time + 1) p ≡ line.counted time p

-- no decision was stored at this time that had not been
abbrev pub AreDecided : ℕ → Timeline → ℕ → Type 0
AreDecided n line time = (p : ℕ) → p < n → line.has_decided (time + 1) p ≡ line.has_decided time p

-- These take effect at this time, and this is all that changes by it.
pub data Moves (n rounds : ℕ) (line : Timeline) (time : ℕ) : List Point → Type 0 where
  nothing : AreCounted n line time → AreDecided n line time → IsUnread n rounds line time → Moves n rounds line time []
  writes : (p r : ℕ) → p < n → line.counted time p + 1 ≡ r → line.counted (time + 1) p ≡ r → ((q : ℕ) → q < n → q ≢ p → line.counted (time + 1) q ≡ line.counted time q)
      → AreDecided n line time → IsUnread n rounds line time → Moves n rounds line time (Writes p r ∷ [])
  snaps : (p r : ℕ) → IsFixedIn n rounds line.fixed p r → line.read p r ≡ time → ((q s : ℕ) → IsFixedIn n rounds line.fixed q s → line.read q s ≡ time → (q ≡ p) × (s ≡ r))
      → AreCounted n line time → AreDecided n line time → Moves n rounds line time (Snaps p r ∷ [])
  decides : (p decision : ℕ) → p < n → line.has_decided time p ≡ false → line.has_decided (time + 1) p ≡ true → ((q : ℕ) → q < n → q ≢ p → line.has_decided (time + 1) q ≡ line.has_decided time q)
      → AreCounted n line time → IsUnread n rounds line time → line.decided p ≡ Some decision → line.counted time p ≡ line.counted line.length p
      → IsFixedIn n rounds line.fixed p (line.counted time p) → line.read p (line.counted time p) < time → Moves n rounds line time (Decides p decision ∷ [])

-- Each time has its points, numbers never fall, a decision comes after a last snapshot whose agreement is fixed, and each snapshot shows what had been
-- counted when it was read.
pub record IsTimeline (n rounds : ℕ) (line : Timeline) (at : ℕ → List Point) : Type 0 where
  pub moves : (time : ℕ) → time < line.length → Moves n rounds line time (at time)
  pub grows : (s t p : ℕ) → s ≤ t → t ≤ line.length → p < n → line.counted s p ≤ line.counted t p
  pub none : (p : ℕ) → line.counted 0 p ≡ 0
  pub undecided : (p : ℕ) → line.has_decided 0 p ≡ false
  pub ends : (p : ℕ) → line.counted line.length p ≡ line.total p
  pub over : (p : ℕ) → line.has_decided line.length p ≡ false → line.decided p ≡ None
  pub last : (p decision : ℕ) → p < n → line.decided p ≡ Some decision → IsFixedIn n rounds line.fixed p (line.total p)
  pub early : (p r : ℕ) → IsFixedIn n rounds line.fixed p r → line.read p r < line.length
  pub shows : (p r q : ℕ) → IsFixedIn n rounds line.fixed p r → q < n → slice_index (line.row p r) q ≡ line.counted (line.read p r + 1) q
