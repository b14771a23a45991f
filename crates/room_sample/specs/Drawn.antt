-- How schedules are drawn from random numbers: who acts next and for how many steps, and when who crashes.
use Rattle.std.specs.Prelude.{◌≡◌, ◌≢◌, ◌⊎◌, ℕ, zero, suc, ◌+◌, ◌-◌, ◌*◌, ◌^◌, ◌<◌, ◌≤◌, ◌==◌, nat_lt, Bool, true, false, not, min, ◌&&◌, ◌||◌, List, [], ◌∷◌, ◌++◌, length, Some, slice_get, slice_set, swap_remove, if◌then◌else◌}
use Rattle.rand_core.specs.Stream.{Stream}
use Rattle.simulator.specs.declared.line.Line.{Line}
use Rattle.simulator.specs.declared.line.Line.TheVariants.{Look}
use Rattle.room_spec.specs.Rooms.{RoomSpec, processes}
use Rattle.room_spec.specs.Sizes.{memory_words, sizes_in}
use Rattle.room_core.specs.Calls.{RoomState, crash_reply, opening_state, room_after_crash, room_after_steps, step_reply, sweep_at}
use Rattle.room_core.specs.declared.reply.CrashReply.TheVariants as crash_replies
use Rattle.room_core.specs.declared.reply.StepReply.TheVariants as step_replies
use Rattle.room_sample.specs.Chances.{below}
use Rattle.room_sample.specs.declared.active.Active.{Active}
use Rattle.room_sample.specs.declared.active.Fuse.{Fuse}
use Rattle.room_sample.specs.declared.active.Fuse.TheVariants.{Never, After, Inside}
use Rattle.room_sample.specs.declared.active.Style.{Style}
use Rattle.room_sample.specs.Schedules.{IsSchedule, crashes_in, room_after_schedule}
use Rattle.room_sample.specs.declared.stretch.Stretch.{Stretch}
use Rattle.room_sample.specs.declared.stretch.Stretch.TheVariants.{Steps, Crash}

-- ---- what is drawn

-- how a schedule is drawn: one of two by rank; none, half or all of its fuses aimed; and how many agreements they are spread over
abbrev pub style_by : ℕ × Stream → ℕ × Stream → ℕ × Stream → Style × Stream
style_by order aimed spread = (record { by_rank = order.0 == 0; aimed = aimed.0; spread = 2 ^ spread.0 }, spread.1)

abbrev pub style_from : Stream → Style × Stream
style_from random = style_by (below 2 random) (below 3 (below 2 random).1) (below 4 (below 3 (below 2 random).1).1)

-- how many words hold the step numbers
abbrev pub words_in : RoomSpec → ℕ
words_in spec = memory_words (sizes_in spec)

-- the steps of a turn in which a scan of several words takes two collects
abbrev pub turn_steps : RoomSpec → ℕ
turn_steps spec = processes spec + 7 + 2 * words_in spec + (if words_in spec == 1 then 1 else 2 * words_in spec)

-- the steps of a turn for each process and round
abbrev pub most_steps : RoomSpec → ℕ
most_steps spec = processes spec * spec.rounds * turn_steps spec

abbrev pub after_by : ℕ × Stream → Fuse × Stream
after_by drawn = (After drawn.0, drawn.1)

abbrev pub inside_by : ℕ × Stream → Fuse × Stream
inside_by drawn = (Inside drawn.0, drawn.1)

-- it burns down after some steps, or inside an agreement
abbrev pub burning_by : RoomSpec → Style → ℕ × Stream → Fuse × Stream
burning_by spec style coin = if nat_lt coin.0 style.aimed then inside_by (below style.spread coin.1) else after_by (below (most_steps spec) coin.1)

-- one simulator of two has a fuse
abbrev pub fuse_by : RoomSpec → Style → ℕ × Stream → Fuse × Stream
fuse_by spec style coin = if coin.0 == 0 then (Never, coin.1) else burning_by spec style (below 2 coin.1)

abbrev pub fuse_from : RoomSpec → Style → Stream → Fuse × Stream
fuse_from spec style random = fuse_by spec style (below 2 random)

-- a stretch that is drawn has at most this many steps
abbrev pub most_drawn : ℕ
most_drawn = 64

-- for how many steps a simulator acts: short stretches and long ones
abbrev pub length_by : ℕ × Stream → ℕ × Stream
length_by power = ((below (2 ^ power.0) power.1).0 + 1, (below (2 ^ power.0) power.1).1)

abbrev pub length_from : Stream → ℕ × Stream
length_from random = length_by (below 7 random)

-- after a stretch: in one case of eight a rank falls below all that haven't fallen
abbrev pub rank_by : ℕ → ℕ × Stream → ℕ × Stream
rank_by rank coin = if coin.0 == 0 then below 65536 coin.1 else (rank, coin.1)

abbrev pub rank_from : ℕ → Stream → ℕ × Stream
rank_from rank random = rank_by rank (below 8 random)

-- a simulator with its rank and its fuse
abbrev pub one_by : ℕ → ℕ → Fuse × Stream → Active × Stream
one_by simulator rank fuse = (record { simulator = simulator; rank = 65536 + rank; fuse = fuse.0 }, fuse.1)

abbrev pub one_from : RoomSpec → Style → ℕ → Stream → Active × Stream
one_from spec style simulator random = one_by simulator (below 65536 random).0 (fuse_from spec style (below 65536 random).1)

-- the first simulators
abbrev pub one_more : List Active → Active × Stream → List Active × Stream
one_more all one = (all ++ one.0 ∷ [], one.1)

unfoldable pub active_from : RoomSpec → Style → ℕ → Stream → List Active × Stream
active_from spec style zero random = ([], random)
active_from spec style (suc i) random = one_more (active_from spec style i random).0 (one_from spec style i (active_from spec style i random).1)

-- the first one of the highest rank is here
pub record IsFirstHighest (active : List Active) (at : ℕ) : Type 0 where
  pub one : Active
  pub there : slice_get active at ≡ Some one
  pub highest : (k : ℕ) (other : Active) → slice_get active k ≡ Some other → other.rank ≤ one.rank
  pub first : (k : ℕ) (other : Active) → slice_get active k ≡ Some other → other.rank ≡ one.rank → at ≤ k

-- who acts next: by rank, or any
abbrev pub IsPickedBy : Bool → List Active → Stream → ℕ → Stream → Type 0
IsPickedBy true active random at picked = IsFirstHighest active at × (picked ≡ random)
IsPickedBy false active random at picked = (at, picked) ≡ below (length active) random

abbrev pub IsPicked : Style → List Active → Stream → ℕ → Stream → Type 0
IsPicked style active random at picked = IsPickedBy style.by_rank active random at picked

-- ---- a room on its way

-- the schedule that has led to a room, and how many simulators may crash still
pub record Way : Type 0 where
  pub room : RoomState
  pub schedule : List Stretch
  pub crashes_left : ℕ

abbrev pub opening_way : RoomSpec → ℕ → Way
opening_way spec crashes = record { room = opening_state spec; schedule = []; crashes_left = crashes }

abbrev pub with_steps : Way → ℕ → ℕ → Way
with_steps way simulator count = record {
  room = room_after_steps way.room simulator count;
  schedule = if count == 0 then way.schedule else way.schedule ++ Steps simulator count ∷ [];
  crashes_left = way.crashes_left;
}

abbrev pub with_crash : Way → ℕ → Way
with_crash way simulator = record {
  room = room_after_crash way.room simulator;
  schedule = way.schedule ++ Crash simulator ∷ [];
  crashes_left = way.crashes_left - 1;
}

-- a simulator takes steps, up to `most` of them, as long as it has one to take
pub record Walks (simulator most taken : ℕ) (way after : Way) : Type 0 where
  pub few : taken ≤ most
  pub each : (k : ℕ) → k < taken → step_reply (room_after_steps way.room simulator k) simulator ≡ step_replies.Stepped
  pub stopped : taken < most → step_reply after.room simulator ≢ step_replies.Stepped
  pub leads : after ≡ with_steps way simulator taken

abbrev pub is_look : Line → Bool
is_look Look = true
is_look line = false

-- the simulator has entered an agreement just now: it is at level 1, and has not yet looked
abbrev pub has_entered : RoomState → ℕ → Bool
has_entered room simulator = nat_lt simulator room.spec.simulators && is_look (sweep_at room simulator).mind.line

-- a simulator of a room takes steps until it has entered an agreement, or has taken `most`, or has none to take
pub record EntersBy (simulator most taken : ℕ) (room after : RoomState) (entered : Bool) : Type 0 where
  pub few : taken ≤ most
  pub some : entered ≡ true → 1 ≤ taken
  pub each : (k : ℕ) → k < taken → step_reply (room_after_steps room simulator k) simulator ≡ step_replies.Stepped
  pub outside : (k : ℕ) → 1 ≤ k → k < taken → has_entered (room_after_steps room simulator k) simulator ≡ false
  pub entered_is : 1 ≤ taken → has_entered after simulator ≡ entered
  pub stopped : entered ≡ false → taken < most → step_reply after simulator ≢ step_replies.Stepped
  pub leads : after ≡ room_after_steps room simulator taken

abbrev pub WalksInto : ℕ → ℕ → ℕ → Way → Way → Bool → Type 0
WalksInto simulator most taken way after entered = EntersBy simulator most taken way.room after.room entered × (after ≡ with_steps way simulator taken)

-- it crashes, if one may crash still and it hasn't yet
abbrev pub Crashes : ℕ → Way → Bool → Way → Type 0
Crashes simulator way true after = (0 < way.crashes_left) × (crash_reply way.room simulator ≡ crash_replies.Crashed) × (after ≡ with_crash way simulator)
Crashes simulator way false after = ((way.crashes_left ≡ 0) ⊎ (crash_reply way.room simulator ≢ crash_replies.Crashed)) × (after ≡ way)

-- if the simulator has entered an agreement, it crashes before it takes another step, or it passes over this one
abbrev pub fuse_after : ℕ → Bool → Fuse
fuse_after zero true = After 0
fuse_after (suc others) true = Inside others
fuse_after others false = Inside others

-- a simulator with this fuse acts, for up to `most` steps; its fuse after that, and whether it may act again
pub data Acts (simulator most : ℕ) (way : Way) : Fuse → Fuse → Way → Bool → Type 0 where
  unburnt : (taken : ℕ) (after : Way) → Walks simulator most taken way after → Acts simulator most way Never Never after (taken == most)
  burnt : (crashed : Bool) (after : Way) → Crashes simulator way crashed after → Acts simulator most way (After 0) Never after (not crashed)
  burning : (left taken : ℕ) (after : Way) → 0 < left → Walks simulator (min most left) taken way after → Acts simulator most way (After left) (After (left - taken)) after (taken == min most left)
  aimed : (others taken : ℕ) (entered : Bool) (after : Way) → WalksInto simulator most taken way after entered → Acts simulator most way (Inside others) (fuse_after others entered) after (entered || (taken == most))

-- the schedule of a room on its way has led to it
pub record IsScheduled (spec : RoomSpec) (crashes : ℕ) (way : Way) : Type 0 where
  pub may_come : IsSchedule (opening_state spec) way.schedule
  pub leads : room_after_schedule (opening_state spec) way.schedule ≡ way.room
  pub few : crashes_in way.schedule + way.crashes_left ≤ crashes

-- ---- a schedule

-- one of those that may act is picked, and for how many steps; if it may not act again it is struck off
pub record Draws (style : Style) (way : Way) (active : List Active) (random : Stream) (after : Way) (active' : List Active) (random' : Stream) : Type 0 where
  pub at : ℕ
  pub most : ℕ
  pub picked : Stream
  pub measured : Stream
  pub next : IsPicked style active random at picked
  pub long : (most, measured) ≡ length_from picked
  pub some : 1 ≤ most
  pub short : most ≤ most_drawn
  pub one : Active
  pub there : slice_get active at ≡ Some one
  pub fuse : Fuse
  pub stays : Bool
  pub acts : Acts one.simulator most way one.fuse fuse after stays
  pub rank : ℕ
  pub ranked : (rank, random') ≡ rank_from one.rank measured
  pub left : active' ≡ (if stays then slice_set active at (record { simulator = one.simulator; rank = rank; fuse = fuse }) else swap_remove (slice_set active at (record { simulator = one.simulator; rank = rank; fuse = fuse })) at (record { simulator = one.simulator; rank = rank; fuse = fuse }))

-- this many draws from a stream, of which the first say the style, lead to a room, those who may act there, and what is left of the stream
pub data IsLed (spec : RoomSpec) (crashes : ℕ) (random : Stream) : ℕ → Way → List Active → Stream → Type 0 where
  sets_out : (active : List Active) (later : Stream) → (active, later) ≡ active_from spec (style_from random).0 spec.simulators (style_from random).1 → IsLed spec crashes random 0 (opening_way spec crashes) active later
  goes_on : (draws : ℕ) (way after : Way) (active active' : List Active) (later random' : Stream) → IsLed spec crashes random draws way active later → Draws (style_from random).0 way active later after active' random' → IsLed spec crashes random (draws + 1) after active' random'

-- this many draws are made for a schedule at most
abbrev pub most_draws : ℕ
most_draws = 65536

-- this many draws lead there, of as many as are made at most; and none may act, or these are as many as are made
pub record IsThrough (spec : RoomSpec) (crashes : ℕ) (random : Stream) (way : Way) : Type 0 where
  pub draws : ℕ
  pub few : draws ≤ most_draws
  pub active : List Active
  pub later : Stream
  pub led : IsLed spec crashes random draws way active later
  pub through : (active ≡ []) ⊎ (draws ≡ most_draws)
