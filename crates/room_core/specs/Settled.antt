-- What has become of a process in a room that has settled, and of its simulators.
use Rattle.std.specs.Prelude.{◌≡◌, ℕ, ◌+◌, ◌<◌, ◌≤◌, Bool, true, false, List, ◌==◌, ◌&&◌}
use Rattle.std.specs.List.{filter, list_any, range_with_len}
use Rattle.protocol_lang.specs.declared.meaning.Action.{Action}
use Rattle.protocol_lang.specs.declared.meaning.Action.TheVariants.{Write, Decide}
use Rattle.room_spec.specs.Rooms.{RoomSpec, is_reduction, processes}
use Rattle.simulator.specs.declared.goal.Goal.TheVariants as goals
use Rattle.simulator.specs.Minds.{goal_at, is_unfinished}
use Rattle.room_core.specs.Fields.{Fields}
use Rattle.room_core.specs.Agreements.{asks, has_out, is_resolved, is_fixed}

-- It has decided; or it has made all its writes, and its last snapshot asks for one more; or a simulator has crashed inside an
-- agreement on one of its snapshots, or in a reduction on its input.
pub data IsSettledFor (spec : RoomSpec) (fields : Fields) (j : ℕ) : Type 0 where
  decided : has_out spec fields j ≡ true → IsSettledFor spec fields j
  spent : (value : ℕ) → is_resolved spec fields j spec.rounds ≡ true → asks spec fields j spec.rounds ≡ Write value → IsSettledFor spec fields j
  held : (i k : ℕ) → i < spec.simulators → fields.crashed i ≡ true → 1 ≤ k → k ≤ spec.rounds → fields.level i j k ≡ 1 → IsSettledFor spec fields j
  held_input : (i : ℕ) → is_reduction spec ≡ true → i < spec.simulators → fields.crashed i ≡ true → fields.level i j 0 ≡ 1 → IsSettledFor spec fields j

-- It has decided, or a simulator has crashed inside an agreement on one of its snapshots.
pub data IsDecidedOrHeld (spec : RoomSpec) (fields : Fields) (j : ℕ) : Type 0 where
  has_decided : has_out spec fields j ≡ true → IsDecidedOrHeld spec fields j
  is_held : (i k : ℕ) → i < spec.simulators → fields.crashed i ≡ true → 1 ≤ k → k ≤ spec.rounds → fields.level i j k ≡ 1 → IsDecidedOrHeld spec fields j

-- Some simulator that hasn't crashed has a turn left.
pub record HasTurnLeft (spec : RoomSpec) (fields : Fields) : Type 0 where
  pub simulator : ℕ
  pub below : simulator < spec.simulators
  pub alive : fields.crashed simulator ≡ false
  pub turns : (fields.mind simulator).turns < spec.turns

-- ---- processes that are blocked

-- simulator i is at level 1 in an agreement on process j: in the round 0 on its input, and in the others on a snapshot
abbrev pub is_inside_any : RoomSpec → Fields → ℕ → ℕ → Bool
is_inside_any spec fields i j = list_any (λ k. fields.level i j k == 1) (range_with_len 0 (spec.rounds + 1))

-- a simulator has crashed there
abbrev pub is_blocked : RoomSpec → Fields → ℕ → Bool
is_blocked spec fields j = list_any (λ i. fields.crashed i && is_inside_any spec fields i j) (range_with_len 0 spec.simulators)

abbrev pub blocked_in : RoomSpec → Fields → List ℕ
blocked_in spec fields = filter (is_blocked spec fields) (range_with_len 0 (processes spec))

-- ---- processes that are out of rounds

abbrev pub is_write : Action → Bool
is_write (Write value) = true
is_write (Decide decision) = false

-- what was agreed on in the last round of process j asks for a write
abbrev pub is_out_of_rounds : RoomSpec → Fields → ℕ → Bool
is_out_of_rounds spec fields j = is_fixed spec fields j spec.rounds && is_write (asks spec fields j spec.rounds)

abbrev pub out_of_rounds_in : RoomSpec → Fields → List ℕ
out_of_rounds_in spec fields = filter (is_out_of_rounds spec fields) (range_with_len 0 (processes spec))

-- ---- simulators

-- the simulators that have crashed, in order
abbrev pub crashed_in : RoomSpec → Fields → List ℕ
crashed_in spec fields = filter fields.crashed (range_with_len 0 spec.simulators)

-- the processes for which simulator i has something left to do
abbrev pub unfinished_for : RoomSpec → Fields → ℕ → List ℕ
unfinished_for spec fields i = filter (λ j. is_unfinished (goal_at (fields.mind i).goals j)) (range_with_len 0 (processes spec))

-- As simulator i knows process j, it has decided; or it is out of rounds; or a simulator has crashed inside the agreement on the snapshot, or in a
-- reduction on the input, that simulator i waits for.
pub data IsSettledInMind (spec : RoomSpec) (fields : Fields) (i j : ℕ) : Type 0 where
  mind_decided : goal_at (fields.mind i).goals j ≡ goals.Done → IsSettledInMind spec fields i j
  mind_spent : goal_at (fields.mind i).goals j ≡ goals.Spent → IsSettledInMind spec fields i j
  mind_waits : (a k : ℕ) → goal_at (fields.mind i).goals j ≡ goals.Ask k → a < spec.simulators → fields.crashed a ≡ true → 1 ≤ k → k ≤ spec.rounds → fields.level a j k ≡ 1 → IsSettledInMind spec fields i j
  mind_waits_for_input : (a : ℕ) → goal_at (fields.mind i).goals j ≡ goals.AskInput → a < spec.simulators → fields.crashed a ≡ true → fields.level a j 0 ≡ 1 → IsSettledInMind spec fields i j
