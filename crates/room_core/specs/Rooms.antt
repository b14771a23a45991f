-- A room as plain data: its words, the minds of its simulators, and which of them have crashed; what one atomic step or one
-- crash makes of it; and the rooms that some list of them leads to.
use Rattle.std.specs.Prelude.{◌≡◌, ℕ, suc, ◌<◌, Bool, true, false, List, [], ◌∷◌, length, map, replicate, slice_index_or, slice_set, ◌==◌, if◌then◌else◌, ⊤}
use Rattle.std.specs.List.{range_with_len}
use Rattle.room_spec.specs.Rooms.{RoomSpec, IsWithinLimits}
use Rattle.room_spec.specs.Sizes.{sizes_in}
use Rattle.view_table.specs.Places.{words_of}
use Rattle.simulator.specs.Minds.{MindState, opening_mind}
use Rattle.simulator.specs.Turns.{TakenOf}
use Rattle.simulator.specs.Moves.{move_of, taken, words_after, answer_of, IsOperation}
use Rattle.simulator.specs.Ranges.{IsMind}

pub record Configuration : Type 0 where
  pub spec : RoomSpec
  pub words : List ℕ
  pub minds : List MindState
  pub crashed : List Bool

abbrev pub opening : RoomSpec → Configuration
opening spec = record {
  spec = spec;
  words = replicate (words_of (sizes_in spec)) 0;
  minds = map (opening_mind spec) (range_with_len 0 spec.simulators);
  crashed = replicate spec.simulators false;
}

abbrev pub mind_at : Configuration → ℕ → MindState
mind_at room i = slice_index_or room.minds i (opening_mind room.spec i)

abbrev pub crashed_at : Configuration → ℕ → Bool
crashed_at room i = slice_index_or room.crashed i false

-- One atomic step: a mind's operation is done on the words, and the mind takes the answer in.
abbrev pub words_by : RoomSpec → MindState → List ℕ → List ℕ
words_by spec mind words = words_after (move_of spec mind) words

abbrev pub taken_from : RoomSpec → MindState → List ℕ → TakenOf (List ℕ)
taken_from spec mind words = taken spec mind (answer_of (move_of spec mind) words)

-- the room after one atomic step of simulator i
abbrev pub stepped : Configuration → ℕ → Configuration
stepped room i = record {
  spec = room.spec;
  words = words_by room.spec (mind_at room i) room.words;
  minds = slice_set room.minds i (taken_from room.spec (mind_at room i) room.words).mind;
  crashed = room.crashed;
}

-- after a crash of it
abbrev pub crashed_by : Configuration → ℕ → Configuration
crashed_by room i = record { spec = room.spec; words = room.words; minds = room.minds; crashed = slice_set room.crashed i true }

-- ---- lists of atomic steps and crashes

pub data ScheduleEvent : Type 0 where
  steps : (simulator : ℕ) → ScheduleEvent
  crashes : (simulator : ℕ) → ScheduleEvent

-- simulator i hasn't crashed
pub record IsAlive (room : Configuration) (i : ℕ) : Type 0 where
  pub below : i < room.spec.simulators
  pub alive : crashed_at room i ≡ false

-- and has an atomic step to take
pub record HasLine (room : Configuration) (i : ℕ) : Type 0 where
  pub alive : IsAlive room i
  pub moving : IsOperation (move_of room.spec (mind_at room i))

abbrev pub MayHappen : Configuration → ScheduleEvent → Type 0
MayHappen room (steps i) = HasLine room i
MayHappen room (crashes i) = IsAlive room i

abbrev pub after_event : Configuration → ScheduleEvent → Configuration
after_event room (steps i) = stepped room i
after_event room (crashes i) = crashed_by room i

abbrev pub replay : Configuration → List ScheduleEvent → Configuration
replay room [] = room
replay room (event ∷ schedule) = replay (after_event room event) schedule

-- each event may happen at its place
abbrev pub IsLegal : Configuration → List ScheduleEvent → Type 0
IsLegal room [] = ⊤
IsLegal room (event ∷ schedule) = MayHappen room event × IsLegal (after_event room event) schedule

-- One interleaving of the steps of its simulators, and of crashes after which the simulator takes no step, leads from the opening room to
-- this one.
pub record IsOneInterleaving (room : Configuration) : Type 0 where
  pub schedule : List ScheduleEvent
  pub legal : IsLegal (opening room.spec) schedule
  pub leads : replay (opening room.spec) schedule ≡ room

-- how often a simulator steps in a list
abbrev pub times : ℕ → List ScheduleEvent → ℕ
times i [] = 0
times i (steps j ∷ schedule) = if j == i then suc (times i schedule) else times i schedule
times i (crashes j ∷ schedule) = times i schedule

-- ---- what every such room keeps

pub record IsShaped (room : Configuration) : Type 0 where
  pub limits : IsWithinLimits room.spec
  pub words : length room.words ≡ words_of (sizes_in room.spec)
  pub minds : length room.minds ≡ room.spec.simulators
  pub crashed : length room.crashed ≡ room.spec.simulators
  pub each : (i : ℕ) → i < room.spec.simulators → IsMind room.spec (mind_at room i)
  pub numbers : (i : ℕ) → i < room.spec.simulators → (mind_at room i).number ≡ i

-- what the type of a room keeps
pub record IsRoom (room : Configuration) : Type 0 where
  pub run : IsOneInterleaving room
  pub shape : IsShaped room
