-- The numbers that a room's memory depends on.
use Rattle.std.specs.Prelude.{◌≤◌, ◌<◌, ℕ, ◌+◌, ◌-◌, ◌*◌, ◌/◌, Bool, if◌then◌else◌}
use Rattle.room_spec.specs.Rooms.{RoomSpec, IsShape, bits_of, is_reduction, processes}
use Rattle.room_spec.specs.declared.spec.TheConstants.{MAX_MEMORY_WORDS}

-- how many processes and simulators a room has, how many binary digits a step number has, how often a process may write, and
-- whether the simulators agree on the inputs first
pub record Sizes : Type 0 where
  pub n : ℕ
  pub m : ℕ
  pub bits : ℕ
  pub rounds : ℕ
  pub reduction : Bool

-- The first round in which simulators agree. On the snapshots of the processes they agree in the rounds from 1 on; in a reduction
-- they agree on the inputs before, in a round numbered 0.
abbrev pub first_of : Bool → ℕ
first_of reduction = if reduction then 0 else 1

-- within the limits of every room
abbrev pub AreSizes : Sizes → Type 0
AreSizes sizes = IsShape sizes.n sizes.m sizes.bits sizes.rounds

-- those of a room
abbrev pub sizes_in : RoomSpec → Sizes
sizes_in spec = record { n = processes spec; m = spec.simulators; bits = bits_of spec.rounds; rounds = spec.rounds; reduction = is_reduction spec }

-- ---- the memory words, which hold the step numbers of all simulators; none of these lies across two words

-- how many step numbers a word holds
abbrev pub fields_in_word : Sizes → ℕ
fields_in_word sizes = 64 / sizes.bits

-- the least number of words that have room for all step numbers
unfoldable pub memory_words : Sizes → ℕ
memory_words sizes = (sizes.m * sizes.n + (fields_in_word sizes - 1)) / fields_in_word sizes

-- what that number means: it has room, one less hasn't, and it is 1 to 4
pub record AreMemoryWords (sizes : Sizes) : Type 0 where
  pub room : sizes.m * sizes.n ≤ memory_words sizes * fields_in_word sizes
  pub least : (memory_words sizes - 1) * fields_in_word sizes < sizes.m * sizes.n
  pub some : 1 ≤ memory_words sizes
  pub few : memory_words sizes ≤ MAX_MEMORY_WORDS
  pub fields : 1 ≤ fields_in_word sizes
  pub bits : fields_in_word sizes * sizes.bits ≤ 64
