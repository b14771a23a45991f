-- What a room is given when it is made, and how large it may be.
use Rattle.std.specs.Prelude.{◌≡◌, ℕ, ◌*◌, ◌<◌, ◌≤◌, Bool, true, false, List, [], ◌∷◌, length, map, replicate, Option, Some, None, nat_eq, nat_le, nat_lt, ◌==◌, if◌then◌else◌, ⊤}
use Rattle.std.specs.List.{IsDistinct, find, list_all}
use Rattle.std.specs.Option.{option_map}
use Rattle.protocol_lang.specs.Numbers.{greatest}
use Rattle.protocol_lang.specs.Limits.{HasSmallNumerals}
use Rattle.protocol_lang.specs.declared.protocol.Protocol.{Protocol}
use Rattle.protocol_lang.specs.Thresholds.{waits_for_all_but}
use Rattle.room_spec.specs.Names.{is_name}
use Rattle.room_spec.specs.declared.version.Version.{Version}
use Rattle.room_spec.specs.declared.version.Version.TheVariants.{One, Two}
use Rattle.protocol_lang.specs.declared.meaning.TheConstants.{MAX_PROCESSES}
use Rattle.room_spec.specs.declared.spec.TheConstants.{MAX_AGREED, MAX_ROUNDS, MAX_SIMULATORS, MAX_TURNS}

-- The version of its block, the room's name, the input of each process, the simulators' own inputs, the number of simulators,
-- how often a process may write, how many turns each simulator has, how many different values its task lets the processes
-- decide, if it has one, the fuses, and the protocol. A fuse is a simulator and the number of steps after which it crashes; they
-- are in the order of their lines. In an ordinary room no simulator has an input of its own; a room in which they have is a
-- reduction.
pub record RoomSpec : Type 0 where
  pub version : Version
  pub name : List ℕ
  pub inputs : List ℕ
  pub own : List ℕ
  pub simulators : ℕ
  pub rounds : ℕ
  pub turns : ℕ
  pub task : Option ℕ
  pub fuses : List (ℕ × ℕ)
  pub protocol : Protocol

abbrev pub processes : RoomSpec → ℕ
processes spec = length spec.inputs

-- whether the simulators have inputs of their own
abbrev pub has_own : List ℕ → Bool
has_own [] = false
has_own (input ∷ inputs) = true

abbrev pub is_reduction : RoomSpec → Bool
is_reduction spec = has_own spec.own

-- the ordinary room with these inputs of its processes
abbrev pub with_inputs : RoomSpec → List ℕ → RoomSpec
with_inputs spec inputs = record spec { inputs = inputs; own = [] }

-- after how many steps a simulator crashes; nothing if it has no fuse
abbrev pub fuse_of : List (ℕ × ℕ) → ℕ → Option ℕ
fuse_of fuses simulator = option_map (λ fuse. fuse.1) (find (λ fuse. fuse.0 == simulator) fuses)

-- the binary digits of a step number, by the number of a room's rounds
abbrev pub bits_of : ℕ → ℕ
bits_of rounds = if nat_lt rounds 2 then 1 else if nat_lt rounds 4 then 2 else if nat_lt rounds 8 then 3 else 4

-- the numbers of processes, simulators and rounds of a room, and the width of a step number
pub record IsShape (n m bits rounds : ℕ) : Type 0 where
  pub n_range : (1 ≤ n) × (n ≤ MAX_PROCESSES)
  pub m_range : (1 ≤ m) × (m ≤ MAX_SIMULATORS)
  pub rounds_range : (1 ≤ rounds) × (rounds ≤ MAX_ROUNDS)
  pub width : bits ≡ bits_of rounds
  pub memory : m * n * bits ≤ 256

-- each fuse is that of a simulator, and of no two the same
pub record AreFuses (fuses : List (ℕ × ℕ)) (m : ℕ) : Type 0 where
  pub below : list_all (λ fuse. nat_lt fuse.0 m) fuses ≡ true
  pub distinct : IsDistinct nat_eq (map (λ fuse. fuse.0) fuses)

abbrev pub is_value : ℕ → Bool
is_value number = nat_le number greatest

-- how many bits all step numbers may take
abbrev pub most_bits : Version → ℕ
most_bits One = 64
most_bits Two = 256

-- a task lets 1 to 16 different values be decided; rooms of version 1 have none
abbrev pub IsTaskIn : Version → Option ℕ → Type 0
IsTaskIn version None = ⊤
IsTaskIn One (Some most) = ⊥
IsTaskIn Two (Some most) = (1 ≤ most) × (most ≤ MAX_AGREED)

-- The inputs that simulators have of their own are one each. They agree on the input of each process; one that isn't agreed on is
-- the first simulator's. Such a room has the limits of version 2.
abbrev pub AreOwn : List ℕ → Version → List ℕ → ℕ → Type 0
AreOwn [] version inputs simulators = ⊤
AreOwn (own ∷ others) version inputs simulators =
    (version ≡ Two) × (inputs ≡ replicate (length inputs) own) × (length {A = ℕ} (own ∷ others) ≡ simulators) × (list_all is_value (own ∷ others) ≡ true)

-- the limits of every room
pub record IsWithinLimits (spec : RoomSpec) : Type 0 where
  pub name : is_name spec.name ≡ true
  pub shape : IsShape (length spec.inputs) spec.simulators (bits_of spec.rounds) spec.rounds
  pub width : spec.simulators * length spec.inputs * bits_of spec.rounds ≤ most_bits spec.version
  pub turns : (1 ≤ spec.turns) × (spec.turns ≤ MAX_TURNS)
  pub task : IsTaskIn spec.version spec.task
  pub fuses : AreFuses spec.fuses spec.simulators
  pub values : list_all is_value spec.inputs ≡ true
  pub own : AreOwn spec.own spec.version spec.inputs spec.simulators
  pub numerals : HasSmallNumerals spec.protocol

-- By its protocol each process waits until it sees all but f of the room's processes, and then decides the least value; at least one is
-- left to wait for. No run decides more than f + 1 different values (Chaudhuri 1993).
pub record IsCertified (spec : RoomSpec) (f : ℕ) : Type 0 where
  pub protocol : spec.protocol ≡ waits_for_all_but f
  pub fewer : f < processes spec
