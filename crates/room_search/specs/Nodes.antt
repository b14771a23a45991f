-- Nodes: many rooms at once, of which the same is said.
use Rattle.std.specs.Prelude.{◌≡◌, ℕ, ◌<◌, Bool, false, List, [], ◌++◌, length, Some, slice_get, slice_index_or}
use Rattle.std.specs.List.{Contains}
use Rattle.room_spec.specs.Rooms.{RoomSpec}
use Rattle.simulator.specs.declared.knowledge.Knowledge.{Knowledge}
use Rattle.simulator.specs.Knowing.{knowledge_of}
use Rattle.room_core.specs.Rooms.{Configuration, crashed_at, mind_at}
use Rattle.room_search.specs.Continuing.{Continues}
use Rattle.room_search.specs.declared.local.Local.{Local}
use Rattle.room_search.specs.Saying.{DoSay, IsOwn, IsWordOf}
use Rattle.room_search.specs.Steps.{AreWords, HasStep, IsLocal, known_after, words_after}

-- What is said of the words of a room, and for each simulator numbers of the local states in which it may be while that stays so. A number is a place in a table.
pub record Node : Type 0 where
  pub said : List ℕ
  pub sets : List (List ℕ)

abbrev pub set_of : Node → ℕ → List ℕ
set_of node i = slice_index_or node.sets i []

-- simulator i may be in this local state in the node
pub record MayBe (table : List Local) (node : Node) (i : ℕ) (local : Local) : Type 0 where
  pub number : ℕ
  pub there : Contains (set_of node i) number
  pub is : slice_get table number ≡ Some local

-- It may be in one with this knowledge, which says of its own words what they are.
pub record MayHave (spec : RoomSpec) (table : List Local) (node : Node) (i : ℕ) (known : Knowledge) (words : List ℕ) : Type 0 where
  pub local : Local
  pub may : MayBe table node i local
  pub known_is : local.known ≡ known
  pub own : DoSay local.own.items words
  pub is_own : IsOwn spec i local.own.items

-- the room is one of those of the node
pub record IsIn (table : List Local) (node : Node) (room : Configuration) : Type 0 where
  pub says : DoSay node.said room.words
  pub each : (i : ℕ) → i < room.spec.simulators → MayHave room.spec table node i (knowledge_of (mind_at room i)) room.words

-- A step of simulator i, from a local state in the node, leads to this node, whatever the words are that are not said: it says what they are after the step, of the
-- simulator as well, and the other simulators may be where they were. No word of theirs has changed.
pub record IsAfter (spec : RoomSpec) (table : List Local) (node : Node) (i : ℕ) (local : Local) (to : Node) : Type 0 where
  pub says : (words : List ℕ) → AreWords spec words → DoSay node.said words → DoSay local.own.items words → DoSay to.said (words_after spec words local.known)
  pub has : (words : List ℕ) → AreWords spec words → DoSay node.said words → DoSay local.own.items words → IsOwn spec i local.own.items → MayHave spec table to i (known_after spec words local.known) (words_after spec words local.known)
  pub others : (q : ℕ) (other : Local) → q < spec.simulators → (q ≡ i → ⊥) → MayBe table node q other → MayBe table to q other
  pub stays : (q at : ℕ) (words : List ℕ) → (q ≡ i → ⊥) → IsWordOf spec q at → slice_index_or (words_after spec words local.known) at 0 ≡ slice_index_or words at 0

-- it leads to one of these nodes, if no step was lost
abbrev pub Leads : RoomSpec → List Local → List Node → Bool → Node → ℕ → Local → Type 0
Leads spec table nodes lost node i local = HasStep spec local.known → lost ≡ false → (to : Node) × Contains nodes to × IsAfter spec table node i local to

-- so does each step of each simulator from the node, but for those that had crashed in the first room
abbrev pub LeadsInside : RoomSpec → Configuration → List Local → List Node → Bool → Node → Type 0
LeadsInside spec start table nodes lost node = (i : ℕ) (local : Local) → i < spec.simulators → crashed_at start i ≡ false → MayBe table node i local → Leads spec table nodes lost node i local

-- some node has the room
abbrev pub HaveRoom : List Local → List Node → Configuration → Type 0
HaveRoom table nodes room = (node : Node) × Contains nodes node × IsIn table node room

-- some node has the first room, and no step leads out of these nodes
pub record AreComplete (spec : RoomSpec) (start : Configuration) (table : List Local) (nodes : List Node) : Type 0 where
  pub first : HaveRoom table nodes start
  pub closed : (i : ℕ) (node : Node) → slice_get nodes i ≡ Some node → LeadsInside spec start table nodes false node

-- each room that some list of atomic steps and crashes leads to from this one is in one of these nodes
abbrev pub CoverAllRooms : Configuration → List Local → List Node → Type 0
CoverAllRooms start table nodes = (room : Configuration) → Continues start room → HaveRoom table nodes room

-- ---- how nodes are made

-- a table or a list has only grown, at its end
abbrev pub Grows : {A : Type 0} → List A → List A → Type 0
Grows {A} old new = (more : List A) × (new ≡ old ++ more)

-- each of one list of numbers is in the other
abbrev pub AreIn : List ℕ → List ℕ → Type 0
AreIn some all = (number : ℕ) → Contains some number → Contains all number

-- all that one node has, another has
pub record IsBelow (node above : Node) : Type 0 where
  pub said : above.said ≡ node.said
  pub sets : (i : ℕ) → AreIn (set_of node i) (set_of above i)

-- all in the table are local states of simulators of the room
abbrev pub AreLocals : RoomSpec → List Local → Type 0
AreLocals spec table = (number : ℕ) (local : Local) → slice_get table number ≡ Some local → IsLocal spec local

-- two local states are the same
pub record AreAlike (one other : Local) : Type 0 where
  pub known : one.known ≡ other.known
  pub own : one.own.items ≡ other.own.items

-- the number is that of a local state
pub record IsNumberOf (table : List Local) (local : Local) (number : ℕ) : Type 0 where
  pub one : Local
  pub is : slice_get table number ≡ Some one
  pub alike : AreAlike one local

-- each number is one of the table
abbrev pub AreNumbers : List Local → List ℕ → Type 0
AreNumbers table set = (number : ℕ) → Contains set number → number < length table

-- each node says something of the words of the room, and has sets of numbers of the table for its simulators
pub record IsNode (spec : RoomSpec) (table : List Local) (node : Node) : Type 0 where
  pub words : AreWords spec node.said
  pub width : length node.sets ≡ spec.simulators
  pub numbers : (i : ℕ) → i < spec.simulators → AreNumbers table (set_of node i)

abbrev pub AreNodes : RoomSpec → List Local → List Node → Type 0
AreNodes spec table nodes = (index : ℕ) (node : Node) → slice_get nodes index ≡ Some node → IsNode spec table node

-- Each step of simulator i leads inside, from the local state of the number of this place.
abbrev pub LeadsAt : RoomSpec → List Local → List Node → Bool → Node → ℕ → ℕ → Type 0
LeadsAt spec table nodes lost node i place = (number : ℕ) (local : Local) → slice_get (set_of node i) place ≡ Some number → slice_get table number ≡ Some local → Leads spec table nodes lost node i local

-- the sets of the first simulators in a node after a step of one of them, whose local state has this number then
pub record AreSetsAfter (spec : RoomSpec) (table : List Local) (node : Node) (simulator number : ℕ) (count : ℕ) (sets : List (List ℕ)) : Type 0 where
  pub width : length sets ≡ count
  pub numbers : (i : ℕ) → i < count → AreNumbers table (slice_index_or sets i [])
  pub own : simulator < count → Contains (slice_index_or sets simulator []) number
  pub others : (i : ℕ) → i < count → (i ≡ simulator → ⊥) → AreIn (set_of node i) (slice_index_or sets i [])
