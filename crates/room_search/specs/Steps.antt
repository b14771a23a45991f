-- The steps of a simulator by what it knows, on the words of a room of which only some are said.
use Rattle.std.specs.Prelude.{◌≡◌, ℕ, List, length, slice_index, ⊤}
use Rattle.room_spec.specs.Rooms.{RoomSpec}
use Rattle.room_spec.specs.Sizes.{sizes_in}
use Rattle.view_table.specs.Places.{words_of}
use Rattle.simulator.specs.declared.knowledge.Knowledge.{Knowledge}
use Rattle.simulator.specs.Knowing.{knowledge_of, mind_of}
use Rattle.simulator.specs.Moves.{IsOperation, move_of}
use Rattle.simulator.specs.Ranges.{IsMind}
use Rattle.room_core.specs.Rooms.{taken_from, words_by}
use Rattle.room_search.specs.declared.shown.Said.{Said}
use Rattle.room_search.specs.declared.local.Local.{Local}
use Rattle.room_search.specs.declared.stepping.Next.{Next}
use Rattle.room_search.specs.declared.stepping.Next.TheVariants.{Nothing, Lost, To}
use Rattle.room_search.specs.declared.stepping.Stepped.{Stepped}
use Rattle.room_search.specs.Saying.{DoSay, IsOwn, IsWordOf}

-- a simulator of the room can know this
abbrev pub IsKnowledge : RoomSpec → Knowledge → Type 0
IsKnowledge spec known = IsMind spec (mind_of known)

-- as many words as the room has
abbrev pub AreWords : RoomSpec → List ℕ → Type 0
AreWords spec words = length words ≡ words_of (sizes_in spec)

-- a simulator of the room can know this, and says something of its words
pub record IsLocal (spec : RoomSpec) (local : Local) : Type 0 where
  pub known : IsKnowledge spec local.known
  pub own : AreWords spec local.own.items

-- it has a step to take, as long as turns are left
abbrev pub HasStep : RoomSpec → Knowledge → Type 0
HasStep spec known = IsOperation (move_of spec (mind_of known))

-- what it knows after this step
abbrev pub known_after : RoomSpec → List ℕ → Knowledge → Knowledge
known_after spec words known = knowledge_of (taken_from spec (mind_of known) words).mind

-- and the words after it
abbrev pub words_after : RoomSpec → List ℕ → Knowledge → List ℕ
words_after spec words known = words_by spec (mind_of known) words

-- ---- what is said by a node and by one simulator together

-- both say what the words are
pub record DoBothSay (said : Said) (words : List ℕ) : Type 0 where
  pub shown : DoSay said.shown.items words
  pub own : DoSay said.own.items words

-- as many numbers as the room has words
pub record AreSaid (spec : RoomSpec) (said : Said) : Type 0 where
  pub shown : AreWords spec said.shown.items
  pub own : AreWords spec said.own.items

-- Nothing is said that wasn't said, whatever of it the node says now, and what the simulator.
pub record SaysNoMore (spec : RoomSpec) (old new : Said) : Type 0 where
  pub are : AreSaid spec old → AreSaid spec new
  pub same : (words : List ℕ) → DoBothSay old words → DoBothSay new words
  pub own : (i : ℕ) → IsOwn spec i old.own.items → IsOwn spec i new.own.items

-- ---- steps

-- the local state after a step
abbrev pub local_of : Stepped → Local
local_of stepped = record { known = stepped.known; own = stepped.said.own }

-- a step from these words: what the simulator knows then, and what is said of the words after it
pub record IsStepOn (spec : RoomSpec) (known : Knowledge) (words : List ℕ) (stepped : Stepped) : Type 0 where
  pub known_is : stepped.known ≡ known_after spec words known
  pub said : DoBothSay stepped.said (words_after spec words known)

-- This comes of a step of simulator i, whatever the words are of which that is said. The words of the others stay.
pub record IsStepOf (spec : RoomSpec) (said : List ℕ) (i : ℕ) (local : Local) (stepped : Stepped) : Type 0 where
  pub has : HasStep spec local.known
  pub on : (words : List ℕ) → AreWords spec words → DoSay said words → DoSay local.own.items words → IsStepOn spec local.known words stepped
  pub own : IsOwn spec i local.own.items → IsOwn spec i stepped.said.own.items
  pub stays : (q at : ℕ) (words : List ℕ) → (q ≡ i → ⊥) → IsWordOf spec q at → slice_index (words_after spec words local.known) at ≡ slice_index words at
  pub is_known : IsKnowledge spec stepped.known
  pub are : AreSaid spec stepped.said

-- what comes of its next step, if it has one and all that it loads is said
abbrev pub IsNext : RoomSpec → List ℕ → ℕ → Local → Next → Type 0
IsNext spec said i local Nothing = HasStep spec local.known → ⊥
IsNext spec said i local Lost = ⊤
IsNext spec said i local (To stepped) = IsStepOf spec said i local stepped

-- what the simulator knows after the step, and what is said then, are of the room
abbrev pub IsWithinNext : RoomSpec → Next → Type 0
IsWithinNext spec Nothing = ⊤
IsWithinNext spec Lost = ⊤
IsWithinNext spec (To stepped) = IsKnowledge spec stepped.known × AreSaid spec stepped.said
