-- A search on its way.
use Rattle.std.specs.Prelude.{◌≡◌, ℕ, ◌<◌, Bool, false, List}
use Rattle.std.specs.List.{Contains}
use Rattle.room_spec.specs.Rooms.{RoomSpec}
use Rattle.room_search.specs.declared.explored.Explored.{Explored}
use Rattle.room_search.specs.declared.local.Local.{Local}
use Rattle.room_search.specs.Moving.{AreMoves, GoOn}
use Rattle.room_search.specs.Nodes.{AreIn, AreNodes, Grows, IsNode, Node, set_of}

-- what a search has so far
pub record IsSearched (spec : RoomSpec) (explored : Explored) : Type 0 where
  pub moves : AreMoves spec explored.moves
  pub nodes : AreNodes spec explored.moves.table.keys explored.nodes.items

-- a step that was lost once stays so
abbrev pub StaysLost : Bool → Bool → Type 0
StaysLost old new = new ≡ false → old ≡ false

-- it goes on: there may be more of everything, and it is one still
pub record GoesFurther (spec : RoomSpec) (old new : Explored) : Type 0 where
  pub searched : IsSearched spec new
  pub moves : GoOn spec old.moves new.moves
  pub nodes : Grows old.nodes.items new.nodes.items
  pub lost : StaysLost old.lost new.lost

-- This node comes of a step of simulator i, after which this is said and its local state has this number.
pub record IsMade (spec : RoomSpec) (table : List Local) (node : Node) (i : ℕ) (said : List ℕ) (number : ℕ) (to : Node) : Type 0 where
  pub is : IsNode spec table to
  pub says : to.said ≡ said
  pub own : Contains (set_of to i) number
  pub others : (q : ℕ) → q < spec.simulators → (q ≡ i → ⊥) → AreIn (set_of node q) (set_of to q)
