-- Where steps lead, by numbers.
use Rattle.std.specs.Prelude.{◌≡◌, ℕ, ◌<◌, List, [], ◌∷◌, length, Some, slice_get, ⊤}
use Rattle.std.specs.Global.{Vec}
use Rattle.room_spec.specs.Rooms.{RoomSpec}
use Rattle.room_search.specs.declared.local.Local.{Local}
use Rattle.room_search.specs.declared.moves.Lead.{Lead}
use Rattle.room_search.specs.declared.moves.Lead.TheVariants.{Nothing, Lost, To}
use Rattle.room_search.specs.declared.moves.Moves.{Moves}
use Rattle.room_search.specs.declared.moves.Situation.{Situation}
use Rattle.room_search.specs.declared.stepping.Stepped.{Stepped}
use Rattle.room_search.specs.Nodes.{AreLocals, Grows, IsNumberOf}
use Rattle.room_search.specs.Steps.{AreWords, HasStep, IsStepOf, local_of}

-- the number is that of what is said
pub record IsSaidAt (all : List (Vec ℕ)) (number : ℕ) (said : List ℕ) : Type 0 where
  pub one : Vec ℕ
  pub is : slice_get all number ≡ Some one
  pub same : one.items ≡ said

-- This comes of a step of simulator i from a local state, where that is said: what is said then, and the simulator's local state then, by their numbers.
pub record IsStepTo (spec : RoomSpec) (all : List (Vec ℕ)) (table : List Local) (said : List ℕ) (i : ℕ) (local : Local) (to number : ℕ) : Type 0 where
  pub stepped : Stepped
  pub step : IsStepOf spec said i local stepped
  pub said_is : IsSaidAt all to stepped.said.shown.items
  pub number_is : IsNumberOf table (local_of stepped) number

-- where its next step leads, if it has one and all that it loads is said
abbrev pub IsLeadOf : RoomSpec → List (Vec ℕ) → List Local → List ℕ → ℕ → Local → Lead → Type 0
IsLeadOf spec all table said i local Nothing = HasStep spec local.known → ⊥
IsLeadOf spec all table said i local Lost = ⊤
IsLeadOf spec all table said i local (To to number) = IsStepTo spec all table said i local to number

-- so it is in this situation
abbrev pub IsLead : RoomSpec → List (Vec ℕ) → List Local → Situation → Lead → Type 0
IsLead spec all table from lead = (said : List ℕ) (local : Local) → IsSaidAt all from.said said → slice_get table from.number ≡ Some local → IsLeadOf spec all table said from.simulator local lead

-- its numbers are of what there is
abbrev pub IsWithinLead : List (Vec ℕ) → List Local → Lead → Type 0
IsWithinLead all table Nothing = ⊤
IsWithinLead all table Lost = ⊤
IsWithinLead all table (To to number) = (to < length all) × (number < length table)

-- a situation that was met, and where its next step leads
pub record IsKnownLead (spec : RoomSpec) (all : List (Vec ℕ)) (table : List Local) (entry : Situation × Lead) : Type 0 where
  pub said : entry.0.said < length all
  pub number : entry.0.number < length table
  pub lead : IsLead spec all table entry.0 entry.1
  pub within : IsWithinLead all table entry.1

-- each of some entries is so
abbrev pub AreEach : {A : Type 0} → (A → Type 0) → List A → Type 0
AreEach is [] = ⊤
AreEach is (one ∷ more) = is one × AreEach is more

-- what moves have so far
pub record AreMoves (spec : RoomSpec) (moves : Moves) : Type 0 where
  pub said : (number : ℕ) (one : Vec ℕ) → slice_get moves.said.keys number ≡ Some one → AreWords spec one.items
  pub locals : AreLocals spec moves.table.keys
  pub leads : AreEach (IsKnownLead spec moves.said.keys moves.table.keys) moves.leads.entries

-- they have only grown
pub record GoOn (spec : RoomSpec) (old new : Moves) : Type 0 where
  pub are : AreMoves spec new
  pub table : Grows old.table.keys new.table.keys
  pub said : Grows old.said.keys new.said.keys
