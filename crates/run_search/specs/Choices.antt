-- Choices: how each process of a node may end, with how few events, and what they lead to together.
use Rattle.std.specs.Prelude.{◌≡◌, ℕ, zero, suc, ◌+◌, ◌<◌, ◌≤◌, true, List, [], ◌∷◌, ◌++◌, length}
use Rattle.std.specs.List.{Contains, count_by}
use Rattle.std.specs.Global.{Vec}
use Rattle.room_spec.specs.Rooms.{RoomSpec}
use Rattle.run_search.specs.declared.choice.Choice.{Choice}
use Rattle.run_search.specs.declared.ended.Ended.{Ended}
use Rattle.run_search.specs.declared.local_state.LocalState.{LocalState}
use Rattle.run_search.specs.declared.tally.Witness.{Witness}
use Rattle.run_search.specs.Nodes.{Node, set_of}
use Rattle.run_search.specs.Outcomes.{Ends, IsEndOf, IsNoted, ended, is_stopped}
use Rattle.run_search.specs.States.{events_of}

-- one of the local states ends so, with this number of events
pub record IsChoice (set : List LocalState) (choice : Choice) : Type 0 where
  pub local : LocalState
  pub there : Contains set local
  pub end_is : ended local.due ≡ choice.end
  pub events_are : events_of local ≡ choice.events

-- by one of the choices the process ends so, with no more events
pub record HasChoice (choices : List Choice) (process : ℕ) (end : Ended) (events : ℕ) : Type 0 where
  pub choice : Choice
  pub among : Contains choices choice
  pub process_is : choice.process ≡ process
  pub end_is : choice.end ≡ end
  pub few : choice.events ≤ events

-- each of the choices is among the others, with no more events there
abbrev pub AreWithin : List Choice → List Choice → Type 0
AreWithin choices others = (choice : Choice) → Contains choices choice → HasChoice others choice.process choice.end choice.events

-- a process may stop only if some may
abbrev pub MayEnd : ℕ → Ended → Type 0
MayEnd crashes end = is_stopped end ≡ true → 0 < crashes

-- the choices of the first processes of a node
pub record AreChoices (crashes : ℕ) (node : Node) (count : ℕ) (choices : List Choice) : Type 0 where
  pub each : (choice : Choice) → Contains choices choice → IsChoice (set_of node choice.process) choice
  pub all : (p : ℕ) (local : LocalState) → p < count → Contains (set_of node p) local → MayEnd crashes (ended local.due) → HasChoice choices p (ended local.due) (events_of local)

-- with one choice for each of this number of further processes, the ends of the first processes become those of all, and their events this sum
abbrev pub Completes : List Choice → ℕ → List Ended → ℕ → List Ended → ℕ → Type 0
Completes choices zero ends events last sum = (ends ≡ last) × (events ≡ sum)
Completes choices (suc rest) ends events last sum =
    (choice : Choice) × Contains choices choice × (choice.process ≡ length ends) × Completes choices rest (ends ++ choice.end ∷ []) (events + choice.events) last sum

-- so it is of the ends and events of all that these choices lead to, if at most `left` more processes stop
abbrev pub Each : (List Ended → ℕ → Type 0) → ℕ → List Choice → List Ended → ℕ → ℕ → Type 0
Each P count choices ends events left =
    (rest : ℕ) (last : List Ended) (sum : ℕ) → length ends + rest ≡ count → Completes choices rest ends events last sum → count_by is_stopped last ≤ count_by is_stopped ends + left → P last sum

-- these ends and events are those of a state that the node covers
abbrev pub IsEndAt : RoomSpec → List Node → ℕ → ℕ → List Ended → ℕ → Type 0
IsEndAt spec nodes crashes index ends events = IsEndOf spec nodes crashes (record { items = ends }) (record { node = index; events = events })

-- what the choices of each of these nodes lead to is noted
abbrev pub AreSeen : ℕ → ℕ → List (Vec Choice) → List Ends → List Witness → Type 0
AreSeen count crashes seen outcomes witnesses = (choices : Vec Choice) → Contains seen choices → Each (IsNoted outcomes witnesses) count choices.items [] 0 crashes
