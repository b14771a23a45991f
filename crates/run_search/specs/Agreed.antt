-- The outcomes of a reduction: those of its protocol's runs from all vectors of inputs that are the simulators' own.
use Rattle.std.specs.Prelude.{◌≡◌, ℕ, zero, suc, ◌-◌, ◌/◌, ◌%◌, ◌^◌, ◌<◌, ◌≤◌, List, [], ◌∷◌, ◌++◌, length, Some, slice_get, slice_index}
use Rattle.std.specs.List.{Contains, sum_by}
use Rattle.room_spec.specs.Rooms.{RoomSpec, processes, with_inputs}
use Rattle.transcript.specs.Reductions.{AreFromOwn}
use Rattle.transcript.specs.Tasks.{different}
use Rattle.run_search.specs.declared.ended.Ended.{Ended}
use Rattle.run_search.specs.declared.reduction.Agreed.{Agreed}
use Rattle.run_search.specs.Limits.{AreTooMany}
use Rattle.run_search.specs.Nodes.{CoverAllReachable, Node}
use Rattle.run_search.specs.Outcomes.{IsFoundFor, IsRunOutcome, outcomes_in}

-- ---- the vectors of inputs

-- the different own inputs, in the order of the simulators that have them
abbrev pub own_values : RoomSpec → List ℕ
own_values spec = different spec.own

-- the vector of n of these values that has this index when all are in order: the last entry changes first
abbrev pub vector_at : List ℕ → ℕ → ℕ → List ℕ
vector_at values zero index = []
vector_at values (suc n) index = vector_at values n (index / length values) ++ slice_index values (index % length values) ∷ []

-- how many vectors of the simulators' own inputs there are, and that of an index
abbrev pub agreed_count : RoomSpec → ℕ
agreed_count spec = length (own_values spec) ^ processes spec

abbrev pub agreed_at : RoomSpec → ℕ → List ℕ
agreed_at spec index = vector_at (own_values spec) (processes spec) index

-- the ordinary room whose processes have these inputs
abbrev pub agreed_room : RoomSpec → ℕ → RoomSpec
agreed_room spec index = with_inputs spec (agreed_at spec index)

-- ---- outcomes

-- some run from inputs that are the simulators' own ends so, and at most `crashes` processes stop in it with something left to do
pub record IsAgreedOutcome (spec : RoomSpec) (crashes : ℕ) (outcome : List Ended) : Type 0 where
  pub inputs : List ℕ
  pub from_own : AreFromOwn spec inputs
  pub ends : IsRunOutcome (with_inputs spec inputs) crashes outcome

-- what was found from the vector of this index: its room, and all outcomes of the room's runs
pub record IsAgreed (spec : RoomSpec) (crashes index : ℕ) (agreed : Agreed) : Type 0 where
  pub room : agreed.room ≡ agreed_room spec index
  pub complete : (outcome : List Ended) → IsRunOutcome agreed.room crashes outcome → Contains (outcomes_in agreed.outcomes) outcome
  pub sound : (outcome : List Ended) → Contains (outcomes_in agreed.outcomes) outcome → IsRunOutcome agreed.room crashes outcome
  pub nodes : CoverAllReachable agreed.room agreed.outcomes.nodes
  -- it serves `transcript` and `breaking_run`
  pub found : IsFoundFor agreed.room agreed.outcomes

-- this was found from the vectors before this index, in their order
pub record AreAgreed (spec : RoomSpec) (crashes index : ℕ) (all : List Agreed) : Type 0 where
  pub count : length all ≡ index
  pub each : (i : ℕ) (agreed : Agreed) → slice_get all i ≡ Some agreed → IsAgreed spec crashes i agreed

-- from one of the vectors the outcome was found
pub record HasOutcome (all : List Agreed) (outcome : List Ended) : Type 0 where
  pub agreed : Agreed
  pub among : Contains all agreed
  pub there : Contains (outcomes_in agreed.outcomes) outcome

-- ---- limits

-- how many nodes were found in all
abbrev pub nodes_in : List Agreed → ℕ
nodes_in all = sum_by (λ agreed. length agreed.outcomes.nodes) all

-- these nodes cover the states of all runs from the vectors before this index
pub record CoverBefore (spec : RoomSpec) (index : ℕ) (nodes : List (List Node)) : Type 0 where
  pub count : length nodes ≡ index
  pub each : (i : ℕ) (own : List Node) → slice_get nodes i ≡ Some own → CoverAllReachable (agreed_room spec i) own

-- The nodes of the vectors before some vector are within the limit, and the room of that one has more than are left.
pub record AreTooManyAgreed (spec : RoomSpec) (limit : ℕ) : Type 0 where
  pub index : ℕ
  pub within : index < agreed_count spec
  pub nodes : List (List Node)
  pub before : CoverBefore spec index nodes
  pub used : sum_by (λ own. length own) nodes ≤ limit
  pub many : AreTooMany (agreed_room spec index) (limit - sum_by (λ own. length own) nodes)
