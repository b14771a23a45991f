-- Outcomes in groups: which simulator holds a process makes no difference.
use Rattle.std.specs.Prelude.{◌≡◌, ℕ, Bool, List, [], ◌∷◌, Some, map, slice_get, ⊤, if◌then◌else◌}
use Rattle.std.specs.List.{All, count_by, fold, sum_by}
use Rattle.arrayvec.specs.declared.array_vec.ArrayVec.{ArrayVec}
use Rattle.ws_history.specs.declared.states.ProcessState.{ProcessState}
use Rattle.ws_history.specs.declared.states.ProcessState.TheVariants.{Decided, Spent, Held, Going}
use Rattle.room_sample.specs.Parts.{more_times}
use Rattle.room_sample.specs.Samples.{Counted, same_states}

-- the state of a process, whichever simulator holds it
abbrev pub without_holder : ProcessState → ProcessState
without_holder (Decided v) = Decided v
without_holder Spent = Spent
without_holder (Held i) = Held 0
without_holder Going = Going

abbrev pub without_holders : List ProcessState → List ProcessState
without_holders states = map without_holder states

-- two outcomes are of one group if they differ at most in which simulators hold
abbrev pub are_alike : Counted → Counted → Bool
are_alike one other = same_states (without_holders one.states) (without_holders other.states)

-- an outcome joins its group, or begins one
abbrev pub joined : Counted → List Counted → List Counted
joined one [] = one ∷ []
joined one (group ∷ groups) = if are_alike one group then more_times one.times group ∷ groups else group ∷ joined one groups

-- the groups, in the order in which each came first: the first outcome of each, as often as all of its outcomes came
abbrev pub grouped : List Counted → List Counted
grouped outcomes = fold (λ groups one. joined one groups) [] outcomes

abbrev pub grouped_if : Bool → List Counted → List Counted
grouped_if group outcomes = if group then grouped outcomes else outcomes

-- how often an outcome came if it is of the group of another
abbrev pub times_in : Counted → Counted → ℕ
times_in group one = if are_alike group one then one.times else 0

-- an outcome is shown as one of these
abbrev pub IsShownAs : List Counted → Counted → Type 0
IsShownAs outcomes group = (k : ℕ) × (one : Counted) × (slice_get outcomes k ≡ Some one) × (group.states ≡ one.states) × (group.first ≡ one.first)

-- Each outcome is in one group and in no other. A group is shown as one of the outcomes, and came as often as those of the group together. All groups
-- together came as often as all outcomes.
pub record AreGroups (outcomes groups : List Counted) : Type 0 where
  pub once : All (λ one. count_by (are_alike one) groups ≡ 1) outcomes
  pub shown : All (IsShownAs outcomes) groups
  pub times : (one : Counted) → sum_by (times_in one) groups ≡ sum_by (times_in one) outcomes
  pub total : sum_by (λ one. one.times) groups ≡ sum_by (λ one. one.times) outcomes

-- ---- how they are kept

-- the states of each group, whichever simulators hold
abbrev pub ArePatterns : List Counted → List (ArrayVec ProcessState 16 (Unit {0})) → Type 0
ArePatterns [] [] = ⊤
ArePatterns (group ∷ groups) (pattern ∷ patterns) = (pattern.items ≡ without_holders group.states) × ArePatterns groups patterns
ArePatterns [] (pattern ∷ patterns) = ⊥
ArePatterns (group ∷ groups) [] = ⊥
