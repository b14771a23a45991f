-- Values that a task allows in all states of a node.
use Rattle.std.proofs.Common.{◌≡◌, ℕ, ◌+◌, ◌<◌, ◌≤◌, List, [], ◌∷◌, ◌++◌, length, get_or, take, Option, Some, None, sym, ap, ◌∙◌, subst, arith, inl, inr}
use Rattle.std.specs.List.{Contains, cons_option}
use Rattle.std.proofs.lemmas.Bool.{cases_eq}
use Rattle.std.proofs.lemmas.List.{append-nil, append_assoc, take_all, take_more}
use Rattle.std.proofs.lemmas.List.Elements.{Contains-append_left, Contains-append_right}
use Rattle.std.proofs.lemmas.Option.{get_or_from_slice_get, none-some, slice_get-get_or}
use Rattle.room_spec.specs.Rooms.{RoomSpec, processes}
use Rattle.transcript.specs.Tasks.{different}
use Rattle.transcript.proofs.CallerLemmas.{contains_in, in_contains}
use Rattle.run_search.specs.declared.local_state.Due.TheVariants.{Decided}
use Rattle.run_search.specs.declared.local_state.LocalState.{LocalState}
use Rattle.run_search.specs.Breaking.{IsLeastBreakingIn}
use Rattle.run_search.specs.Nodes.{Covers, Node, set_of}
use Rattle.run_search.specs.States.{blank}
use Rattle.run_search.specs.Tasks.{AreAllowed, AreFewInputs, decided_value, decided_values}
use Rattle.run_search.proofs.Answering.{values_push}
use Rattle.run_search.proofs.Deciding.{in_value, inputs_more, same_values, value_in}

-- the values so far
abbrev pub AreSo : RoomSpec → ℕ → List ℕ → List LocalState → List ℕ → ℕ → Type 0
AreSo spec most first set decided count = (values : List ℕ) → AreAllowed spec most first values → AreAllowed spec most decided (values ++ decided_values (take count set))

pub so_first : (spec : RoomSpec) (most : ℕ) (first : List ℕ) (set : List LocalState) → AreSo spec most first set first 0
so_first spec most first set values are = subst (AreAllowed spec most first) (sym (append-nil values)) are

pub so_more : (spec : RoomSpec) (most : ℕ) (first decided more : List ℕ) (set : List LocalState) (i : ℕ) → i < length set → AreSo spec most first set decided i
    → ((values : List ℕ) → AreAllowed spec most decided values → AreAllowed spec most more (values ++ cons_option (decided_value (get_or set i blank).due) [])) → AreSo spec most first set more (i + 1)
so_more spec most first decided more set i below before one values are =
    let last = cons_option (decided_value (get_or set i blank).due) [] in
    let parts : decided_values (take (i + 1) set) ≡ decided_values (take i set) ++ last = ap decided_values (take_more set i blank below) ∙ values_push (take i set) (get_or set i blank) in
    subst (AreAllowed spec most more) (append_assoc values (decided_values (take i set)) last ∙ ap (λ (l : List ℕ). values ++ l) (sym parts)) (one (values ++ decided_values (take i set)) (before values are))

pub so_all : (spec : RoomSpec) (most : ℕ) (first decided : List ℕ) (set : List LocalState) (count : ℕ) → length set ≤ count → AreSo spec most first set decided count → (values : List ℕ) → AreAllowed spec most first values → AreAllowed spec most decided (values ++ decided_values set)
so_all spec most first decided set count all so values are = subst (λ (l : List LocalState). AreAllowed spec most decided (values ++ decided_values l)) (take_all count set all) (so values are)

-- one value more
pub value_more : (spec : RoomSpec) (most : ℕ) (decided more values : List ℕ) (o : Option ℕ) (v : ℕ) → o ≡ Some v → Contains spec.inputs v → more ≡ different (values ++ v ∷ []) → length more ≤ most → AreAllowed spec most decided values → AreAllowed spec most more (values ++ cons_option o [])
value_more spec most decided more values o v some input more_is few are =
    let long = ap (λ (l : List ℕ). length l) more_is in
    subst (λ (p : Option ℕ). AreAllowed spec most more (values ++ cons_option p [])) (sym some) (more_is, record { inputs = inputs_more spec values v input are.1.inputs; few = omega (arith, few, long) })

-- the values of the first processes
abbrev pub AreOfFirst : RoomSpec → ℕ → Node → ℕ → List ℕ → Type 0
AreOfFirst spec most node count decided =
    (values : List ℕ) × AreAllowed spec most decided values × ((q : ℕ) (local : LocalState) (v : ℕ) → q < count → Contains (set_of node q) local → local.due ≡ Decided v → Contains values v)

pub of_none : (spec : RoomSpec) (most : ℕ) (node : Node) (decided : List ℕ) → decided ≡ [] → AreOfFirst spec most node 0 decided
of_none spec most node decided none = ([], (none, record { inputs = λ v there. let inside = there.1 in absurd (omega (arith, inside)); few = omega arith }), λ q local v below. absurd (omega (arith, below)))

pub of_more : (spec : RoomSpec) (most : ℕ) (node : Node) (p : ℕ) (decided more : List ℕ) (set : List LocalState) → set ≡ set_of node p → AreOfFirst spec most node p decided
    → ((values : List ℕ) → AreAllowed spec most decided values → AreAllowed spec most more (values ++ decided_values set)) → AreOfFirst spec most node (p + 1) more
of_more spec most node p decided more set set_is before all = (
  before.0 ++ decided_values set,
  all before.0 before.1,
  λ q local v below there due. elim (cases_eq q p) [
    | inl same ↦
        let own : Contains set local = subst (λ (l : List LocalState). Contains l local) (sym set_is) (subst (λ (r : ℕ). Contains (set_of node r) local) same there) in
        let read = get_or_from_slice_get set own.0 local blank (slice_get-get_or set own.0 local own.1 ∙ ap Some own.2) in
        Contains-append_right before.0 (decided_values set) v (in_contains v (decided_values set) (value_in set own.0 v own.1 (ap (λ (l : LocalState). l.due) read ∙ due)))
    | inr other ↦ Contains-append_left before.0 (decided_values set) v (before.2 q local v (omega (arith, below, other)) there due)
  ],
)

pub of_all : (spec : RoomSpec) (most : ℕ) (node : Node) (count : ℕ) (decided : List ℕ) → processes spec ≤ count → AreOfFirst spec most node count decided → (state : List LocalState) → Covers spec node state → AreFewInputs spec most (decided_values state)
of_all spec most node count decided all are state covers =
    same_values spec most are.0 (decided_values state)
    (λ v at.
    let one = in_value state v at in
    let wide = covers.width in
    let inside = one.1 in
    contains_in v are.0 (are.2 one.0 (get_or state one.0 blank) v (omega (arith, inside, wide, all)) (covers.each one.0 (omega (arith, inside, wide))) one.2))
    are.1.1

-- no state of the node breaks the task
pub kept_in : (spec : RoomSpec) (most : ℕ) (node : Node) → ((state : List LocalState) → Covers spec node state → AreFewInputs spec most (decided_values state)) → IsLeastBreakingIn spec most node None
kept_in spec most node keeps = record {
  none = λ is. keeps;
  some = λ breaking is. absurd (none-some breaking is);
  least = λ breaking is. absurd (none-some breaking is);
}
