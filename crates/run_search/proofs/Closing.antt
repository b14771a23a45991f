-- A set of local states, closed under the steps that leave memory as it is.
use Rattle.std.proofs.Common.{◌≡◌, ℕ, suc, ◌+◌, ◌-◌, ◌*◌, ◌<◌, ◌≤◌, Bool, true, false, List, [], ◌∷◌, ◌++◌, length, get_or, map, Option, Some, refl, sym, ap, ◌∙◌, subst, arith, inl, inr, ◌⊎◌, ltb}
use Rattle.std.specs.Prelude.{slice_get}
use Rattle.std.specs.List.{Contains}
use Rattle.std.proofs.lemmas.Bool.{cases_eq, ltb-true}
use Rattle.std.proofs.lemmas.List.{get_or-map, get_or_append_left, get_or_past, get_or_push, length-map, length_push, map_push}
use Rattle.std.proofs.lemmas.List.Elements.{Contains-append_left, Contains-push_cases}
use Rattle.std.proofs.lemmas.Option.{get_or_from_slice_get, none-some, same_Some, slice_get-get_or, slice_get_within}
use Rattle.protocol_lang.specs.Meaning.{next_action}
use Rattle.protocol_lang.specs.declared.meaning.Action.{Action}
use Rattle.protocol_lang.specs.declared.meaning.Action.TheVariants as actions
use Rattle.room_spec.specs.Rooms.{RoomSpec}
use Rattle.transcript.specs.Runs.{action_due}
use Rattle.run_search.specs.declared.local_state.Due.{Due}
use Rattle.run_search.specs.declared.local_state.Due.TheVariants.{Write, Snap, Decide, Decided, Spent}
use Rattle.run_search.specs.declared.local_state.LocalState.{LocalState}
use Rattle.run_search.specs.declared.local_state.Origin.{Origin}
use Rattle.run_search.specs.Nodes.{AreIn, IsAdded, AreWithinRounds, GoesAlone, IsSetClosed, IsWithinRounds, MovesAlone, Node, set_of, writes_due}
use Rattle.run_search.specs.States.{blank, by_due, due_for, events_of, local_of}
use Rattle.run_search.specs.Steps.{moved_by}
use Rattle.run_search.proofs.Counting.{local_more}

-- ---- rounds

write_fits : (left : Bool) (action : Action) (writes rounds : ℕ) → (left ≡ true → writes < rounds) → writes ≤ rounds → writes + writes_due (due_for left action) ≤ rounds
write_fits true (actions.Write v) writes rounds more within = let less = more refl in omega (arith, less)
write_fits false (actions.Write v) writes rounds more within = omega (arith, within)
write_fits true (actions.Decide v) writes rounds more within = omega (arith, within)
write_fits false (actions.Decide v) writes rounds more within = omega (arith, within)

within_by : (spec : RoomSpec) (row : List (Option ℕ)) (p : ℕ) (local new : LocalState) (due : Due) → local.writes + writes_due due ≤ spec.rounds → moved_by spec row p local due ≡ Some new → IsWithinRounds spec new
within_by spec row p local new (Write v) within is =
    subst (IsWithinRounds spec) (same_Some (let after : LocalState = record { due = Snap; last = Some v; writes = local.writes + 1 } in after) new is) (omega (arith, within))
within_by spec row p local new Snap within is =
    let left = ltb local.writes spec.rounds in
    let action = next_action spec.protocol (get_or spec.inputs p 0) p local.writes row in
    subst (IsWithinRounds spec) (same_Some (let after : LocalState = record { due = due_for left action; last = local.last; writes = local.writes } in after) new is)
    (write_fits left action local.writes spec.rounds (λ e. ltb-true local.writes spec.rounds e) (omega (arith, within)))
within_by spec row p local new (Decide v) within is =
    subst (IsWithinRounds spec) (same_Some (let after : LocalState = record { due = Decided v; last = local.last; writes = local.writes } in after) new is) (omega (arith, within))
within_by spec row p local new (Decided v) within is = absurd (none-some new is)
within_by spec row p local new Spent within is = absurd (none-some new is)

-- a step keeps within the rounds
pub moved_within : (spec : RoomSpec) (row : List (Option ℕ)) (p : ℕ) (local new : LocalState) → IsWithinRounds spec local → moved_by spec row p local local.due ≡ Some new → IsWithinRounds spec new
moved_within spec row p local new within is = within_by spec row p local new local.due within is

few_by : (due : Due) (writes rounds : ℕ) → writes + writes_due due ≤ rounds → by_due due writes ≤ 2 * rounds + 2
few_by (Write v) writes rounds within = omega (arith, within)
few_by Snap writes rounds within = omega (arith, within)
few_by (Decide v) writes rounds within = omega (arith, within)
few_by (Decided v) writes rounds within = omega (arith, within)
few_by Spent writes rounds within = omega (arith, within)

-- how many steps are left for it at most
pub moves_less : (spec : RoomSpec) (row : List (Option ℕ)) (p : ℕ) (local new : LocalState) → IsWithinRounds spec local → moved_by spec row p local local.due ≡ Some new → 2 * spec.rounds + 3 - events_of new < 2 * spec.rounds + 3 - events_of local
moves_less spec row p local new within is =
    let more = local_more spec row p local new local.due is in
    let few = few_by new.due new.writes spec.rounds (moved_within spec row p local new within is) in
    omega (arith, more, few)

-- ---- one more

pub at_there : (set : List LocalState) (k : ℕ) (local : LocalState) → slice_get set k ≡ Some local → Contains set local
at_there set k local is = (k, slice_get_within set k local is, get_or_from_slice_get set k local local is)

pub added_in : (old new : List LocalState) (local : LocalState) → IsAdded old local new → AreIn old new
added_in old new local added one there = elim added [
  | inl same ↦ subst (λ (l : List LocalState). Contains l one) (sym same) there
  | inr more ↦ subst (λ (l : List LocalState). Contains l one) (sym more) (Contains-append_left old (local ∷ []) one there)
]

added_cases : (old new : List LocalState) (local one : LocalState) → IsAdded old local new → Contains new one → Contains old one ⊎ (local ≡ one)
added_cases old new local one added there = elim added [
  | inl same ↦ inl (subst (λ (l : List LocalState). Contains l one) same there)
  | inr more ↦ Contains-push_cases old local one (subst (λ (l : List LocalState). Contains l one) more there)
]

-- ---- a set on its way to be closed

-- each step leads into the set, but for those from one local state
abbrev pub IsClosedBut : RoomSpec → List (Option ℕ) → ℕ → List LocalState → LocalState → Type 0
IsClosedBut spec row p set now = (one next : LocalState) → Contains set one → MovesAlone spec row p one next → Contains set next ⊎ (now ≡ one)

-- what is in the set was there, or is come to from this one
abbrev pub ComeFrom : RoomSpec → List (Option ℕ) → ℕ → List LocalState → LocalState → List LocalState → Type 0
ComeFrom spec row p old from set = (to : LocalState) → Contains set to → Contains old to ⊎ ((steps : ℕ) × GoesAlone spec row p steps from to)

pub closed_first : (spec : RoomSpec) (row : List (Option ℕ)) (p : ℕ) (old new : List LocalState) (local : LocalState) → IsAdded old local new → IsSetClosed spec row p old → IsClosedBut spec row p new local
closed_first spec row p old new local added closed one next there moves = elim (added_cases old new local one added there) [
  | inl before ↦ inl (added_in old new local added next (closed one next before moves))
  | inr same ↦ inr same
]

pub closed_next : (spec : RoomSpec) (row : List (Option ℕ)) (p : ℕ) (old new : List LocalState) (now to : LocalState) → IsAdded old to new → Contains new to → MovesAlone spec row p now to → IsClosedBut spec row p old now → IsClosedBut spec row p new to
closed_next spec row p old new now to added there_to moved closed one next there moves = elim (added_cases old new to one added there) [
  | inl before ↦ elim (closed one next before moves) [
    | inl in_old ↦ inl (added_in old new to added next in_old)
    | inr same ↦ inl (subst (Contains new) (same_Some to next (sym moved.moves ∙ ap (λ (l : LocalState). moved_by spec row p l l.due) same ∙ moves.moves)) there_to)
  ]
  | inr same ↦ inr same
]

pub closed_last : (spec : RoomSpec) (row : List (Option ℕ)) (p : ℕ) (set : List LocalState) (now : LocalState) → ((other : LocalState) → MovesAlone spec row p now other → ⊥) → IsClosedBut spec row p set now → IsSetClosed spec row p set
closed_last spec row p set now none closed one next there moves = elim (closed one next there moves) [
  | inl in_set ↦ in_set
  | inr same ↦ absurd (none next (subst (λ (l : LocalState). MovesAlone spec row p l next) (sym same) moves))
]

-- the next is in the set
pub closed_known : (spec : RoomSpec) (row : List (Option ℕ)) (p : ℕ) (set : List LocalState) (now to : LocalState) → Contains set to → MovesAlone spec row p now to → IsClosedBut spec row p set now → IsSetClosed spec row p set
closed_known spec row p set now to there_to moved closed one next there moves = elim (closed one next there moves) [
  | inl in_set ↦ in_set
  | inr same ↦ subst (Contains set) (same_Some to next (sym moved.moves ∙ ap (λ (l : LocalState). moved_by spec row p l l.due) same ∙ moves.moves)) there_to
]

pub come_first : (spec : RoomSpec) (row : List (Option ℕ)) (p : ℕ) (old new : List LocalState) (local : LocalState) → IsAdded old local new → ComeFrom spec row p old local new
come_first spec row p old new local added to there = elim (added_cases old new local to added there) [ inl before ↦ inl before | inr same ↦ inr (0, same) ]

pub come_next : (spec : RoomSpec) (row : List (Option ℕ)) (p : ℕ) (first old new : List LocalState) (from now to : LocalState) → IsAdded old to new → (reached : (steps : ℕ) × GoesAlone spec row p steps from now) → MovesAlone spec row p now to
    → ComeFrom spec row p first from old → ComeFrom spec row p first from new
come_next spec row p first old new from now to added reached moves come one there = elim (added_cases old new to one added there) [
  | inl before ↦ come one before
  | inr same ↦ inr (suc reached.0, (now, reached.1, subst (MovesAlone spec row p now) same moves))
]

-- ---- by places

pub read_there : (set : List LocalState) (i : ℕ) → i < length set → Contains set (get_or set i blank)
read_there set i below = at_there set i (get_or set i blank) (slice_get-get_or set i blank below)

-- what is at each place of one list is in the other, so all of it is
pub at_place : (some all : List LocalState) (local : LocalState) → ((k : ℕ) → k < length some → Contains all (get_or some k blank)) → Contains some local → Contains all local
at_place some all local each there =
    let is = get_or_from_slice_get some there.0 local blank (slice_get-get_or some there.0 local there.1 ∙ ap Some there.2) in
    subst (Contains all) is (each there.0 there.1)

-- ---- the sets of a node, one after the other

pub single_within : (spec : RoomSpec) (local : LocalState) → IsWithinRounds spec local → AreWithinRounds spec (local ∷ [])
single_within spec local within one there = elim (Contains-push_cases [] local one there) [
  | inl none ↦ absurd (omega (arith, none.1))
  | inr same ↦ subst (IsWithinRounds spec) same within
]

pub first_within : (spec : RoomSpec) (p : ℕ) → IsWithinRounds spec (local_of spec [] p)
first_within spec p = write_fits (ltb 0 spec.rounds) (action_due spec [] p) 0 spec.rounds (λ e. ltb-true 0 spec.rounds e) (omega arith)

-- what holds of each set holds with one more
pub pushed : (P : ℕ → List LocalState → Type 0) (old : List (List LocalState)) (set : List LocalState) (i : ℕ) → length old ≡ i → ((q : ℕ) → q < i → P q (get_or old q [])) → P i set
    → (q : ℕ) → q < i + 1 → P q (get_or (old ++ set ∷ []) q [])
pushed P old set i long each last q below = elim (cases_eq q i) [
  | inl same ↦ subst (λ (r : ℕ). P r (get_or (old ++ set ∷ []) r [])) (sym same) (subst (P i) (sym (get_or_push old set [] i long)) last)
  | inr other ↦
      let less : q < i = omega (arith, below, other) in
      subst (P q) (sym (get_or_append_left old (set ∷ []) [] q (omega (arith, less, long)))) (each q less)
]

module _ {S : Type 0} where
  -- the same of sets that are kept in some other form
  pub pushed_kept : (P : ℕ → List LocalState → Type 0) (old new : List S) (set : S) (keys : S → List LocalState) (i : ℕ) → new ≡ old ++ set ∷ [] → length (map keys old) ≡ i
      → ((q : ℕ) → q < i → P q (get_or (map keys old) q [])) → P i (keys set) → (q : ℕ) → q < i + 1 → P q (get_or (map keys new) q [])
  pushed_kept P old new set keys i items long each last q below =
      let all : map keys new ≡ map keys old ++ keys set ∷ [] = ap (map keys) items ∙ map_push keys old set in
      subst (λ (l : List (List LocalState)). P q (get_or l q [])) (sym all) (pushed P (map keys old) (keys set) i long each last q below)

  pub width_more : (old new : List S) (set : S) (keys : S → List LocalState) (i : ℕ) → new ≡ old ++ set ∷ [] → length (map keys old) ≡ i → length (map keys new) ≡ i + 1
  width_more old new set keys i items long =
      let a = length-map old keys in
      let b = length-map new keys in
      let more : length new ≡ length old + 1 = ap length items ∙ length_push old set in
      omega (arith, a, b, long, more)

  pub read_keys : (sets : List S) (q : ℕ) (set : S) (keys : S → List LocalState) → q < length (map keys sets) → set ≡ get_or sets q set → keys set ≡ get_or (map keys sets) q []
  read_keys sets q set keys below is =
      let a = length-map sets keys in
      ap keys is ∙ sym (get_or-map keys sets q set [] (omega (arith, a, below)))

  -- a set that is read of a node in its kept form
  pub set_read : (inside : List S) (row : List (Option ℕ)) (origin : Origin) (node : Node) (p : ℕ) (set : S) (keys : S → List LocalState) (list : List LocalState) → (let view : Node = record { row = row; sets = map keys inside; origin = origin } in view ≡ node) → p < length node.sets
      → set ≡ get_or inside p set → list ≡ keys set → list ≡ set_of node p
  set_read inside row origin node p set keys list view below is list_is =
      let wide = ap (λ (n : Node). length n.sets) view in
      list_is ∙ read_keys inside p set keys (omega (arith, wide, below)) is ∙ ap (λ (n : Node). set_of n p) view

  pub sets_count : (inside : List S) (row : List (Option ℕ)) (origin : Origin) (node : Node) (keys : S → List LocalState) → (let view : Node = record { row = row; sets = map keys inside; origin = origin } in view ≡ node) → length inside ≡ length node.sets
  sets_count inside row origin node keys view = sym (length-map inside keys) ∙ ap (λ (n : Node). length n.sets) view

pub none_past : (node : Node) (p : ℕ) (local : LocalState) → length node.sets ≤ p → Contains (set_of node p) local → ⊥
none_past node p local past there =
    let none : set_of node p ≡ [] = get_or_past node.sets p [] past in
    let inside = (subst (λ (l : List LocalState). Contains l local) none there).1 in
    omega (arith, inside)
