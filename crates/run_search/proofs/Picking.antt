-- Picks of a node, process by process.
use Rattle.std.proofs.Common.{◌≡◌, ℕ, suc, ◌+◌, ◌<◌, ◌≤◌, List, [], ◌∷◌, ◌++◌, length, get_or, set, take, Option, Some, None, refl, sym, ap, ◌∙◌, subst, arith, inl, inr, ◌⊎◌}
use Rattle.std.specs.Prelude.{slice_get}
use Rattle.std.specs.List.{Contains}
use Rattle.std.proofs.lemmas.Bool.{cases_eq}
use Rattle.std.proofs.lemmas.List.{ext_get_or, get_or-map, get_or-set_other, get_or-set_same, get_or-take, length-map, length-set, length-take-le, length_push, take_all, take_more}
use Rattle.std.proofs.lemmas.List.Elements.{Contains-push, Contains-push_cases}
use Rattle.std.proofs.lemmas.List.Sums.{sum_by-append, sum_by_push}
use Rattle.std.proofs.lemmas.Option.{get_or_from_slice_get, none-some, same_Some, slice_get-get_or, slice_get_within}
use Rattle.room_spec.specs.Rooms.{RoomSpec}
use Rattle.run_search.specs.declared.ended.Ended.{Ended}
use Rattle.run_search.specs.declared.local_state.LocalState.{LocalState}
use Rattle.run_search.specs.Nodes.{IsPick, Node, set_of}
use Rattle.run_search.specs.Outcomes.{ended, ends_in}
use Rattle.run_search.specs.Picks.{AreLeast, ArePicks, HasStandIn, IsLeast, IsLeastSoFar, IsSame}
use Rattle.run_search.specs.States.{State, blank, events_in, events_of}
use Rattle.run_search.proofs.Listing.{each_push}
use Rattle.run_search.proofs.Answering.{same_more, same_on, same_own}

-- ---- one process more

pub pick_push : (node : Node) (count : ℕ) (state : List LocalState) (local : LocalState) → IsPick node count state → Contains (set_of node count) local → IsPick node (count + 1) (state ++ local ∷ [])
pick_push node count state local pick there = record {
  width = omega (arith, length_push state local, pick.width);
  each = each_push (λ q one. Contains (set_of node q) one) state (state ++ local ∷ []) local count refl pick.width pick.each there;
}

pub pick_before : (node : Node) (count : ℕ) (state : List LocalState) → IsPick node (count + 1) state → IsPick node count (take count state)
pick_before node count state pick = record {
  width = length-take-le count state (omega (arith, pick.width));
  each = λ q below. subst (Contains (set_of node q)) (sym (get_or-take count state q blank below)) (pick.each q (omega (arith, below)));
}

pub pick_parts : (node : Node) (count : ℕ) (state : List LocalState) → IsPick node (count + 1) state → state ≡ take count state ++ get_or state count blank ∷ []
pick_parts node count state pick = sym (take_all (count + 1) state (omega (arith, pick.width))) ∙ take_more state count blank (omega (arith, pick.width))

pub no_pick : (node : Node) → IsPick node 0 []
no_pick node = record { width = refl; each = λ q below. absurd (omega (arith, below)) }

none_else : (node : Node) (state : List LocalState) → IsPick node 0 state → state ≡ []
none_else node [] pick = refl
none_else node (x ∷ xs) pick = let wide = pick.width in absurd (omega (arith, wide))

pub none_picked : State
none_picked = record { items = [] }

-- ---- stand-ins

pub stand_on : (spec : RoomSpec) (most : ℕ) (picks : List State) (state other : List LocalState) → HasStandIn spec most picks state → IsSame spec most state other → events_in state ≤ events_in other → HasStandIn spec most picks other
stand_on spec most picks state other stand same less =
    let few = stand.3 in
    (stand.0, stand.1, same_on spec most stand.0.items state other stand.2 same, omega (arith, less, few))

pub stands_itself : (spec : RoomSpec) (most : ℕ) (picks : List State) (pick : State) → Contains picks pick → HasStandIn spec most picks pick.items
stands_itself spec most picks pick there = (pick, there, same_own spec most pick.items, omega arith)

pub stand_kept : (spec : RoomSpec) (most : ℕ) (old new : List State) → ((one : State) → Contains old one → Contains new one) → (state : List LocalState) → HasStandIn spec most old state → HasStandIn spec most new state
stand_kept spec most old new kept state stand = (stand.0, kept stand.0 stand.1, stand.2, stand.3)

-- a pick in place of one that has the same answer and more events
pub put_there : (spec : RoomSpec) (most : ℕ) (picks : List State) (i : ℕ) (pick : State) → i < length picks → HasStandIn spec most (set picks i pick) pick.items
put_there spec most picks i pick below = let long = length-set picks i pick in stands_itself spec most (set picks i pick) pick (i, omega (arith, long, below), get_or-set_same picks i pick pick below)

pub put_kept : (spec : RoomSpec) (most : ℕ) (picks : List State) (i : ℕ) (one pick : State) → slice_get picks i ≡ Some one → IsSame spec most pick.items one.items → events_in pick.items ≤ events_in one.items → (state : List LocalState) → HasStandIn spec most picks state → HasStandIn spec most (set picks i pick) state
put_kept spec most picks i one pick is same fewer state stand =
    let long = length-set picks i pick in
    let few = stand.3 in
    elim (cases_eq stand.1.0 i) [
      | inl here ↦
          let below = slice_get_within picks i one is in
          let one_is : stand.0 ≡ one = same_Some stand.0 one (sym (slice_get-get_or picks stand.1.0 stand.0 stand.1.1 ∙ ap Some stand.1.2) ∙ ap (slice_get picks) here ∙ is) in
          let events_are = ap (λ (s : State). events_in s.items) one_is in
          (pick, (i, omega (arith, long, below), get_or-set_same picks i pick pick below), same_on spec most pick.items one.items state same (subst (λ (s : State). IsSame spec most s.items state) one_is stand.2), omega (arith, few, fewer, events_are))
      | inr other ↦ (stand.0, (stand.1.0, let inside = stand.1.1 in omega (arith, long, inside), get_or-set_other picks i stand.1.0 pick stand.0 other ∙ stand.1.2), stand.2, stand.3)
    ]

-- ---- the picks of the first processes

pub picks_first : (spec : RoomSpec) (most : ℕ) (node : Node) (none : State) → none.items ≡ [] → ArePicks spec most node 0 (none ∷ [])
picks_first spec most node none is = record {
  each = λ pick there. elim (Contains-push_cases [] none pick there) [
    | inl before ↦ absurd (omega (arith, before.1))
    | inr same ↦
        let empty : [] ≡ pick.items = sym is ∙ ap (λ (s : State). s.items) same in
        subst (IsPick node 0) empty (no_pick node)
  ];
  all = λ state pick.
      (none, Contains-push [] none, subst (IsSame spec most none.items) (is ∙ sym (none_else node state pick)) (same_own spec most none.items), let same = ap events_in (is ∙ sym (none_else node state pick)) in omega (arith, same));
}

pub picks_more : (spec : RoomSpec) (most : ℕ) (node : Node) (count : ℕ) (picks new : List State) (set options : List LocalState) → ArePicks spec most node count picks → set ≡ set_of node count → AreLeast set options
    → ((one : State) → Contains new one → (pick : State) × Contains picks pick × (option : LocalState) × Contains options option × (one.items ≡ pick.items ++ option ∷ []))
    → ((pick : State) (option : LocalState) → Contains picks pick → Contains options option → HasStandIn spec most new (pick.items ++ option ∷ []))
    → ArePicks spec most node (count + 1) new
picks_more spec most node count picks new set options are set_is least each all = record {
  each = λ one there.
      let from = each one there in
      let pick = are.each from.0 from.1 in
      subst (IsPick node (count + 1)) (sym from.4) (pick_push node count from.0.items from.2 pick (subst (λ (l : List LocalState). Contains l from.2) set_is (least.among from.2 from.3)));
  all = λ state pick.
      let before = take count state in
      let last = get_or state count blank in
      let parts = pick_parts node count state pick in
      let option = least.all last (subst (λ (l : List LocalState). Contains l last) (sym set_is) (pick.each count (omega arith))) in
      let stand = are.all before (pick_before node count state pick) in
      let one = stand.0 in
      let more = same_more spec most one.items before option.0 last stand.2 option.2 in
      let sum_one = sum_by_push events_of one.items option.0 in
      let sum_state = sum_by_push events_of before last in
      let few = stand.3 in
      let less = option.3 in
      subst (HasStandIn spec most new) (sym parts) (stand_on spec most new (one.items ++ option.0 ∷ []) (before ++ last ∷ []) (all one option.0 stand.1 option.1) more (omega (arith, sum_one, sum_state, few, less)));
}

-- ---- the loop over picks

abbrev Extends : List State → List LocalState → List State → Type 0
Extends picks options new = (one : State) → Contains new one → (pick : State) × Contains picks pick × (option : LocalState) × Contains options option × (one.items ≡ pick.items ++ option ∷ [])

abbrev AreTried : RoomSpec → ℕ → List State → List LocalState → List State → ℕ → Type 0
AreTried spec most picks options new count =
    (i : ℕ) (option : LocalState) → i < count → Contains options option → HasStandIn spec most new ((get_or picks i none_picked).items ++ option ∷ [])

pub extended_more : (spec : RoomSpec) (most : ℕ) (picks : List State) (options : List LocalState) (old new : List State) (i : ℕ) (pick : State) → i < length picks → pick ≡ get_or picks i pick → Extends picks options old → AreTried spec most picks options old i
    → ((one : State) → Contains new one → Contains old one ⊎ ((option : LocalState) × Contains options option × (one.items ≡ pick.items ++ option ∷ [])))
    → ((option : LocalState) → Contains options option → HasStandIn spec most new (pick.items ++ option ∷ []))
    → ((state : List LocalState) → HasStandIn spec most old state → HasStandIn spec most new state) → Extends picks options new × AreTried spec most picks options new (i + 1)
extended_more spec most picks options old new i pick below pick_is each all more_each more_all kept = (
  λ one there. elim (more_each one there) [
    | inl before ↦ each one before
    | inr by_option ↦ (pick, (i, below, sym pick_is), by_option.0, by_option.1, by_option.2)
  ],
  λ k option less there. elim (cases_eq k i) [
    | inl same ↦
        let is : get_or picks k none_picked ≡ pick = ap (λ (j : ℕ). get_or picks j none_picked) same ∙ get_or_from_slice_get picks i pick none_picked (slice_get-get_or picks i pick below ∙ ap Some (sym pick_is)) in
        subst (λ (s : State). HasStandIn spec most new (s.items ++ option ∷ [])) (sym is) (more_all option there)
    | inr other ↦ kept ((get_or picks k none_picked).items ++ option ∷ []) (all k option (omega (arith, less, other)) there)
  ],
)

-- ---- the least of each end

pub least_all : (set options : List LocalState) → ((option : LocalState) → Contains options option → IsLeast set (ended option.due) option) → ((local : LocalState) → Contains set local → (option : LocalState) × Contains options option × (ended option.due ≡ ended local.due)) → AreLeast set options
least_all set options each all = record {
  among = λ option there. (each option there).among;
  all = λ local there. let one = all local there in (one.0, one.1, one.2, (each one.0 one.1).least local there (sym one.2));
}

pub least_end : (set : List LocalState) (end : Ended) (option : LocalState) → IsLeast set end option → IsLeast set (ended option.due) option
least_end set end option is = subst (λ (e : Ended). IsLeast set e option) (sym is.end_is) is

-- ---- the least so far

so_far_same : (set : List LocalState) (count i : ℕ) (local other : LocalState) → i ≡ count → slice_get set count ≡ Some local → slice_get set i ≡ Some other → local ≡ other
so_far_same set count i local other same here is = same_Some local other (sym here ∙ ap (slice_get set) (sym same) ∙ is)

pub so_far_none : (set : List LocalState) (end : Ended) → IsLeastSoFar set end 0 None
so_far_none set end = record {
  none = λ is i other below. absurd (omega (arith, below));
  some = λ one is. absurd (none-some one is);
  least = λ one is. absurd (none-some one is);
}

-- the next has another end
pub so_far_other : (set : List LocalState) (end : Ended) (count : ℕ) (least : Option LocalState) (local : LocalState) → slice_get set count ≡ Some local → (ended local.due ≡ end → ⊥) → IsLeastSoFar set end count least → IsLeastSoFar set end (count + 1) least
so_far_other set end count least local here apart before = record {
  none = λ is i other below other_is same_end. elim (cases_eq i count) [
    | inl same ↦ apart (ap (λ (l : LocalState). ended l.due) (so_far_same set count i local other same here other_is) ∙ same_end)
    | inr less ↦ before.none is i other (omega (arith, below, less)) other_is same_end
  ];
  some = before.some;
  least = λ one is i other below other_is same_end. elim (cases_eq i count) [
    | inl same ↦ absurd (apart (ap (λ (l : LocalState). ended l.due) (so_far_same set count i local other same here other_is) ∙ same_end))
    | inr less ↦ before.least one is i other (omega (arith, below, less)) other_is same_end
  ];
}

-- the next is the least
pub so_far_next : (set : List LocalState) (end : Ended) (count : ℕ) (least : Option LocalState) (local : LocalState) → slice_get set count ≡ Some local → ended local.due ≡ end → IsLeastSoFar set end count least
    → ((one : LocalState) → least ≡ Some one → events_of local ≤ events_of one) → least ≡ None ⊎ ((one : LocalState) × (least ≡ Some one)) → IsLeastSoFar set end (count + 1) (Some local)
so_far_next set end count least local here end_is before fewer cases = record {
  none = λ is. absurd (none-some local (sym is));
  some = λ one is. subst (λ (l : LocalState). Contains set l × (ended l.due ≡ end)) (same_Some local one is) ((count, slice_get_within set count local here, get_or_from_slice_get set count local local here), end_is);
  least = λ one is i other below other_is same_end. subst (λ (l : LocalState). events_of l ≤ events_of other) (same_Some local one is) (elim (cases_eq i count) [
    | inl same ↦ let equal = ap events_of (so_far_same set count i local other same here other_is) in omega (arith, equal)
    | inr apart ↦ elim cases [
      | inl none ↦ absurd (before.none none i other (omega (arith, below, apart)) other_is same_end)
      | inr some ↦
          let first = before.least some.0 some.1 i other (omega (arith, below, apart)) other_is same_end in
          let less = fewer some.0 some.1 in
          omega (arith, first, less)
    ]
  ]);
}

-- the least stays
pub so_far_kept : (set : List LocalState) (end : Ended) (count : ℕ) (one local : LocalState) → slice_get set count ≡ Some local → IsLeastSoFar set end count (Some one) → events_of one ≤ events_of local → IsLeastSoFar set end (count + 1) (Some one)
so_far_kept set end count one local here before fewer = record {
  none = λ is. absurd (none-some one (sym is));
  some = before.some;
  least = λ first is i other below other_is same_end. elim (cases_eq i count) [
    | inl same ↦
        let equal = ap events_of (so_far_same set count i local other same here other_is) in
        let mine = ap events_of (same_Some one first is) in
        omega (arith, equal, mine, fewer)
    | inr apart ↦ before.least first is i other (omega (arith, below, apart)) other_is same_end
  ];
}

pub least_at_end : (set : List LocalState) (end : Ended) (count : ℕ) (one : LocalState) → IsLeastSoFar set end count (Some one) → length set ≤ count → IsLeast set end one
least_at_end set end count one found all = record {
  among = (found.some one refl).0;
  end_is = (found.some one refl).1;
  least = λ other there same_end. found.least one refl there.0 other (let inside = there.1 in omega (arith, inside, all)) (slice_get-get_or set there.0 other there.1 ∙ ap Some there.2) same_end;
}

-- each of the first local states has one with its end among these
pub ends_more : (set old new : List LocalState) (i : ℕ) (option : LocalState) → i < length set → ((k : ℕ) → k < i → (one : LocalState) × Contains old one × (ended one.due ≡ ended (get_or set k blank).due)) → ((one : LocalState) → Contains old one → Contains new one)
    → Contains new option → ended option.due ≡ ended (get_or set i blank).due → (k : ℕ) → k < i + 1 → (one : LocalState) × Contains new one × (ended one.due ≡ ended (get_or set k blank).due)
ends_more set old new i option below before kept there same k less = elim (cases_eq k i) [
  | inl equal ↦ (option, there, same ∙ ap (λ (j : ℕ). ended (get_or set j blank).due) (sym equal))
  | inr other ↦ let one = before k (omega (arith, less, other)) in (one.0, kept one.0 one.1, one.2)
]

-- ---- the events of a state

pub sum_less : (one other : List LocalState) → length one ≡ length other → ((p : ℕ) → p < length one → events_of (get_or one p blank) ≤ events_of (get_or other p blank)) → events_in one ≤ events_in other
sum_less [] other long each = omega arith
sum_less (x ∷ xs) [] long each = absurd (omega (arith, long))
sum_less (x ∷ xs) (y ∷ ys) long each =
    let first = each 0 (omega arith) in
    let rest = sum_less xs ys (omega (arith, long)) (λ p below. each (suc p) (omega (arith, below))) in
    let one = sum_by-append events_of (x ∷ []) xs in
    let other = sum_by-append events_of (y ∷ []) ys in
    let x_is = sum_by_push events_of [] x in
    let y_is = sum_by_push events_of [] y in
    omega (arith, first, rest, one, other, x_is, y_is)

-- ---- the least state with an outcome

module _ {X : Type 0} where
  pub read_same : (xs : List X) (i : ℕ) (d e : X) → i < length xs → get_or xs i e ≡ get_or xs i d
  read_same xs i d e below = get_or_from_slice_get xs i (get_or xs i d) e (slice_get-get_or xs i d below)

-- how a process ends in a state
pub end_at : (state : List LocalState) (p : ℕ) (d : Ended) → p < length state → get_or (ends_in state) p d ≡ ended (get_or state p blank).due
end_at state p d below = get_or-map (λ (local : LocalState). ended local.due) state p blank d below

pub length-ends : (state : List LocalState) → length (ends_in state) ≡ length state
length-ends state = length-map state (λ (local : LocalState). ended local.due)

-- the ends of a state are these, if each is
pub ends_are_these : (ends : List Ended) (state : List LocalState) (d : Ended) → length ends ≡ length state → ((p : ℕ) → p < length state → ended (get_or state p blank).due ≡ get_or ends p d) → ends ≡ ends_in state
ends_are_these ends state d long each =
    let wide = length-ends state in
    ext_get_or d ends (ends_in state) (long ∙ sym wide) (λ p below. sym (end_at state p d (omega (arith, below, long)) ∙ each p (omega (arith, below, long))))

pub picks_short : (spec : RoomSpec) (most : ℕ) (node : Node) (count : ℕ) (picks : List State) (i : ℕ) (pick : State) → ArePicks spec most node count picks → slice_get picks i ≡ Some pick → length pick.items ≡ count
picks_short spec most node count picks i pick are is = (are.each pick (i, slice_get_within picks i pick is, get_or_from_slice_get picks i pick pick is)).width
