-- Runs that break a task, with the fewest events.
use Rattle.std.proofs.Common.{◌≡◌, ℕ, ◌+◌, ◌<◌, ◌≤◌, List, length, get_or, take, Option, Some, None, refl, sym, ap, ◌∙◌, subst, arith, inl, inr}
use Rattle.std.specs.Prelude.{slice_get}
use Rattle.std.specs.List.{Contains}
use Rattle.std.proofs.lemmas.Bool.{cases_eq}
use Rattle.std.proofs.lemmas.List.{take_all, take_more}
use Rattle.std.proofs.lemmas.List.Sums.{sum_by_push}
use Rattle.std.proofs.lemmas.Option.{get_or_from_slice_get, none-some, same_Some, slice_get-get_or, slice_get_within}
use Rattle.room_spec.specs.Rooms.{RoomSpec, processes}
use Rattle.transcript.specs.declared.event.Event.{Event}
use Rattle.transcript.specs.Runs.{IsRun}
use Rattle.transcript.specs.Tasks.{KeepsOwnTask}
use Rattle.run_search.specs.declared.local_state.LocalState.{LocalState}
use Rattle.run_search.specs.declared.task.Breaking.{Breaking}
use Rattle.run_search.specs.Breaking.{IsLeastBreaking, IsLeastBreakingIn, IsLeastPick}
use Rattle.run_search.specs.Nodes.{CoverAllReachable, Covers, IsRunTo, Node, set_of}
use Rattle.run_search.specs.Picks.{ArePicks, Breaks}
use Rattle.run_search.specs.States.{State, blank, events_in, events_of, state_of}
use Rattle.run_search.specs.Tasks.{AreFewInputs, IsShortestBreaking, decided_values}
use Rattle.run_search.proofs.Answering.{same_breaks, same_keeps}
use Rattle.run_search.proofs.Counting.{counted}
use Rattle.run_search.proofs.Covering.{node_at}
use Rattle.run_search.proofs.Deciding.{from_own, own, run_keeps, state_keeps}

-- ---- among picks

same_pick : (picks : List State) (index i : ℕ) (pick other : State) → i ≡ index → slice_get picks index ≡ Some pick → slice_get picks i ≡ Some other → pick ≡ other
same_pick picks index i pick other same here other_is = same_Some pick other (sym here ∙ ap (slice_get picks) (sym same) ∙ other_is)

pick_at : (picks : List State) (pick : State) → (there : Contains picks pick) → slice_get picks there.0 ≡ Some pick
pick_at picks pick there = slice_get-get_or picks there.0 pick there.1 ∙ ap Some there.2

pub pick_there : (picks : List State) (index : ℕ) (pick : State) → slice_get picks index ≡ Some pick → Contains picks pick
pick_there picks index pick is = (index, slice_get_within picks index pick is, get_or_from_slice_get picks index pick pick is)

pub no_pick_first : (spec : RoomSpec) (most : ℕ) (picks : List State) → IsLeastPick spec most picks 0 None
no_pick_first spec most picks = record {
  none = λ is i pick below. absurd (omega (arith, below));
  some = λ k is. absurd (none-some k is);
  least = λ k one is. absurd (none-some k is);
}

-- the next keeps the task
pub next_keeps : (spec : RoomSpec) (most : ℕ) (picks : List State) (index : ℕ) (least : Option ℕ) (pick : State) → slice_get picks index ≡ Some pick → AreFewInputs spec most (decided_values pick.items) → IsLeastPick spec most picks index least → IsLeastPick spec most picks (index + 1) least
next_keeps spec most picks index least pick here are before = record {
  none = λ is i other below other_is. elim (cases_eq i index) [
    | inl same ↦ subst (λ (s : State). AreFewInputs spec most (decided_values s.items)) (same_pick picks index i pick other same here other_is) are
    | inr apart ↦ before.none is i other (omega (arith, below, apart)) other_is
  ];
  some = before.some;
  least = λ k one is one_is i other below other_is breaks. elim (cases_eq i index) [
    | inl same ↦ absurd (breaks (subst (λ (s : State). AreFewInputs spec most (decided_values s.items)) (same_pick picks index i pick other same here other_is) are))
    | inr apart ↦ before.least k one is one_is i other (omega (arith, below, apart)) other_is breaks
  ];
}

-- the next is the first that breaks it
pub next_first : (spec : RoomSpec) (most : ℕ) (picks : List State) (index : ℕ) (pick : State) → slice_get picks index ≡ Some pick → Breaks spec most pick.items → IsLeastPick spec most picks index None → IsLeastPick spec most picks (index + 1) (Some index)
next_first spec most picks index pick here breaks before = record {
  none = λ is. absurd (none-some index (sym is));
  some = λ k is. subst (λ (j : ℕ). (one : State) × (slice_get picks j ≡ Some one) × Breaks spec most one.items) (same_Some index k is) (pick, here, breaks);
  least = λ k one is one_is i other below other_is other_breaks.
      let mine : pick ≡ one = same_pick picks index k pick one (sym (same_Some index k is)) here one_is in
      elim (cases_eq i index) [
        | inl same ↦ let equal = ap (λ (s : State). events_in s.items) (sym mine ∙ same_pick picks index i pick other same here other_is) in omega (arith, equal)
        | inr apart ↦ absurd (other_breaks (before.none refl i other (omega (arith, below, apart)) other_is))
      ];
}

-- the one before has no more events
pub next_before : (spec : RoomSpec) (most : ℕ) (picks : List State) (index k : ℕ) (first pick : State) → slice_get picks index ≡ Some pick → slice_get picks k ≡ Some first → events_in first.items ≤ events_in pick.items → IsLeastPick spec most picks index (Some k) → IsLeastPick spec most picks (index + 1) (Some k)
next_before spec most picks index k first pick here first_is fewer before = record {
  none = λ is. absurd (none-some k (sym is));
  some = before.some;
  least = λ j one is one_is i other below other_is other_breaks. elim (cases_eq i index) [
    | inl same ↦
        let mine : first ≡ one = same_pick picks k j first one (sym (same_Some k j is)) first_is one_is in
        let equal = ap (λ (s : State). events_in s.items) (sym mine) in
        let last = ap (λ (s : State). events_in s.items) (same_pick picks index i pick other same here other_is) in
        omega (arith, equal, last, fewer)
    | inr apart ↦ before.least j one is one_is i other (omega (arith, below, apart)) other_is other_breaks
  ];
}

-- the next has fewer
pub next_fewer : (spec : RoomSpec) (most : ℕ) (picks : List State) (index k : ℕ) (first pick : State) → slice_get picks index ≡ Some pick → slice_get picks k ≡ Some first → Breaks spec most pick.items → events_in pick.items < events_in first.items → IsLeastPick spec most picks index (Some k)
    → IsLeastPick spec most picks (index + 1) (Some index)
next_fewer spec most picks index k first pick here first_is breaks fewer before = record {
  none = λ is. absurd (none-some index (sym is));
  some = λ j is. subst (λ (l : ℕ). (one : State) × (slice_get picks l ≡ Some one) × Breaks spec most one.items) (same_Some index j is) (pick, here, breaks);
  least = λ j one is one_is i other below other_is other_breaks.
      let mine : pick ≡ one = same_pick picks index j pick one (sym (same_Some index j is)) here one_is in
      elim (cases_eq i index) [
        | inl same ↦ let equal = ap (λ (s : State). events_in s.items) (sym mine ∙ same_pick picks index i pick other same here other_is) in omega (arith, equal)
        | inr apart ↦
            let less = before.least k first refl first_is i other (omega (arith, below, apart)) other_is other_breaks in
            let equal = ap (λ (s : State). events_in s.items) (sym mine) in
            omega (arith, less, equal, fewer)
      ];
}

-- ---- in one node

pub none_in : (spec : RoomSpec) (most : ℕ) (node : Node) (picks : List State) → ArePicks spec most node (processes spec) picks → IsLeastPick spec most picks (length picks) None → IsLeastBreakingIn spec most node None
none_in spec most node picks are found = record {
  none = λ is state covers.
      let stand = are.all state covers in
      same_keeps spec most stand.0.items state stand.2 (found.none refl stand.1.0 stand.0 stand.1.1 (pick_at picks stand.0 stand.1));
  some = λ breaking is. absurd (none-some breaking is);
  least = λ breaking is. absurd (none-some breaking is);
}

pub least_in : (spec : RoomSpec) (most : ℕ) (node : Node) (picks : List State) (index : ℕ) (copy one : State) → ArePicks spec most node (processes spec) picks → IsLeastPick spec most picks (length picks) (Some index) → slice_get picks index ≡ Some one → copy.items ≡ one.items
    → IsLeastBreakingIn spec most node (Some copy)
least_in spec most node picks index copy one are found there copy_is =
    let broken = found.some index refl in
    let pick = broken.0 in
    let of : (breaking : State) → Some copy ≡ Some breaking → pick.items ≡ breaking.items = λ breaking is. ap (λ (s : State). s.items) (same_Some pick one (sym broken.1 ∙ there)) ∙ sym copy_is ∙ ap (λ (s : State). s.items) (same_Some copy breaking is) in
    record {
      none = λ is. absurd (none-some copy (sym is));
      some = λ breaking is. (subst (Covers spec node) (of breaking is) (are.each pick (pick_there picks index pick broken.1)), subst (Breaks spec most) (of breaking is) broken.2);
      least = λ breaking is state covers breaks.
          let stand = are.all state covers in
          let less = found.least index pick refl broken.1 stand.1.0 stand.0 stand.1.1 (pick_at picks stand.0 stand.1) (same_breaks spec most stand.0.items state stand.2 breaks) in
          let here = ap events_in (of breaking is) in
          let few = stand.3 in
          omega (arith, less, here, few);
    }

-- ---- in the nodes so far

pub none_first : (spec : RoomSpec) (most : ℕ) (nodes : List Node) → IsLeastBreaking spec most nodes 0 None
none_first spec most nodes = record {
  none = λ is i node state below. absurd (omega (arith, below));
  some = λ breaking is. absurd (none-some breaking is);
  least = λ breaking is. absurd (none-some breaking is);
}

same_node : (nodes : List Node) (i index : ℕ) (one node : Node) → i ≡ index → slice_get nodes i ≡ Some one → slice_get nodes index ≡ Some node → one ≡ node
same_node nodes i index one node same one_is node_is = same_Some one node (sym one_is ∙ ap (slice_get nodes) same ∙ node_is)

-- none in this node
pub none_here : (spec : RoomSpec) (most : ℕ) (nodes : List Node) (index : ℕ) (node : Node) (first : Option Breaking) → slice_get nodes index ≡ Some node → IsLeastBreaking spec most nodes index first → IsLeastBreakingIn spec most node None → IsLeastBreaking spec most nodes (index + 1) first
none_here spec most nodes index node first here before none = record {
  none = λ is i one state below one_is covers. elim (cases_eq i index) [
    | inl same ↦ none.none refl state (subst (λ (n : Node). Covers spec n state) (same_node nodes i index one node same one_is here) covers)
    | inr other ↦ before.none is i one state (omega (arith, below, other)) one_is covers
  ];
  some = before.some;
  least = λ breaking is i one state below one_is covers breaks. elim (cases_eq i index) [
    | inl same ↦ absurd (breaks (none.none refl state (subst (λ (n : Node). Covers spec n state) (same_node nodes i index one node same one_is here) covers)))
    | inr other ↦ before.least breaking is i one state (omega (arith, below, other)) one_is covers breaks
  ];
}

-- the first is in this node
pub first_here : (spec : RoomSpec) (most : ℕ) (nodes : List Node) (index : ℕ) (node : Node) (state : State) → slice_get nodes index ≡ Some node → IsLeastBreaking spec most nodes index None → IsLeastBreakingIn spec most node (Some state)
    → IsLeastBreaking spec most nodes (index + 1) (Some (record { node = index; state = state }))
first_here spec most nodes index node state here before found =
    let mine : Breaking = record { node = index; state = state } in
    record {
      none = λ is. absurd (none-some mine (sym is));
      some = λ breaking is. subst (λ (b : Breaking). (one : Node) × (slice_get nodes b.node ≡ Some one) × Covers spec one b.state.items × Breaks spec most b.state.items) (same_Some mine breaking is) (node, here, (found.some state refl).0, (found.some state refl).1);
      least = λ breaking is i one other below one_is covers breaks. subst (λ (b : Breaking). events_in b.state.items ≤ events_in other) (same_Some mine breaking is) (elim (cases_eq i index) [
        | inl same ↦ found.least state refl other (subst (λ (n : Node). Covers spec n other) (same_node nodes i index one node same one_is here) covers) breaks
        | inr apart ↦ absurd (breaks (before.none refl i one other (omega (arith, below, apart)) one_is covers))
      ]);
    }

-- the one before has no more events than that in this node
pub before_here : (spec : RoomSpec) (most : ℕ) (nodes : List Node) (index : ℕ) (node : Node) (first : Breaking) (state : State) → slice_get nodes index ≡ Some node → IsLeastBreaking spec most nodes index (Some first) → IsLeastBreakingIn spec most node (Some state)
    → events_in first.state.items ≤ events_in state.items → IsLeastBreaking spec most nodes (index + 1) (Some first)
before_here spec most nodes index node first state here before found fewer = record {
  none = λ is. absurd (none-some first (sym is));
  some = before.some;
  least = λ breaking is i one other below one_is covers breaks. elim (cases_eq i index) [
    | inl same ↦
        let less = found.least state refl other (subst (λ (n : Node). Covers spec n other) (same_node nodes i index one node same one_is here) covers) breaks in
        let equal = ap (λ (b : Breaking). events_in b.state.items) (same_Some first breaking is) in
        omega (arith, less, equal, fewer)
    | inr apart ↦ before.least breaking is i one other (omega (arith, below, apart)) one_is covers breaks
  ];
}

-- no state in this node has fewer events than the one before
pub kept_here : (spec : RoomSpec) (most : ℕ) (nodes : List Node) (index : ℕ) (node : Node) (first : Breaking) → slice_get nodes index ≡ Some node → IsLeastBreaking spec most nodes index (Some first)
    → ((state : List LocalState) → Covers spec node state → events_in first.state.items ≤ events_in state) → IsLeastBreaking spec most nodes (index + 1) (Some first)
kept_here spec most nodes index node first here before fewer = record {
  none = λ is. absurd (none-some first (sym is));
  some = before.some;
  least = λ breaking is i one other below one_is covers breaks. elim (cases_eq i index) [
    | inl same ↦
        let less = fewer other (subst (λ (n : Node). Covers spec n other) (same_node nodes i index one node same one_is here) covers) in
        let equal = ap (λ (b : Breaking). events_in b.state.items) (same_Some first breaking is) in
        omega (arith, less, equal)
    | inr apart ↦ before.least breaking is i one other (omega (arith, below, apart)) one_is covers breaks
  ];
}

-- the fewest events of the first processes, and of one more
pub fewest_more : (node : Node) (p sum fewest : ℕ) → ((state : List LocalState) → p ≤ length state → ((q : ℕ) → q < p → Contains (set_of node q) (get_or state q blank)) → sum ≤ events_in (take p state))
    → ((local : LocalState) → Contains (set_of node p) local → fewest ≤ events_of local)
    → (state : List LocalState) → p + 1 ≤ length state → ((q : ℕ) → q < p + 1 → Contains (set_of node q) (get_or state q blank)) → sum + fewest ≤ events_in (take (p + 1) state)
fewest_more node p sum fewest before last state long each =
    let less = before state (omega (arith, long)) (λ q below. each q (omega (arith, below))) in
    let one = last (get_or state p blank) (each p (omega arith)) in
    let more : events_in (take (p + 1) state) ≡ events_in (take p state) + events_of (get_or state p blank) =
    ap events_in (take_more state p blank (omega (arith, long))) ∙ sum_by_push events_of (take p state) (get_or state p blank) in
    omega (arith, less, one, more)

pub fewest_all : (spec : RoomSpec) (node : Node) (p sum : ℕ) → processes spec ≤ p → p ≤ processes spec → ((state : List LocalState) → p ≤ length state → ((q : ℕ) → q < p → Contains (set_of node q) (get_or state q blank)) → sum ≤ events_in (take p state))
    → (state : List LocalState) → Covers spec node state → sum ≤ events_in state
fewest_all spec node p sum past inside few state covers =
    let less = few state (omega (arith, inside, covers.width)) (λ q below. covers.each q (omega (arith, below, inside))) in
    let all = ap events_in (take_all p state (omega (arith, past, covers.width))) in
    omega (arith, less, all)

-- that in this node has fewer events than the one before
pub fewer_here : (spec : RoomSpec) (most : ℕ) (nodes : List Node) (index : ℕ) (node : Node) (first : Breaking) (state : State) → slice_get nodes index ≡ Some node → IsLeastBreaking spec most nodes index (Some first) → IsLeastBreakingIn spec most node (Some state)
    → events_in state.items < events_in first.state.items → IsLeastBreaking spec most nodes (index + 1) (Some (record { node = index; state = state }))
fewer_here spec most nodes index node first state here before found fewer =
    let mine : Breaking = record { node = index; state = state } in
    record {
      none = λ is. absurd (none-some mine (sym is));
      some = λ breaking is. subst (λ (b : Breaking). (one : Node) × (slice_get nodes b.node ≡ Some one) × Covers spec one b.state.items × Breaks spec most b.state.items) (same_Some mine breaking is) (node, here, (found.some state refl).0, (found.some state refl).1);
      least = λ breaking is i one other below one_is covers breaks. subst (λ (b : Breaking). events_in b.state.items ≤ events_in other) (same_Some mine breaking is) (elim (cases_eq i index) [
        | inl same ↦ found.least state refl other (subst (λ (n : Node). Covers spec n other) (same_node nodes i index one node same one_is here) covers) breaks
        | inr apart ↦ let less = before.least first refl i one other (omega (arith, below, apart)) one_is covers breaks in omega (arith, less, fewer)
      ]);
    }

-- ---- runs

-- if no state breaks the task, no run does
pub all_keep : (spec : RoomSpec) (most : ℕ) (nodes : List Node) → Some most ≡ spec.task → CoverAllReachable spec nodes → IsLeastBreaking spec most nodes (length nodes) None → (history : List Event) → IsRun spec history → KeepsOwnTask spec history
all_keep spec most nodes is covers found history run =
    let state = state_of spec history in
    let covered = (covers state).0 (record { events = history; run = run; state_is = refl }) in
    own spec most history is (run_keeps spec most history run (found.none refl covered.1.0 covered.0 state covered.1.1 (node_at nodes covered.0 covered.1) covered.2))

pub one_breaks : (spec : RoomSpec) (most : ℕ) (state : List LocalState) (history : List Event) → Some most ≡ spec.task → Breaks spec most state → IsRunTo spec history state → KeepsOwnTask spec history → ⊥
one_breaks spec most state history is breaks run keeps =
    breaks (subst (λ (s : List LocalState). AreFewInputs spec most (decided_values s)) (sym run.state_is) (state_keeps spec most history (from_own spec most history is keeps)))

pub breaking_shortest : (spec : RoomSpec) (most : ℕ) (nodes : List Node) (breaking : Breaking) (history : List Event) → Some most ≡ spec.task → CoverAllReachable spec nodes → IsLeastBreaking spec most nodes (length nodes) (Some breaking) → IsRunTo spec history breaking.state.items
    → IsShortestBreaking spec history
breaking_shortest spec most nodes breaking history is covers found run = λ other breaks.
    let state = state_of spec other in
    let covered = (covers state).0 (record { events = other; run = breaks.0; state_is = refl }) in
    let less = found.least breaking refl covered.1.0 covered.0 state covered.1.1 (node_at nodes covered.0 covered.1) covered.2 (λ are. breaks.1 (own spec most other is (run_keeps spec most other breaks.0 are))) in
    let here : events_in breaking.state.items ≡ events_in (state_of spec history) = ap events_in run.state_is in
    omega (arith, less, here, counted spec history run.run, counted spec other breaks.0)
