-- Nodes that no step leads out of cover the state of each run.
use Rattle.std.proofs.Common.{◌≡◌, ℕ, ◌<◌, List, [], ◌∷◌, ◌++◌, length, get_or, set, Option, Some, None, refl, sym, ap, ◌∙◌, subst, arith, inl, inr, ◌⊎◌}
use Rattle.std.specs.Prelude.{slice_get}
use Rattle.std.specs.List.{Contains}
use Rattle.std.specs.Option.{option_map}
use Rattle.std.proofs.lemmas.Bool.{cases_eq}
use Rattle.std.proofs.lemmas.List.{ext_get_or, length-set, get_or-set_same, get_or-set_other, get_or-map, length-map}
use Rattle.std.proofs.lemmas.Option.{none-some, same_Some, slice_get-get_or}
use Rattle.room_spec.specs.Rooms.{RoomSpec, processes}
use Rattle.transcript.specs.declared.event.Event.{Event}
use Rattle.transcript.specs.Runs.{process_of, IsEnabled, IsRun}
use Rattle.run_search.specs.declared.local_state.LocalState.{LocalState}
use Rattle.run_search.specs.States.{blank, state_of}
use Rattle.run_search.specs.Steps.{IsReachable, lasts, moved_by, moved_in, state_after}
use Rattle.run_search.specs.Nodes.{AreIn, Node, set_of, Covers, MovesAlone, IsNode, IsClosed, IsBehind, AreComplete}
use Rattle.run_search.proofs.Following.{process_within, run_induction, step_is}

-- ---- the row of a state

abbrev last_of : LocalState → Option ℕ
last_of local = local.last

pub row_at : (state : List LocalState) (p : ℕ) → p < length state → get_or (lasts state) p None ≡ (get_or state p blank).last
row_at state p below = get_or-map last_of state p blank None below

-- a state that a node covers has its row
pub row_covered : (spec : RoomSpec) (node : Node) (state : List LocalState) → IsNode spec node → Covers spec node state → lasts state ≡ node.row
row_covered spec node state is covers =
    ext_get_or None (lasts state) node.row (length-map state last_of ∙ covers.width ∙ sym is.width)
    (λ p below.
    let long = length-map state last_of in
    let inside : p < processes spec = omega (arith, below, long, covers.width) in
    row_at state p (omega (arith, long, below)) ∙ is.last p (get_or state p blank) inside (covers.each p inside))

-- ---- a step

pub mapped_by : (f : LocalState → List LocalState) (moved : Option LocalState) (next : List LocalState) → option_map f moved ≡ Some next → (new : LocalState) × (moved ≡ Some new) × (f new ≡ next)
mapped_by f None next h = absurd (none-some next h)
mapped_by f (Some new) next h = (new, refl, same_Some (f new) next h)

-- a value that was written last, or none, is the same as another or not
cases_last : (a b : Option ℕ) → (a ≡ b) ⊎ (a ≡ b → ⊥)
cases_last None None = inl refl
cases_last None (Some v) = inr (λ e. absurd (none-some v e))
cases_last (Some v) None = inr (λ e. absurd (none-some v (sym e)))
cases_last (Some v) (Some w) = elim (cases_eq v w) [ inl same ↦ inl (ap Some same) | inr other ↦ inr (λ e. other (same_Some v w e)) ]

-- a node that is closed covers what comes after a step that leaves memory as it is
pub covers_step : (spec : RoomSpec) (node : Node) (state : List LocalState) (p : ℕ) (new : LocalState) → IsNode spec node → IsClosed spec node → Covers spec node state → p < processes spec
    → MovesAlone spec (lasts state) p (get_or state p blank) new → Covers spec node (set state p new)
covers_step spec node state p new is closed covers within moves = record {
  width = length-set state p new ∙ covers.width;
  each = λ q below. elim (cases_eq q p) [
    | inl same ↦
        let row = row_covered spec node state is covers in
        let old = get_or state p blank in
        let here : MovesAlone spec node.row p old new = record { moves = ap (λ (r : List (Option ℕ)). moved_by spec r p old old.due) (sym row) ∙ moves.moves; alone = moves.alone } in
        let stays = closed p within old new (covers.each p within) here in
        let own : get_or (set state p new) p blank ≡ new = get_or-set_same state p new blank (omega (arith, within, covers.width)) in
        subst (λ (r : ℕ). Contains (set_of node r) (get_or (set state p new) r blank)) (sym same) (subst (Contains (set_of node p)) (sym own) stays)
    | inr other ↦
        subst (Contains (set_of node q)) (sym (get_or-set_other state p q new blank other)) (covers.each q below)
  ];
}

-- the node behind a write covers the state after it
pub covers_write : (spec : RoomSpec) (node to : Node) (state : List LocalState) (p : ℕ) (new : LocalState) → Covers spec node state → p < processes spec
    → IsBehind spec node p new to → Covers spec to (set state p new)
covers_write spec node to state p new covers within behind = record {
  width = length-set state p new ∙ covers.width;
  each = λ q below. elim (cases_eq q p) [
    | inl same ↦
        let own : get_or (set state p new) p blank ≡ new = get_or-set_same state p new blank (omega (arith, within, covers.width)) in
        subst (λ (r : ℕ). Contains (set_of to r) (get_or (set state p new) r blank)) (sym same) (subst (Contains (set_of to p)) (sym own) behind.own)
    | inr other ↦
        subst (Contains (set_of to q)) (sym (get_or-set_other state p q new blank other)) (behind.others q (get_or state q blank) below other (covers.each q below))
  ];
}

-- ---- larger nodes

-- a node that has all that another has may stand for it
pub covers_above : (spec : RoomSpec) (node above : Node) (state : List LocalState) → ((p : ℕ) → AreIn (set_of node p) (set_of above p)) → Covers spec node state → Covers spec above state
covers_above spec node above state all covers = record { width = covers.width; each = λ p within. all p (get_or state p blank) (covers.each p within) }

pub behind_above : (spec : RoomSpec) (node to above : Node) (p : ℕ) (next : LocalState) → above.row ≡ to.row → ((q : ℕ) → AreIn (set_of to q) (set_of above q)) → IsBehind spec node p next to → IsBehind spec node p next above
behind_above spec node to above p next row all behind = record {
  row = row ∙ behind.row;
  own = all p next behind.own;
  others = λ q local within other there. all q local (behind.others q local within other there);
}

-- ---- all runs

abbrev pub IsCovered : RoomSpec → List Node → List LocalState → Type 0
IsCovered spec nodes state = (node : Node) × Contains nodes node × Covers spec node state

pub node_at : (nodes : List Node) (node : Node) → (there : Contains nodes node) → slice_get nodes there.0 ≡ Some node
node_at nodes node there = slice_get-get_or nodes there.0 node there.1 ∙ ap Some there.2

-- no step leads out of these nodes
pub covered_after : (spec : RoomSpec) (nodes : List Node) (state next : List LocalState) (p : ℕ) → AreComplete spec nodes → p < processes spec
    → state_after spec state p ≡ Some next → IsCovered spec nodes state → IsCovered spec nodes next
covered_after spec nodes state next p complete within steps covered =
    let under = complete.edges covered.1.0 covered.0 (node_at nodes covered.0 covered.1) in
    let node = under.0 in
    let covers = covers_above spec covered.0 node state under.2.sets covered.2 in
    let there = node_at nodes node under.1 in
    let is = complete.each under.1.0 node there in
    let moved = mapped_by (λ (local : LocalState). set state p local) (moved_in spec state p) next steps in
    let new = moved.0 in
    let old = get_or state p blank in
    subst (IsCovered spec nodes) moved.2 (elim (cases_last new.last old.last) [
      | inl alone ↦ (node, under.1, covers_step spec node state p new is (complete.closed under.1.0 node there) covers within (record { moves = moved.1; alone = alone }))
      | inr other ↦
          let row = row_covered spec node state is covers in
          let edge = under.3 p old within (covers.each p within) new (record { moves = ap (λ (r : List (Option ℕ)). moved_by spec r p old old.due) (sym row) ∙ moved.1; other = other }) in
          (edge.0, edge.1, covers_write spec node edge.0 state p new covers within edge.2)
    ])

pub covers_run : (spec : RoomSpec) (nodes : List Node) → AreComplete spec nodes → (history : List Event) → IsRun spec history → IsCovered spec nodes (state_of spec history)
covers_run spec nodes complete history run = run_induction spec (λ events. IsCovered spec nodes (state_of spec events)) complete.first more history run
  where
    more : (before : List Event) (event : Event) → IsRun spec before → IsEnabled spec before event → IsCovered spec nodes (state_of spec before) → IsCovered spec nodes (state_of spec (before ++ event ∷ []))
    more before event run_before may covered =
        covered_after spec nodes (state_of spec before) (state_of spec (before ++ event ∷ [])) (process_of event) complete (process_within spec before event may) (step_is spec before event run_before may) covered

-- the state of each run is covered
pub covers_reachable : (spec : RoomSpec) (nodes : List Node) (state : List LocalState) → AreComplete spec nodes → IsReachable spec state → IsCovered spec nodes state
covers_reachable spec nodes state complete way = subst (IsCovered spec nodes) (sym way.state_is) (covers_run spec nodes complete way.events way.run)
