-- Each state that a node covers is that of a run.
use Rattle.std.proofs.Common.{◌≡◌, ℕ, zero, suc, ◌<◌, ◌≤◌, List, [], ◌∷◌, ◌++◌, length, get_or, set, Option, Some, None, refl, sym, ap, ◌∙◌, subst, arith, inl, inr, ◌⊎◌}
use Rattle.std.specs.Prelude.{slice_get}
use Rattle.std.specs.List.{Contains}
use Rattle.std.specs.Option.{option_map}
use Rattle.std.proofs.lemmas.Bool.{cases_eq}
use Rattle.std.proofs.lemmas.List.{ext_get_or, length-set, get_or-set_same, get_or-set_other, get_or_append_left, get_or_push, length_push, map-set, set-get_or, set-set}
use Rattle.room_spec.specs.Rooms.{RoomSpec, processes}
use Rattle.transcript.proofs.CallerLemmas.{IsRun-nil}
use Rattle.run_search.specs.declared.local_state.LocalState.{LocalState}
use Rattle.run_search.specs.States.{blank, state_of}
use Rattle.run_search.specs.Steps.{IsReachable, lasts, moved_by, state_after}
use Rattle.run_search.specs.Nodes.{Node, set_of, Covers, Moves, GoesAlone, IsNode, IsFirstNode, IsNodeAfter, AreSound, AreComplete, CoverAllReachable}
use Rattle.run_search.proofs.Covering.{covers_reachable, node_at, row_at, row_covered}
use Rattle.run_search.proofs.Following.{length-reachable}
use Rattle.run_search.proofs.Places.{length-state, length-lasts}
use Rattle.run_search.proofs.Stepping.{due_there, follows}

-- ---- steps from the state of a run

abbrev last_of : LocalState → Option ℕ
last_of local = local.last

-- a step from the state of a run leads to one of a run
pub step_reachable : (spec : RoomSpec) (state : List LocalState) (p : ℕ) (new : LocalState) → IsReachable spec state → p < processes spec
    → Moves spec (lasts state) p (get_or state p blank) new → IsReachable spec (set state p new)
step_reachable spec state p new way within moves =
    let leads : state_after spec state p ≡ Some (set state p new) = ap (option_map (λ (one : LocalState). set state p one)) moves in
    let due = due_there spec state (set state p new) p leads in
    let more = follows spec way.events state (set state p new) p due.0 way.run way.state_is within due.1 leads in
    record { events = way.events ++ due.0 ∷ []; run = more.run; state_is = more.state_is }

pub goes_last : (spec : RoomSpec) (row : List (Option ℕ)) (p steps : ℕ) (local to : LocalState) → GoesAlone spec row p steps local to → to.last ≡ local.last
goes_last spec row p zero local to same = ap last_of (sym same)
goes_last spec row p (suc steps) local to goes = goes.2.alone ∙ goes_last spec row p steps local goes.0 goes.1

-- the row of a state with another local state
pub row_set : (state : List LocalState) (p : ℕ) (new : LocalState) → lasts (set state p new) ≡ set (lasts state) p new.last
row_set state p new = map-set last_of state p new

-- a local state with the same last write leaves the row as it is
pub row_kept : (state : List LocalState) (p : ℕ) (new : LocalState) → p < length state → new.last ≡ (get_or state p blank).last → lasts (set state p new) ≡ lasts state
row_kept state p new below same =
    row_set state p new
    ∙ ap (set (lasts state) p) (same ∙ sym (row_at state p below))
    ∙ set-get_or (lasts state) p None

-- one process goes on alone
pub goes_reachable : (spec : RoomSpec) (state : List LocalState) (p steps : ℕ) (to : LocalState) → IsReachable spec state → p < processes spec
    → GoesAlone spec (lasts state) p steps (get_or state p blank) to → IsReachable spec (set state p to)
goes_reachable spec state p zero to way within same = subst (IsReachable spec) (sym (ap (set state p) (sym same) ∙ set-get_or state p blank)) way
goes_reachable spec state p (suc steps) to way within goes =
    let between = goes.0 in
    let below : p < length state = omega (arith, within, length-reachable spec state way) in
    let before = goes_reachable spec state p steps between way within goes.1 in
    let row = row_kept state p between below (goes_last spec (lasts state) p steps (get_or state p blank) between goes.1) in
    let here : get_or (set state p between) p blank ≡ between = get_or-set_same state p between blank below in
    let moves : Moves spec (lasts (set state p between)) p (get_or (set state p between) p blank) to =
    ap (λ (r : List (Option ℕ)). moved_by spec r p (get_or (set state p between) p blank) (get_or (set state p between) p blank).due) row
    ∙ ap (λ (l : LocalState). moved_by spec (lasts state) p l l.due) here
    ∙ goes.2.moves in
    subst (IsReachable spec) (set-set state p between to) (step_reachable spec (set state p between) p to before within moves)

-- ---- each process goes on alone

-- the first `count` processes have gone on
pub record HaveGone (spec : RoomSpec) (state to : List LocalState) (count : ℕ) : Type 0 where
  pub now : List LocalState
  pub way : IsReachable spec now
  pub row : lasts now ≡ lasts state
  pub gone : (q : ℕ) → q < count → get_or now q blank ≡ get_or to q blank
  pub rest : (q : ℕ) → count ≤ q → get_or now q blank ≡ get_or state q blank

have_gone : (spec : RoomSpec) (state to : List LocalState) → IsReachable spec state
    → ((q : ℕ) → q < processes spec → (steps : ℕ) × GoesAlone spec (lasts state) q steps (get_or state q blank) (get_or to q blank))
    → (count : ℕ) → count ≤ processes spec → HaveGone spec state to count
have_gone spec state to way each zero few = record { now = state; way = way; row = refl; gone = λ q below. absurd (omega (arith, below)); rest = λ q past. refl }
have_gone spec state to way each (suc p) few =
    let before = have_gone spec state to way each p (omega (arith, few)) in
    let within : p < processes spec = omega (arith, few) in
    let new = get_or to p blank in
    let goes = each p within in
    let here : get_or before.now p blank ≡ get_or state p blank = before.rest p (omega arith) in
    let below : p < length before.now = omega (arith, within, length-reachable spec before.now before.way) in
    let again : GoesAlone spec (lasts before.now) p goes.0 (get_or before.now p blank) new =
    subst (λ (r : List (Option ℕ)). GoesAlone spec r p goes.0 (get_or before.now p blank) new) (sym before.row) (subst (λ (l : LocalState). GoesAlone spec (lasts state) p goes.0 l new) (sym here) goes.1) in
    let last : new.last ≡ (get_or before.now p blank).last = goes_last spec (lasts before.now) p goes.0 (get_or before.now p blank) new again in
    record {
      now = set before.now p new;
      way = goes_reachable spec before.now p goes.0 new before.way within again;
      row = row_kept before.now p new below last ∙ before.row;
      gone = λ q less. elim (cases_eq q p) [
        | inl same ↦ subst (λ (r : ℕ). get_or (set before.now p new) r blank ≡ get_or to r blank) (sym same) (get_or-set_same before.now p new blank below)
        | inr other ↦ get_or-set_other before.now p q new blank other ∙ before.gone q (omega (arith, less, other))
      ];
      rest = λ q past. get_or-set_other before.now p q new blank (λ same. omega (arith, past, same)) ∙ before.rest q (omega (arith, past));
    }

-- from the state of a run each process may go on alone, whatever the others do
pub private_runs : (spec : RoomSpec) (state to : List LocalState) → IsReachable spec state → length to ≡ processes spec
    → ((q : ℕ) → q < processes spec → (steps : ℕ) × GoesAlone spec (lasts state) q steps (get_or state q blank) (get_or to q blank))
    → IsReachable spec to
private_runs spec state to way long each =
    let all = have_gone spec state to way each (processes spec) (omega arith) in
    let wide = length-reachable spec all.now all.way in
    let same : all.now ≡ to = ext_get_or blank all.now to (wide ∙ sym long) (λ q below. all.gone q (omega (arith, below, wide))) in
    subst (IsReachable spec) same all.way

-- ---- a state of choices

-- one local state for each process
pub record Chosen (P : ℕ → LocalState → Type 0) (count : ℕ) : Type 0 where
  pub state : List LocalState
  pub width : length state ≡ count
  pub each : (q : ℕ) → q < count → P q (get_or state q blank)

pub choose : (P : ℕ → LocalState → Type 0) (count : ℕ) → ((q : ℕ) → q < count → (local : LocalState) × P q local) → Chosen P count
choose P zero each = record { state = []; width = refl; each = λ q below. absurd (omega (arith, below)) }
choose P (suc p) each =
    let before = choose P p (λ q below. each q (omega (arith, below))) in
    let one = each p (omega arith) in
    record {
      state = before.state ++ one.0 ∷ [];
      width = omega (arith, length_push before.state one.0, before.width);
      each = λ q below. elim (cases_eq q p) [
        | inl same ↦ subst (λ (r : ℕ). P r (get_or (before.state ++ one.0 ∷ []) r blank)) (sym same) (subst (P p) (sym (get_or_push before.state one.0 blank p before.width)) one.1)
        | inr other ↦
            let less : q < p = omega (arith, below, other) in
            subst (P q) (sym (get_or_append_left before.state (one.0 ∷ []) blank q (omega (arith, less, before.width)))) (before.each q less)
      ];
    }

-- ---- nodes

-- a node whose states are those of runs
pub record IsRealised (spec : RoomSpec) (node : Node) : Type 0 where
  pub is : IsNode spec node
  pub each : (state : List LocalState) → Covers spec node state → IsReachable spec state

pub first_realised : (spec : RoomSpec) (node : Node) → IsFirstNode spec node → IsRealised spec node
first_realised spec node first =
    let start = state_of spec [] in
    let long = length-state spec [] in
    record {
      is = record {
        width = ap length first.row ∙ length-lasts spec [];
        last = λ p local within there.
            let goes = first.each p local within there in
            goes_last spec node.row p goes.0 (get_or start p blank) local goes.1 ∙ sym (row_at start p (omega (arith, within, long))) ∙ ap (λ (r : List (Option ℕ)). get_or r p None) (sym first.row);
      };
      each = λ state covers.
          private_runs spec start state (record { events = []; run = IsRun-nil spec; state_is = refl }) covers.width
          (λ q within.
          let goes = first.each q (get_or state q blank) within (covers.each q within) in
          (goes.0, subst (λ (r : List (Option ℕ)). GoesAlone spec r q goes.0 (get_or start q blank) (get_or state q blank)) first.row goes.1));
    }

-- the local state of a process before another's write: one from which it goes on alone
abbrev IsFrom : RoomSpec → Node → (node : Node) → List LocalState → ℕ → LocalState → ℕ → LocalState → Type 0
IsFrom spec before node state process local q old =
    Contains (set_of before q) old × (((q ≡ process) × (old ≡ local)) ⊎ ((q ≡ process → ⊥) × (steps : ℕ) × GoesAlone spec node.row q steps old (get_or state q blank)))

pub after_is : (spec : RoomSpec) (before : Node) (p : ℕ) (local : LocalState) (node : Node) → IsNode spec before → IsNodeAfter spec before p local node → IsNode spec node
after_is spec before p local node is after =
    let below : p < length before.row = omega (arith, after.within, is.width) in
    record {
      width = ap length after.row ∙ length-set before.row p after.next.last ∙ is.width;
      last = λ q to within there. elim (cases_eq q p) [
        | inl same ↦
            let goes = after.own to (subst (λ (r : ℕ). Contains (set_of node r) to) same there) in
            goes_last spec node.row p goes.0 after.next to goes.1
            ∙ sym (get_or-set_same before.row p after.next.last None below)
            ∙ ap (λ (r : ℕ). get_or (set before.row p after.next.last) r None) (sym same)
            ∙ ap (λ (r : List (Option ℕ)). get_or r q None) (sym after.row)
        | inr other ↦
            let old = after.others q to within other there in
            goes_last spec node.row q old.2 old.0 to old.3
            ∙ is.last q old.0 within old.1
            ∙ sym (get_or-set_other before.row p q after.next.last None other)
            ∙ ap (λ (r : List (Option ℕ)). get_or r q None) (sym after.row)
      ];
    }

after_reached : (spec : RoomSpec) (before : Node) (p : ℕ) (local : LocalState) (node : Node) (state : List LocalState) → IsRealised spec before → IsNodeAfter spec before p local node → Covers spec node state → IsReachable spec state
after_reached spec before p local node state realised after covers =
    let P = IsFrom spec before node state p local in
    let chosen = choose P (processes spec) (λ q within. elim (cases_eq q p) [
      | inl same ↦ (local, (subst (λ (r : ℕ). Contains (set_of before r) local) (sym same) after.there, inl (same, refl)))
      | inr other ↦
          let old = after.others q (get_or state q blank) within other (covers.each q within) in
          (old.0, (old.1, inr (other, old.2, old.3)))
    ]) in
    let old = chosen.state in
    let old_covered : Covers spec before old = record { width = chosen.width; each = λ q within. (chosen.each q within).0 } in
    let way = realised.each old old_covered in
    let row = row_covered spec before old realised.is old_covered in
    let below : p < length old = omega (arith, after.within, chosen.width) in
    let own : get_or old p blank ≡ local = elim (chosen.each p after.within).1 [ inl same ↦ same.1 | inr other ↦ absurd (other.0 refl) ] in
    let moves : Moves spec (lasts old) p (get_or old p blank) after.next =
    ap (λ (r : List (Option ℕ)). moved_by spec r p (get_or old p blank) (get_or old p blank).due) row
    ∙ ap (λ (l : LocalState). moved_by spec before.row p l l.due) own
    ∙ after.moves in
    let written = set old p after.next in
    let written_way = step_reachable spec old p after.next way after.within moves in
    let written_row : lasts written ≡ node.row = row_set old p after.next ∙ ap (λ (r : List (Option ℕ)). set r p after.next.last) row ∙ sym after.row in
    private_runs spec written state written_way covers.width (λ q within. elim (cases_eq q p) [
      | inl same ↦
          let goes = after.own (get_or state p blank) (covers.each p after.within) in
          let here : get_or written p blank ≡ after.next = get_or-set_same old p after.next blank below in
          subst (λ (r : ℕ). (steps : ℕ) × GoesAlone spec (lasts written) r steps (get_or written r blank) (get_or state r blank)) (sym same)
          (goes.0, subst (λ (l : LocalState). GoesAlone spec (lasts written) p goes.0 l (get_or state p blank)) (sym here) (subst (λ (r : List (Option ℕ)). GoesAlone spec r p goes.0 after.next (get_or state p blank)) (sym written_row) goes.1))
      | inr other ↦ elim (chosen.each q within).1 [
        | inl same ↦ absurd (other same.0)
        | inr goes ↦
            let here : get_or written q blank ≡ get_or old q blank = get_or-set_other old p q after.next blank other in
            (goes.1, subst (λ (l : LocalState). GoesAlone spec (lasts written) q goes.1 l (get_or state q blank)) (sym here) (subst (λ (r : List (Option ℕ)). GoesAlone spec r q goes.1 (get_or old q blank) (get_or state q blank)) (sym written_row) goes.2))
      ]
    ])

pub after_realised : (spec : RoomSpec) (before : Node) (p : ℕ) (local : LocalState) (node : Node) → IsRealised spec before → IsNodeAfter spec before p local node → IsRealised spec node
after_realised spec before p local node realised after = record {
  is = after_is spec before p local node realised.is after;
  each = λ state covers. after_reached spec before p local node state realised after covers;
}

realised_below : (spec : RoomSpec) (nodes : List Node) → AreSound spec nodes → (n i : ℕ) (node : Node) → i < n → slice_get nodes i ≡ Some node → IsRealised spec node
realised_below spec nodes sound zero i node below is = absurd (omega (arith, below))
realised_below spec nodes sound (suc n) i node below is = elim (cases_eq i 0) [
  | inl zero_is ↦ first_realised spec node (sound.first node (ap (slice_get nodes) (sym zero_is) ∙ is))
  | inr other ↦
      let one = sound.each i node (omega (arith, other)) is in
      after_realised spec one.before node.origin.process node.origin.local node (realised_below spec nodes sound n node.origin.from one.before (omega (arith, one.earlier, below)) one.there) one.after
]

pub realised : (spec : RoomSpec) (nodes : List Node) (i : ℕ) (node : Node) → AreSound spec nodes → slice_get nodes i ≡ Some node → IsRealised spec node
realised spec nodes i node sound is = realised_below spec nodes sound (suc i) i node (omega arith) is

-- ---- the theorem

-- the states that the nodes cover are exactly those of all runs
pub cover_all : (spec : RoomSpec) (nodes : List Node) → AreSound spec nodes → AreComplete spec nodes → CoverAllReachable spec nodes
cover_all spec nodes sound complete state =
    (λ way. covers_reachable spec nodes state complete way, λ node there covers. (realised spec nodes there.0 node sound (node_at nodes node there)).each state covers)
