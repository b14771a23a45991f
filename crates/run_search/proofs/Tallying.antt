-- Outcomes are noted one by one.
use Rattle.std.proofs.Common.{◌≡◌, ℕ, ◌+◌, ◌<◌, ◌≤◌, List, [], ◌∷◌, ◌++◌, length, get_or, set, Some, refl, sym, ap, ◌∙◌, subst, arith, inl, inr}
use Rattle.std.specs.Prelude.{slice_get}
use Rattle.std.proofs.lemmas.Bool.{cases_eq, cases_lt}
use Rattle.std.proofs.lemmas.List.{get_or-set_other, get_or-set_same, length-set, length_push}
use Rattle.std.proofs.lemmas.Option.{get_or_from_slice_get, same_Some, slice_get-get_or, slice_get_within}
use Rattle.room_spec.specs.Rooms.{RoomSpec}
use Rattle.transcript.proofs.CallerLemmas.{slice_get-append, slice_get-push}
use Rattle.run_search.specs.declared.ended.Ended.{Ended}
use Rattle.run_search.specs.declared.tally.Witness.{Witness}
use Rattle.run_search.specs.Nodes.{Node}
use Rattle.run_search.specs.Outcomes.{AreEnds, AreNoted, Ends, IsEndOf, IsFewerKept, IsNoted, ends_in}
use Rattle.run_search.specs.States.{events_in}

-- ---- one more

pub noted_last : (outcomes : List Ends) (witnesses : List Witness) (ends : Ends) (witness : Witness) → length witnesses ≡ length outcomes → IsNoted (outcomes ++ ends ∷ []) (witnesses ++ witness ∷ []) ends.items witness.events
noted_last outcomes witnesses ends witness count = record {
  index = length outcomes;
  witness = witness;
  there = slice_get-push outcomes ends;
  witness_is = ap (slice_get (witnesses ++ witness ∷ [])) (sym count) ∙ slice_get-push witnesses witness;
  few = omega arith;
}

pub noted_push : (outcomes : List Ends) (witnesses : List Witness) (ends : Ends) (witness : Witness) (one : List Ended) (events : ℕ) → IsNoted outcomes witnesses one events → IsNoted (outcomes ++ ends ∷ []) (witnesses ++ witness ∷ []) one events
noted_push outcomes witnesses ends witness one events noted = record {
  index = noted.index;
  witness = noted.witness;
  there = slice_get-append outcomes (ends ∷ []) noted.index (slice_get_within outcomes noted.index (record { items = one }) noted.there) ∙ noted.there;
  witness_is = slice_get-append witnesses (witness ∷ []) noted.index (slice_get_within witnesses noted.index noted.witness noted.witness_is) ∙ noted.witness_is;
  few = noted.few;
}

pub ends_push : (spec : RoomSpec) (nodes : List Node) (crashes : ℕ) (outcomes : List Ends) (witnesses : List Witness) (ends : Ends) (witness : Witness) → AreEnds spec nodes crashes outcomes witnesses → IsEndOf spec nodes crashes ends witness
    → AreEnds spec nodes crashes (outcomes ++ ends ∷ []) (witnesses ++ witness ∷ [])
ends_push spec nodes crashes outcomes witnesses ends witness are here = record {
  count = omega (arith, are.count, length_push outcomes ends, length_push witnesses witness);
  each = λ i other one other_is one_is. elim (cases_lt i (length outcomes)) [
    | inl below ↦ are.each i other one (sym (slice_get-append outcomes (ends ∷ []) i below) ∙ other_is) (sym (slice_get-append witnesses (witness ∷ []) i (omega (arith, below, are.count))) ∙ one_is)
    | inr past ↦
        let inside = slice_get_within (outcomes ++ ends ∷ []) i other other_is in
        let last : length outcomes ≡ i = omega (arith, past, inside, length_push outcomes ends) in
        let last_witness : length witnesses ≡ i = are.count ∙ last in
        let ends_is : ends ≡ other = same_Some ends other (sym (slice_get-push outcomes ends) ∙ ap (slice_get (outcomes ++ ends ∷ [])) last ∙ other_is) in
        let witness_is : witness ≡ one = same_Some witness one (sym (slice_get-push witnesses witness) ∙ ap (slice_get (witnesses ++ witness ∷ [])) last_witness ∙ one_is) in
        subst (IsEndOf spec nodes crashes other) witness_is (subst (λ (e : Ends). IsEndOf spec nodes crashes e witness) ends_is here)
  ];
}

-- ---- one with fewer events

set_is : (witnesses : List Witness) (i : ℕ) (witness : Witness) → i < length witnesses → slice_get (set witnesses i witness) i ≡ Some witness
set_is witnesses i witness below = let long = length-set witnesses i witness in slice_get-get_or (set witnesses i witness) i witness (omega (arith, long, below)) ∙ ap Some (get_or-set_same witnesses i witness witness below)

set_else : (witnesses : List Witness) (i j : ℕ) (witness one : Witness) → (j ≡ i → ⊥) → slice_get witnesses j ≡ Some one → slice_get (set witnesses i witness) j ≡ Some one
set_else witnesses i j witness one other is =
    let below = slice_get_within witnesses j one is in
    let long = length-set witnesses i witness in
    slice_get-get_or (set witnesses i witness) j one (omega (arith, long, below)) ∙ ap Some (get_or-set_other witnesses i j witness one other ∙ get_or_from_slice_get witnesses j one one is)

pub noted_set : (outcomes : List Ends) (witnesses : List Witness) (i : ℕ) (ends : Ends) (witness : Witness) → slice_get outcomes i ≡ Some ends → i < length witnesses → IsNoted outcomes (set witnesses i witness) ends.items witness.events
noted_set outcomes witnesses i ends witness there below = record { index = i; witness = witness; there = there; witness_is = set_is witnesses i witness below; few = omega arith }

pub noted_there : (outcomes : List Ends) (witnesses : List Witness) (i events : ℕ) (ends : Ends) (witness : Witness) → slice_get outcomes i ≡ Some ends → slice_get witnesses i ≡ Some witness → witness.events ≤ events → IsNoted outcomes witnesses ends.items events
noted_there outcomes witnesses i events ends witness there is few = record { index = i; witness = witness; there = there; witness_is = is; few = few }

pub noted_fewer : (outcomes : List Ends) (witnesses : List Witness) (i : ℕ) (old witness : Witness) (one : List Ended) (events : ℕ) → slice_get witnesses i ≡ Some old → witness.events < old.events → IsNoted outcomes witnesses one events → IsNoted outcomes (set witnesses i witness) one events
noted_fewer outcomes witnesses i old witness one events is fewer noted = elim (cases_eq noted.index i) [
  | inl same ↦
      let old_is : noted.witness ≡ old = same_Some noted.witness old (sym noted.witness_is ∙ ap (slice_get witnesses) same ∙ is) in
      let events_are = ap (λ (w : Witness). w.events) old_is in
      let few = noted.few in
      record {
        index = noted.index;
        witness = witness;
        there = noted.there;
        witness_is = ap (slice_get (set witnesses i witness)) same ∙ set_is witnesses i witness (slice_get_within witnesses i old is);
        few = omega (arith, events_are, few, fewer);
      }
  | inr other ↦ record { index = noted.index; witness = noted.witness; there = noted.there; witness_is = set_else witnesses i noted.index witness noted.witness other noted.witness_is; few = noted.few }
]

pub ends_set : (spec : RoomSpec) (nodes : List Node) (crashes : ℕ) (outcomes : List Ends) (witnesses : List Witness) (i : ℕ) (ends : Ends) (witness : Witness) → slice_get outcomes i ≡ Some ends → AreEnds spec nodes crashes outcomes witnesses → IsEndOf spec nodes crashes ends witness
    → AreEnds spec nodes crashes outcomes (set witnesses i witness)
ends_set spec nodes crashes outcomes witnesses i ends witness there are here = record {
  count = length-set witnesses i witness ∙ are.count;
  each = λ j other one other_is one_is. elim (cases_eq j i) [
    | inl same ↦
        let inside = slice_get_within outcomes i ends there in
        let ends_is : ends ≡ other = same_Some ends other (sym there ∙ ap (slice_get outcomes) (sym same) ∙ other_is) in
        let witness_is : witness ≡ one = same_Some witness one (sym (set_is witnesses i witness (omega (arith, inside, are.count))) ∙ ap (slice_get (set witnesses i witness)) (sym same) ∙ one_is) in
        subst (IsEndOf spec nodes crashes other) witness_is (subst (λ (e : Ends). IsEndOf spec nodes crashes e witness) ends_is here)
    | inr apart ↦
        let inside = slice_get_within outcomes j other other_is in
        let old = get_or witnesses j witness in
        let old_is : slice_get witnesses j ≡ Some old = slice_get-get_or witnesses j witness (omega (arith, inside, are.count)) in
        let same : old ≡ one = same_Some old one (sym (set_else witnesses i j witness old apart old_is) ∙ one_is) in
        are.each j other one other_is (old_is ∙ ap Some same)
  ];
}

-- ---- the witness with fewer events

pub fewer_there : (outcomes : List Ends) (old new : List Witness) (i : ℕ) (ends : Ends) (witness : Witness) → slice_get outcomes i ≡ Some ends → i < length old → IsFewerKept old i witness new → IsNoted outcomes new ends.items witness.events
fewer_there outcomes old new i ends witness there below (inl set_here) = subst (λ (w : List Witness). IsNoted outcomes w ends.items witness.events) (sym set_here.0) (noted_set outcomes old i ends witness there below)
fewer_there outcomes old new i ends witness there below (inr kept) = subst (λ (w : List Witness). IsNoted outcomes w ends.items witness.events) (sym kept.0) (noted_there outcomes old i witness.events ends (get_or old i witness) there (slice_get-get_or old i witness below) kept.1)

pub fewer_grown : (outcomes : List Ends) (old new : List Witness) (i : ℕ) (witness : Witness) (one : List Ended) (events : ℕ) → i < length old → IsFewerKept old i witness new → IsNoted outcomes old one events → IsNoted outcomes new one events
fewer_grown outcomes old new i witness one events below (inl set_here) noted =
    subst (λ (w : List Witness). IsNoted outcomes w one events) (sym set_here.0) (noted_fewer outcomes old i (get_or old i witness) witness one events (slice_get-get_or old i witness below) set_here.1 noted)
fewer_grown outcomes old new i witness one events below (inr kept) noted = subst (λ (w : List Witness). IsNoted outcomes w one events) (sym kept.0) noted

pub fewer_ends : (spec : RoomSpec) (nodes : List Node) (crashes : ℕ) (outcomes : List Ends) (old new : List Witness) (i : ℕ) (ends : Ends) (witness : Witness) → slice_get outcomes i ≡ Some ends → IsFewerKept old i witness new → AreEnds spec nodes crashes outcomes old → IsEndOf spec nodes crashes ends witness
    → AreEnds spec nodes crashes outcomes new
fewer_ends spec nodes crashes outcomes old new i ends witness there (inl set_here) are here = subst (AreEnds spec nodes crashes outcomes) (sym set_here.0) (ends_set spec nodes crashes outcomes old i ends witness there are here)
fewer_ends spec nodes crashes outcomes old new i ends witness there (inr kept) are here = subst (AreEnds spec nodes crashes outcomes) (sym kept.0) are

pub fewer_count : (old new : List Witness) (i : ℕ) (witness : Witness) → IsFewerKept old i witness new → length new ≡ length old
fewer_count old new i witness (inl set_here) = ap length set_here.0 ∙ length-set old i witness
fewer_count old new i witness (inr kept) = ap length kept.0

-- ---- the loops

pub no_ends : (spec : RoomSpec) (nodes : List Node) (crashes : ℕ) → AreEnds spec nodes crashes [] []
no_ends spec nodes crashes = record { count = refl; each = λ i ends witness ends_is. absurd cc }

pub nodes_noted : (spec : RoomSpec) (crashes : ℕ) (nodes : List Node) (index : ℕ) (node : Node) (old new : List Ends) (old_witnesses new_witnesses : List Witness) → slice_get nodes index ≡ Some node
    → ((ends : List Ended) (events : ℕ) → IsNoted old old_witnesses ends events → IsNoted new new_witnesses ends events) → AreNoted spec node crashes new new_witnesses
    → ((i : ℕ) (one : Node) → i < index → slice_get nodes i ≡ Some one → AreNoted spec one crashes old old_witnesses) → (i : ℕ) (one : Node) → i < index + 1 → slice_get nodes i ≡ Some one → AreNoted spec one crashes new new_witnesses
nodes_noted spec crashes nodes index node old new old_witnesses new_witnesses here grown noted before i one below is = elim (cases_eq i index) [
  | inl same ↦ subst (λ (n : Node). AreNoted spec n crashes new new_witnesses) (same_Some node one (sym here ∙ ap (slice_get nodes) (sym same) ∙ is)) noted
  | inr other ↦ λ state covers few. grown (ends_in state) (events_in state) (before i one (omega (arith, below, other)) is state covers few)
]
