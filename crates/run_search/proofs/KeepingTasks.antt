-- Nodes that are judged as they are found.
use Rattle.std.proofs.Common.{◌≡◌, ℕ, ◌+◌, ◌<◌, ◌≤◌, List, length, Option, None, Some, refl, sym, ap, ◌∙◌, subst, arith, inl, inr}
use Rattle.std.specs.Prelude.{IfNone, slice_get}
use Rattle.std.proofs.lemmas.Bool.{cases_eq, cases_lt}
use Rattle.std.proofs.lemmas.Option.{none-some, same_Some}
use Rattle.room_spec.specs.Rooms.{RoomSpec}
use Rattle.transcript.specs.declared.event.Event.{Event}
use Rattle.transcript.proofs.CallerLemmas.{slice_get-append}
use Rattle.run_search.specs.Breaking.{IsLeastBreakingIn}
use Rattle.run_search.specs.Judging.{AreTooManyKept, DoNodesKeep, DoRunsKeep, DoStatesKeep}
use Rattle.run_search.specs.Limits.{AreApart}
use Rattle.run_search.specs.Nodes.{AreGathered, CoverAllReachable, IsRunTo, Node, NodesGrow}
use Rattle.run_search.specs.States.{State, state_of}
use Rattle.run_search.specs.Tasks.{IsBreakingRun}
use Rattle.run_search.proofs.Breaking.{all_keep, one_breaks}
use Rattle.run_search.proofs.Covering.{node_at}
use Rattle.run_search.proofs.Deciding.{own, run_keeps}
use Rattle.run_search.proofs.Limiting.{too_many}

-- ---- one node

pub none_so_far : (spec : RoomSpec) (most : ℕ) (nodes : List Node) (from : ℕ) → DoNodesKeep spec most nodes from from
none_so_far spec most nodes from i node past below = absurd (omega (arith, past, below))

pub one_keeps_more : (spec : RoomSpec) (most : ℕ) (nodes : List Node) (from index : ℕ) (node : Node) → slice_get nodes index ≡ Some node → IsLeastBreakingIn spec most node None → DoNodesKeep spec most nodes from index → DoNodesKeep spec most nodes from (index + 1)
one_keeps_more spec most nodes from index node there none keep i other past below is = elim (cases_eq i index) [
  | inl same ↦ subst (DoStatesKeep spec most) (same_Some node other (sym there ∙ ap (slice_get nodes) (sym same) ∙ is)) (none.none refl)
  | inr apart ↦ keep i other past (omega (arith, below, apart)) is
]

-- ---- all nodes so far

pub none_is : {A : Type 0} (P : Type 0) (found : Option A) → found ≡ None → IfNone found P → P
none_is P None is kept = kept
none_is P (Some one) is kept = absurd cc

pub both_judged : (spec : RoomSpec) (most : ℕ) (nodes listed : List Node) (judged : ℕ) → listed ≡ nodes → DoNodesKeep spec most nodes 0 judged → DoNodesKeep spec most listed judged (length listed) → DoNodesKeep spec most nodes 0 (length nodes)
both_judged spec most nodes listed judged same before more i node past below is = elim (cases_lt i judged) [
  | inl early ↦ before i node past early is
  | inr late ↦ more i node late (omega (arith, below, ap (λ (l : List Node). length l) same)) (ap (λ (l : List Node). slice_get l i) same ∙ is)
]

pub kept_grown : (spec : RoomSpec) (most : ℕ) (old new : List Node) (count : ℕ) → NodesGrow old new → count ≤ length old → DoNodesKeep spec most old 0 (length old) → DoNodesKeep spec most new 0 count
kept_grown spec most old new count grown few keep i node past below is =
    let within : i < length old = omega (arith, below, few) in
    keep i node past within (sym (slice_get-append old grown.0 i within) ∙ ap (λ (l : List Node). slice_get l i) (sym grown.1) ∙ is)

pub all_judged : (spec : RoomSpec) (most : ℕ) (nodes : List Node) (judged : ℕ) → length nodes ≤ judged → DoNodesKeep spec most nodes 0 judged → DoNodesKeep spec most nodes 0 (length nodes)
all_judged spec most nodes judged past keep i node from below is = keep i node from (omega (arith, below, past)) is

-- ---- runs

pub runs_keep : (spec : RoomSpec) (most : ℕ) (nodes : List Node) → Some most ≡ spec.task → CoverAllReachable spec nodes → DoNodesKeep spec most nodes 0 (length nodes) → DoRunsKeep spec
runs_keep spec most nodes is covers keep = all_keep spec most nodes is covers (record {
  none = λ none i node state below there covered. keep i node (omega arith) below there state covered;
  some = λ breaking none. absurd (none-some breaking none);
  least = λ breaking none. absurd (none-some breaking none);
})

pub too_many_kept : (spec : RoomSpec) (most limit : ℕ) (nodes : List Node) → Some most ≡ spec.task → limit < length nodes → AreGathered spec nodes → AreApart spec nodes → DoNodesKeep spec most nodes 0 (length nodes) → AreTooManyKept spec limit
unfolding too_many
too_many_kept spec most limit nodes is many gathered apart keep = record {
  many = too_many spec limit nodes many gathered apart;
  kept = λ node events there run covers. own spec most events is (run_keeps spec most events run (keep there.0 node (omega arith) there.1 (node_at nodes node there) (state_of spec events) covers));
}

-- a run to a state that breaks it
pub run_breaks : (spec : RoomSpec) (most : ℕ) (node : Node) (state : State) (events : List Event) → Some most ≡ spec.task → IsLeastBreakingIn spec most node (Some state) → IsRunTo spec events state.items → IsBreakingRun spec events
run_breaks spec most node state events is found run = (run.run, one_breaks spec most state.items events is (found.some state refl).1 run)
