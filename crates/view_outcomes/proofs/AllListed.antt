-- Outcomes that are listed one by one.
use Rattle.std.proofs.Common.{Bool, ◌≡◌, ◌∙◌, ℕ, ◌+◌, List, [], ◌∷◌, ◌++◌, Option, None, Some, length, take, sym, ap, subst, arith, inl, inr}
use Rattle.std.specs.Prelude.{IfNone, IfSome, IsPermutation, slice_get}
use Rattle.std.specs.List.{Contains}
use Rattle.std.specs.Option.{option_map}
use Rattle.std.proofs.lemmas.Bool.{cases_lt}
use Rattle.std.proofs.lemmas.List.{length_push, map-append, take_more}
use Rattle.std.proofs.lemmas.Option.{get_or_from_slice_get, same_Some, slice_get_within}
use Rattle.room_spec.specs.Rooms.{RoomSpec}
use Rattle.transcript.specs.Runs.{IsRun}
use Rattle.transcript.specs.Tasks.{KeepsOwnTask}
use Rattle.transcript.specs.declared.event.Event.{Event}
use Rattle.transcript.proofs.CallerLemmas.{slice_get-append, slice_get-push}
use Rattle.run_search.specs.declared.ended.Ended.{Ended}
use Rattle.run_search.specs.Outcomes.{IsRunOutcome}
use Rattle.run_search.specs.Tasks.{IsBreakingRun, IsShortestBreaking}
use Rattle.view_outcomes.specs.declared.listing.Listed.{Listed}
use Rattle.view_outcomes.specs.Listing.{AreAllListed, AreInOrder, AreMostFirst, HasRun, IsTaskOfRuns, listed_ends}

abbrev pub Runs : RoomSpec → Bool → List Listed → Type 0
Runs spec brief all = (i : ℕ) (one : Listed) → slice_get all i ≡ Some one → HasRun spec brief one

pub no_runs : (spec : RoomSpec) (brief : Bool) → Runs spec brief []
no_runs spec brief i one is = absurd cc

pub one_run_more : (spec : RoomSpec) (brief : Bool) (all : List Listed) (one : Listed) → Runs spec brief all → HasRun spec brief one → Runs spec brief (all ++ one ∷ [])
one_run_more spec brief all one are has i other is = elim (cases_lt i (length all)) [
  | inl below ↦ are i other (sym (slice_get-append all (one ∷ []) i below) ∙ is)
  | inr past ↦
      let inside = slice_get_within (all ++ one ∷ []) i other is in
      let last : length all ≡ i = omega (arith, past, inside, length_push all one) in
      subst (HasRun spec brief) (same_Some one other (sym (slice_get-push all one) ∙ ap (slice_get (all ++ one ∷ [])) last ∙ is)) has
]

-- the outcomes so far, with the next
pub ends_more : (all : List Listed) (one : Listed) (outcomes : List (List Ended)) (i : ℕ) → listed_ends all ≡ take i outcomes → slice_get outcomes i ≡ Some one.ends.items → listed_ends (all ++ one ∷ []) ≡ take (i + 1) outcomes
ends_more all one outcomes i so_far there =
    let within = slice_get_within outcomes i one.ends.items there in
    map-append (λ (o : Listed). o.ends.items) all (one ∷ [])
    ∙ ap (λ (ends : List (List Ended)). ends ++ one.ends.items ∷ []) so_far
    ∙ ap (λ (ends : List Ended). take i outcomes ++ ends ∷ []) (sym (get_or_from_slice_get outcomes i one.ends.items one.ends.items there))
    ∙ sym (take_more outcomes i one.ends.items within)

pub all_listed : (spec : RoomSpec) (crashes : ℕ) (brief : Bool) (all : List Listed) (outcomes : List (List Ended)) → Runs spec brief all → listed_ends all ≡ outcomes
    → ((outcome : List Ended) → IsRunOutcome spec crashes outcome → Contains outcomes outcome)
    → ((outcome : List Ended) → Contains outcomes outcome → IsRunOutcome spec crashes outcome)
    → ((i j : ℕ) (outcome : List Ended) → slice_get outcomes i ≡ Some outcome → slice_get outcomes j ≡ Some outcome → i ≡ j) → AreAllListed spec crashes brief all
all_listed spec crashes brief all outcomes runs ends complete sound distinct = record {
  runs = runs;
  sound = λ outcome there. sound outcome (subst (λ (l : List (List Ended)). Contains l outcome) ends there);
  complete = λ outcome is. subst (λ (l : List (List Ended)). Contains l outcome) (sym ends) (complete outcome is);
  distinct = λ i j outcome first second. distinct i j outcome (ap (λ (l : List (List Ended)). slice_get l i) (sym ends) ∙ first) (ap (λ (l : List (List Ended)). slice_get l j) (sym ends) ∙ second);
}

pub all_in_order : (spec : RoomSpec) (crashes : ℕ) (brief : Bool) (found all : List Listed) → AreAllListed spec crashes brief found → IsPermutation found all → AreMostFirst all → AreInOrder spec crashes brief all
all_in_order spec crashes brief found all outcomes same most_first = record { found = found; outcomes = outcomes; same = same; most_first = most_first }

-- what is found of the task: none, or a shortest run that breaks it
pub task_of : {A : Type 0} (spec : RoomSpec) (items : A → List Event) (found : Option A) → IfNone found ((events : List Event) → IsRun spec events → KeepsOwnTask spec events)
    → IfSome found (λ events. IsBreakingRun spec (items events)) → IfSome found (λ events. IsShortestBreaking spec (items events)) → IsTaskOfRuns spec (option_map items found)
task_of spec items None keeps breaks shortest = keeps
task_of spec items (Some events) keeps breaks shortest = (breaks, shortest)
