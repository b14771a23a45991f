use Rattle.std.proofs.Common.{◌≡◌, ℕ, Some, take}
use Rattle.std.specs.Prelude.{slice_get}
use Rattle.run_search.specs.Outcomes.{outcomes_in}
use Rattle.view_outcomes.specs.declared.listing.Listed.{Listed}
use Rattle.view_outcomes.specs.Listing.{HasRun, listed_ends}
use Rattle.view_outcomes.proofs.listing.list_all.Given as goal

abbrev pub invariant-loop-index : goal.invariant-loop-index
invariant-loop-index l = record {
  runs : (i : ℕ) (one : Listed) → slice_get l.all.items i ≡ Some one → HasRun l.spec l.brief one;
  ends : listed_ends l.all.items ≡ take l.index (outcomes_in l.found);
}
