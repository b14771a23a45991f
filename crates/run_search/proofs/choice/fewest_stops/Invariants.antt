use Rattle.std.proofs.Common.{◌<◌, ◌≤◌, ℕ, List, get_or, length, take}
use Rattle.std.specs.List.{Contains, count_by}
use Rattle.run_search.specs.declared.local_state.LocalState.{LocalState}
use Rattle.run_search.specs.Nodes.{set_of}
use Rattle.run_search.specs.Outcomes.{ends_in, is_stopped}
use Rattle.run_search.specs.States.{blank}
use Rattle.run_search.proofs.choice.fewest_stops.Given as goal

abbrev pub invariant-loop-p : goal.invariant-loop-p
invariant-loop-p l = record {
  fewest : (state : List LocalState) → l.p ≤ length state → ((q : ℕ) → q < l.p → Contains (set_of l.node q) (get_or state q blank)) → l.sum ≤ count_by is_stopped (ends_in (take l.p state));
  few : l.sum ≤ l.p;
}
