use Rattle.std.proofs.Common.{◌≡◌, ◌<◌, ℕ, get_or, length}
use Rattle.run_search.specs.Nodes.{set_of}
use Rattle.run_search.specs.declared.ended.Ended.TheVariants.{Stopped}
use Rattle.run_search.specs.Picks.{IsLeast}
use Rattle.run_search.specs.States.{blank}
use Rattle.run_search.proofs.pick.least_state.Given as goal

abbrev pub invariant-loop-p : goal.invariant-loop-p
invariant-loop-p l = record {
  width : length l.least.items ≡ l.p;
  each : (q : ℕ) → q < l.p → IsLeast (set_of l.node q) (get_or l.ends.items q Stopped) (get_or l.least.items q blank);
}
