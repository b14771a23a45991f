use Rattle.std.proofs.Common.{◌<◌, ◌≤◌, ℕ, get_or}
use Rattle.run_search.specs.States.{blank, events_of}
use Rattle.run_search.proofs.task.fewest_of.Given as goal

abbrev pub invariant-loop-local : goal.invariant-loop-local
invariant-loop-local l = record {
  least : (i : ℕ) → i < l.local-index → l.fewest ≤ events_of (get_or l.set i blank);
  few : l.fewest ≤ 512;
}
