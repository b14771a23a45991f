use Rattle.std.proofs.Common.{◌≡◌, ◌<◌, ℕ, get_or}
use Rattle.std.specs.List.{Contains}
use Rattle.run_search.specs.declared.local_state.LocalState.{LocalState}
use Rattle.run_search.specs.Outcomes.{ended}
use Rattle.run_search.specs.Picks.{IsLeast}
use Rattle.run_search.specs.States.{blank}
use Rattle.run_search.proofs.pick.least_of.Given as goal

abbrev pub invariant-loop-local : goal.invariant-loop-local
invariant-loop-local l = record {
  each : (option : LocalState) → Contains l.options.items option → IsLeast l.set (ended option.due) option;
  all : (i : ℕ) → i < l.local-index → (option : LocalState) × Contains l.options.items option × (ended option.due ≡ ended (get_or l.set i blank).due);
}
