use Rattle.std.proofs.Common.{◌≡◌, ◌<◌, ◌∷◌, ◌++◌, [], ◌⊎◌, ℕ, List, get_or}
use Rattle.std.specs.List.{Contains}
use Rattle.run_search.specs.declared.local_state.LocalState.{LocalState}
use Rattle.run_search.specs.Picks.{HasStandIn}
use Rattle.run_search.specs.States.{State, blank}
use Rattle.run_search.proofs.pick.extend_one.Given as goal

abbrev pub invariant-loop-option : goal.invariant-loop-option
invariant-loop-option l = record {
  each : (one : State) → Contains l.picks.items one → Contains l.fn.picks.items one ⊎ ((option : LocalState) × Contains l.options option × (one.items ≡ l.pick.items ++ option ∷ []));
  all : (i : ℕ) → i < l.option-index → HasStandIn l.spec l.most l.picks.items (l.pick.items ++ get_or l.options i blank ∷ []);
  kept : (state : List LocalState) → HasStandIn l.spec l.most l.fn.picks.items state → HasStandIn l.spec l.most l.picks.items state;
}
