use Rattle.std.proofs.Common.{◌≡◌, ◌<◌, ◌∷◌, ◌++◌, [], ℕ, get_or}
use Rattle.std.specs.List.{Contains}
use Rattle.run_search.specs.declared.local_state.LocalState.{LocalState}
use Rattle.run_search.specs.Picks.{HasStandIn}
use Rattle.run_search.specs.States.{State}
use Rattle.run_search.proofs.Picking.{none_picked}
use Rattle.run_search.proofs.pick.extended.Given as goal

abbrev pub invariant-loop-pick : goal.invariant-loop-pick
invariant-loop-pick l = record {
  each : (one : State) → Contains l.new.items one → (pick : State) × Contains l.picks pick × (option : LocalState) × Contains l.options option × (one.items ≡ pick.items ++ option ∷ []);
  all : (i : ℕ) (option : LocalState) → i < l.pick-index → Contains l.options option → HasStandIn l.spec l.most l.new.items ((get_or l.picks i none_picked).items ++ option ∷ []);
}
