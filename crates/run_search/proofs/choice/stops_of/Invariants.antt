use Rattle.std.proofs.Common.{◌≡◌, ◌<◌, ℕ, true, get_or}
use Rattle.run_search.specs.Outcomes.{ended, is_stopped}
use Rattle.run_search.specs.States.{blank}
use Rattle.run_search.proofs.choice.stops_of.Given as goal

abbrev pub invariant-loop-local : goal.invariant-loop-local
invariant-loop-local l = (i : ℕ) → i < l.local-index → is_stopped (ended (get_or l.set i blank).due) ≡ true
