use Rattle.std.proofs.Common.{◌≡◌, ◌<◌, ◌⊎◌, ℕ, get_or}
use Rattle.std.specs.List.{Contains}
use Rattle.run_search.specs.declared.choice.Choice.{Choice}
use Rattle.run_search.specs.declared.ended.Ended.{Ended}
use Rattle.run_search.specs.Choices.{HasChoice, IsChoice, MayEnd}
use Rattle.run_search.specs.Outcomes.{ended}
use Rattle.run_search.specs.States.{blank, events_of}
use Rattle.run_search.proofs.choice.add_all.Given as goal

abbrev pub invariant-loop-local : goal.invariant-loop-local
invariant-loop-local l = record {
  each : (choice : Choice) → Contains l.choices.items choice → Contains l.fn.choices.items choice ⊎ ((choice.process ≡ l.p) × IsChoice l.set choice);
  all : (i : ℕ) → i < l.local-index → MayEnd l.crashes (ended (get_or l.set i blank).due) → HasChoice l.choices.items l.p (ended (get_or l.set i blank).due) (events_of (get_or l.set i blank));
  kept : (q : ℕ) (end : Ended) (events : ℕ) → HasChoice l.fn.choices.items q end events → HasChoice l.choices.items q end events;
}
