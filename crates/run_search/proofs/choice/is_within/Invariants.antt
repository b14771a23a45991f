use Rattle.std.proofs.Common.{◌<◌, ℕ, get_or}
use Rattle.run_search.specs.Choices.{HasChoice}
use Rattle.run_search.proofs.Choosing.{no_choice}
use Rattle.run_search.proofs.choice.is_within.Given as goal

abbrev pub invariant-loop-choice : goal.invariant-loop-choice
invariant-loop-choice l = (i : ℕ) → i < l.choice-index → HasChoice l.others (get_or l.choices i no_choice).process (get_or l.choices i no_choice).end (get_or l.choices i no_choice).events
