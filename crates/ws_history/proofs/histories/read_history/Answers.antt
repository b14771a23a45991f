use Rattle.std.proofs.Common.{◌≤◌, [], ℕ, List, get_or, sym, subst}
use Rattle.ws_history.proofs.histories.read_history.Goals as goal

pub most_events-requires-clause-range : goal.most_events-requires-clause-range
most_events-requires-clause-range c =
    λ p. subst (λ (l : List ℕ). get_or l p 0 ≤ c.args.room.now.spec.rounds) (sym c.as_slice-3.ensures.value) (c.greatest_steps-greatest.ensures.range p)

pub returns : goal.returns
returns c = c.in_ok-pass_events.ensures [] [] c.in_ok-events.ensures.items
