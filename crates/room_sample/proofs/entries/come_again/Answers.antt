use Rattle.std.proofs.Common.{ℕ, ap, sym}
use Rattle.room_sample.specs.Samples.{Counted}
use Rattle.room_sample.specs.declared.tally.Outcome.{Outcome}
use Rattle.room_sample.proofs.Counting.{Key, more_there}
use Rattle.room_sample.proofs.entries.come_again.Goals as goal

pub returns-clause-more : goal.returns-clause-more
returns-clause-more c =
    let before : Outcome = c.in-Some.known.now in
    let after : Outcome = record { times = c.saturating_add-known.result; first = before.first } in
    let more = λ (k : Key). ap (λ (n : ℕ). let one : Counted = record { states = k.items; first = before.first; times = n } in one) c.saturating_add-known.ensures in
    more_there c.args.entries.now.entries c.args.index c.args.times before after (sym c.in-Some.ensures.value) more
