use Rattle.std.proofs.Common.{List, subst, rules}
use Rattle.std.specs.Prelude.{IsPermutation}
use Rattle.indexmap.proofs.MapLemmas.{OnOk-map}
use Rattle.std.proofs.lemmas.Fn.{always_returns_same}
use Rattle.std.proofs.lemmas.List.Sorted.{IsPermutation-map}
use Rattle.room_sample.specs.Samples.{Counted, counted_of, outcomes_in, place_of}
use Rattle.room_sample.proofs.Ordering.{falls_by, most_first}
use Rattle.room_sample.proofs.tally.Tally.sort_by_times.Goals as goal

pub returns-clause-sorted : goal.returns-clause-sorted
returns-clause-sorted c = OnOk-map c.sort_by_key.result _ _ (λ sorted. most_first c.args.from c.sort_by_key.new.self.entries (λ k e less. falls_by c.args.from c.sort_by_key.new.self.entries (sorted (λ e. (record { 0 = e.1.times }, place_of c.args.from e.1.first)) (always_returns_same _ _ _ (λ a r f' k. (search rules, search rules)))) k e less)) c.sort_by_key.ensures.sorted

pub returns-clause-all : goal.returns-clause-all
returns-clause-all c =
    subst (λ (old : List Counted). IsPermutation old (outcomes_in c.sort_by_key.new.self.entries)) c.self.view_is
    (IsPermutation-map counted_of c.self.inside.outcomes.entries c.sort_by_key.new.self.entries c.sort_by_key.ensures.reordered.0)
