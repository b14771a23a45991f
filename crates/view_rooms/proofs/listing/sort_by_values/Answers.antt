use Rattle.std.proofs.Common.{rules}
use Rattle.std.proofs.lemmas.Result.{on_ok_weaker}
use Rattle.std.proofs.lemmas.List.Sorted.{answers_always}
use Rattle.view_rooms.specs.Listing.{values_of}
use Rattle.view_rooms.proofs.Ordering.{most_first}
use Rattle.view_rooms.proofs.listing.sort_by_values.Goals as goal

pub returns-clause-sorted : goal.returns-clause-sorted
returns-clause-sorted c = on_ok_weaker c.sort_by_key.result (λ sorted. most_first c.sort_by_key.new.self.items (sorted (λ one. record { 0 = values_of one }) (answers_always _ _ _ (λ f a r g h. search rules)))) c.sort_by_key.ensures.sorted
