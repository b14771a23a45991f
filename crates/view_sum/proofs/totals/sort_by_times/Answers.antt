use Rattle.std.proofs.Common.{rules}
use Rattle.std.proofs.lemmas.Fn.{always_returns_same}
use Rattle.std.proofs.lemmas.Result.{on_ok_weaker}
use Rattle.room_sample.specs.Samples.{place_of}
use Rattle.view_sum.proofs.Ranking.{most_first}
use Rattle.view_sum.proofs.totals.sort_by_times.Goals as goal

pub returns-clause-sorted : goal.returns-clause-sorted
returns-clause-sorted c =
    on_ok_weaker c.sort_by_key.result (λ sorted. most_first c.args.from c.sort_by_key.new.self.items (sorted (λ one. (record { 0 = one.times }, place_of c.args.from one.first)) (always_returns_same _ _ _ (λ a r f' k. (search rules, search rules))))) c.sort_by_key.ensures.sorted
