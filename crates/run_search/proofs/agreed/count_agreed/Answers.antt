use Rattle.std.proofs.Common.{arith}
use Rattle.run_search.proofs.Vectors.{small_count}
use Rattle.run_search.proofs.agreed.count_agreed.Goals as goal

pub pow-requires : goal.pow-requires
pow-requires c = small_count c.len.result c.n.result (omega (arith, c.len.ensures.value, c.own_values-values.ensures.few)) c.n.ensures.range.1
