use Rattle.std.proofs.Common.{◌≡◌, ◌∙◌, ◌-◌, length, ap, arith}
use Rattle.run_search.proofs.Vectors.{vector_long}
use Rattle.run_search.proofs.agreed.+vector_at.Goals as goal

pub push-requires : goal.push-requires
push-requires t c =
    let long : length c.vector_at-vector.result.items ≡ c.args.n - 1 = ap length c.vector_at-vector.ensures ∙ vector_long c.args.values.now (c.args.n - 1) _ in
    (omega arith, omega (arith, long, c.requires.few, c.if-n-eq0.false))
