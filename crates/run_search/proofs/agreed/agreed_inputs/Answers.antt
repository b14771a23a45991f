use Rattle.std.proofs.Common.{arith}
use Rattle.run_search.proofs.Vectors.{from_own, some_values}
use Rattle.run_search.proofs.agreed.agreed_inputs.Goals as goal

pub vector_at-requires-clause-some : goal.vector_at-requires-clause-some
vector_at-requires-clause-some c =
    let some = some_values c.args.spec.now c.args.index (omega (arith, c.n.ensures.value, c.n.ensures.range.0)) c.requires in
    rw (c.as_slice.ensures.value, c.own_values-values.ensures.value) some

pub returns-clause-own : goal.returns-clause-own
returns-clause-own c =
    rw (c.vector_at.ensures, c.as_slice.ensures.value, c.own_values-values.ensures.value, c.n.ensures.value)
    (from_own c.args.spec.now c.args.index (omega (arith, c.n.ensures.value, c.n.ensures.range.0)) c.requires)
