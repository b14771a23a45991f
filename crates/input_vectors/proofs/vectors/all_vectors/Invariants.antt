use Rattle.std.proofs.Common.{◌≡◌}
use Rattle.input_vectors.specs.Vectors.{entries_of, vectors}
use Rattle.input_vectors.proofs.vectors.all_vectors.Given as goal

abbrev pub invariant-loop : goal.invariant-loop
invariant-loop l = entries_of l.all.items ≡ vectors l.values l.counter
