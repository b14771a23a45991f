use Rattle.std.proofs.Common.{◌≡◌, ◌∷◌, ◌++◌, map, take}
use Rattle.input_vectors.specs.Vectors.{entries_of}
use Rattle.input_vectors.proofs.vectors.put_in_front.Given as goal

abbrev pub invariant-loop-rest : goal.invariant-loop-rest
invariant-loop-rest l = entries_of l.all.items ≡ entries_of l.initial.all.items ++ map (λ rest. l.value ∷ rest) (entries_of (take l.rest-index l.vectors))
