use Rattle.std.proofs.Common.{◌≡◌, ◌∷◌, map, take}
use Rattle.std.specs.List.{flat_map}
use Rattle.input_vectors.specs.Vectors.{entries_of}
use Rattle.input_vectors.proofs.vectors.longer.Given as goal

abbrev pub invariant-loop-value : goal.invariant-loop-value
invariant-loop-value l = entries_of l.all.items ≡ flat_map (λ value. map (λ rest. value ∷ rest) (entries_of l.vectors)) (take l.value-index l.values)
