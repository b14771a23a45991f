-- Vectors of inputs.
use Rattle.std.specs.Prelude.{ℕ, zero, suc, ◌^◌, List, [], ◌∷◌, length, map}
use Rattle.std.specs.Global.{Vec}
use Rattle.std.specs.List.{flat_map}

-- all vectors of n of these values: the first entry is the slowest, and each takes the values in their order
abbrev pub vectors : List ℕ → ℕ → List (List ℕ)
vectors values zero = [] ∷ []
vectors values (suc n) = flat_map (λ value. map (λ rest. value ∷ rest) (vectors values n)) values

-- the entries of each
abbrev pub entries_of : List (Vec ℕ) → List (List ℕ)
entries_of all = map (λ vector. vector.items) all

-- how many these are
abbrev pub vector_count : List ℕ → ℕ → ℕ
vector_count values n = length values ^ n

-- how many of them are judged at most
abbrev pub most_vectors : ℕ
most_vectors = 65536
