-- The vectors of inputs of a reduction, worked by hand.
use Rattle.std.proofs.Common.{◌≡◌, ℕ, List, [], ◌∷◌, map, refl}
use Rattle.transcript.specs.Tasks.{different}
use Rattle.run_search.specs.Agreed.{vector_at}

-- three processes, and simulators with the own inputs 7 and 3: the last process changes first
all_of_three : map (vector_at (7 ∷ 3 ∷ []) 3) (0 ∷ 1 ∷ 2 ∷ 3 ∷ 4 ∷ 5 ∷ 6 ∷ 7 ∷ [])
    ≡ (7 ∷ 7 ∷ 7 ∷ []) ∷ (7 ∷ 7 ∷ 3 ∷ []) ∷ (7 ∷ 3 ∷ 7 ∷ []) ∷ (7 ∷ 3 ∷ 3 ∷ []) ∷ (3 ∷ 7 ∷ 7 ∷ []) ∷ (3 ∷ 7 ∷ 3 ∷ []) ∷ (3 ∷ 3 ∷ 7 ∷ []) ∷ (3 ∷ 3 ∷ 3 ∷ []) ∷ []
all_of_three = refl

-- an input that two simulators have counts once
own_once : ◌≡◌ {A = List ℕ} (different (5 ∷ 9 ∷ 5 ∷ [])) (5 ∷ 9 ∷ [])
own_once = refl
