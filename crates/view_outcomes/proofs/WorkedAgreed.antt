-- What is written of reductions on what was worked out by hand.
use Rattle.std.proofs.Common.{◌≡◌, [], ◌∷◌, refl}
use Rattle.std.specs.Prelude.{codes}
use Rattle.std.specs.Fmt.{digits}
use Rattle.transcript.specs.Tasks.{different}
use Rattle.input_vectors.specs.Vectors.{vectors}
use Rattle.view_outcomes.specs.VectorTexts.{agreed_line}

line : agreed_line (codes "shared") (3 ∷ 7 ∷ []) ≡ codes "shared from the inputs 3 7:\n"
unfolding digits
line = refl

-- three simulators, two of which have the same input, and two processes
all : vectors (different (7 ∷ 3 ∷ 7 ∷ [])) 2 ≡ (7 ∷ 7 ∷ []) ∷ (7 ∷ 3 ∷ []) ∷ (3 ∷ 7 ∷ []) ∷ (3 ∷ 3 ∷ []) ∷ []
all = refl
