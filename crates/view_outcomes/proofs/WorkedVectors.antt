-- The lines of vectors on what was worked out by hand.
use Rattle.std.proofs.Common.{◌≡◌, [], ◌∷◌, refl}
use Rattle.std.specs.Prelude.{codes}
use Rattle.std.specs.Fmt.{digits}
use Rattle.view_outcomes.specs.VectorTexts.{vector_unjudged_line, kept_in_runs}

so_far : vector_unjudged_line (codes "pair") (0 ∷ 1 ∷ []) 3 ≡ codes "pair inputs 0 1 task holds so far, more than 3 nodes: not searched to the end; try a greater --nodes, fewer rounds, or sample\n"
unfolding digits
so_far = refl

at_last : kept_in_runs (codes "pair") 2 4 ≡ codes "pair task holds in every run for 2 of 4 vectors of inputs\n"
unfolding digits
at_last = refl
