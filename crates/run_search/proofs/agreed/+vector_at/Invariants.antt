use Rattle.run_search.proofs.agreed.+vector_at.Given as goal

abbrev pub decreases-vector_at : goal.decreases-vector_at
decreases-vector_at l = l.n
