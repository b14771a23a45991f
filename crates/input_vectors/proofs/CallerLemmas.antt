-- The lemmas that proofs of the crates above may name: this crate promises them, as it does the clauses of
-- its functions. All others are its own.
pub use Rattle.input_vectors.proofs.AllVectors.{length_at, vector_at}
pub use Rattle.input_vectors.proofs.EachVector.{all_judged, no_vectors, one_if_small, one_vector_more}
