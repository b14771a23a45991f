-- The lemmas that proofs of the crates above may name: this crate promises them, as it does the clauses of
-- its functions. All others are its own.
pub use Rattle.view_table.proofs.Counts.{few_words, memory_first, view_together}
pub use Rattle.view_table.proofs.PlaceLemmas.{agreement_round, distinct, within, zero_agreed}
pub use Rattle.view_table.proofs.WordLemmas.{elsewhere, here, zeros}
