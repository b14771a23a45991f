-- The lemmas that proofs of the crates above may name: this crate promises them, as it does the clauses of
-- its functions. All others are its own.
pub use Rattle.level_cells.proofs.FieldLemmas.{added_field, added_others}
pub use Rattle.level_cells.proofs.PackingLemmas.{fits, of_same, of_zeros, reads_back, with_one_more}
