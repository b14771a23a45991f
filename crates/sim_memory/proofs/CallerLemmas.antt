-- The lemmas that proofs of the crates above may name: this crate promises them, as it does the clauses of
-- its functions. All others are its own.
pub use Rattle.sim_memory.proofs.Greatest.{greatest_at, holder_is, holder_merged, holder_of_is, some_holder}
pub use Rattle.sim_memory.proofs.Rows.{holder_same, merged_at, merged_below, merged_reached, merged_same, row_at, row_grows, row_length, row_same}
pub use Rattle.sim_memory.proofs.Words.{memory_at, memory_is, part_else, part_here, part_memory, rounds_fit, step_below, within_raised, word_below}
pub use Rattle.sim_memory.proofs.Words.{word_else, word_field, word_fits, word_part, word_raised, word_steps, word_zero}
