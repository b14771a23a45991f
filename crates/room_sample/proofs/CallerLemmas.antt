-- The lemmas that proofs of the crates above may name: this crate promises them, as it does the clauses of
-- its functions. All others are its own.
pub use Rattle.room_sample.proofs.Firsts.{groups_came, sample_came}
pub use Rattle.room_sample.proofs.Grouping.{grouped_sum, same_patterns}
pub use Rattle.room_sample.proofs.AmongAll.{HasFields, sampled_outcome, settled_fields}
