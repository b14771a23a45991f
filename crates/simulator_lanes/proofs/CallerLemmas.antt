-- The lemmas that proofs of the crates above may name: this crate promises them, as it does the clauses of
-- its functions. All others are its own.
pub use Rattle.simulator_lanes.proofs.Staying.{hatched_to_the_end}
pub use Rattle.simulator_lanes.proofs.Texts.{folded_more, piece_more}
