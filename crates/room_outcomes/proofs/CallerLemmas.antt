-- The lemmas that proofs of the crates above may name: this crate promises them, as it does the clauses of
-- its functions. All others are its own.
pub use Rattle.room_outcomes.proofs.Ending.{ordinary_outcome, reported_outcome, reported_room_outcome}
