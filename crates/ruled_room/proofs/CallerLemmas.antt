-- The lemmas that proofs of the crates above may name: this crate promises them, as it does the clauses of
-- its functions. All others are its own.
pub use Rattle.ruled_room.proofs.Turning.{sweep_after_steps, sweeps_on}
