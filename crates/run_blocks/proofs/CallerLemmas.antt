-- The lemmas that proofs of the crates above may name: this crate promises them, as it does the clauses of
-- its functions. All others are its own.
pub use Rattle.run_blocks.proofs.OtherInputs.{says_with}
pub use Rattle.run_blocks.proofs.RunBlocks.{first_of_reduction, says_run}
pub use Rattle.run_blocks.proofs.OrdinaryBlocks.{ordinary_read}
