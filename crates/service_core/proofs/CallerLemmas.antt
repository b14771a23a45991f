-- The lemmas that proofs of the crates above may name: this crate promises them, as it does the clauses of
-- its functions. All others are its own.
pub use Rattle.service_core.proofs.Running.{Ran, begins, goes_on}
pub use Rattle.service_core.proofs.Noting.{notes_lead}
