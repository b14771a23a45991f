-- The lemmas that proofs of the crates above may name: this crate promises them, as it does the clauses of
-- its functions. All others are its own.
pub use Rattle.fault_text.proofs.Spotted.{and_more, form_said, refusal_said}
