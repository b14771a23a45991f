-- The lemmas that proofs of the crates above may name: this crate promises them, as it does the clauses of
-- its functions. All others are its own.
pub use Rattle.json_lines.proofs.Floats.{both, event_is, events_are, items_are, numbers_are, processes_are, row_is, text_is}
