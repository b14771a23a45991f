-- The lemmas that proofs of the crates above may name: this crate promises them, as it does the clauses of
-- its functions. All others are its own.
pub use Rattle.ws_history.proofs.Deciders.{decided_there}
pub use Rattle.ws_history.proofs.Held.{level_one}
pub use Rattle.ws_history.proofs.Noted.{crash_noted, seen_noted}
pub use Rattle.ws_history.proofs.RunSpecs.{agreed_is, inputs, low_in_run, low_of_run, ordinary_input, ordinary_run, processes_run, reduction_run, run_from_own}
pub use Rattle.ws_history.proofs.SourceIs.{fields_run, ordinary_fields_run, reduction_fields_run}
pub use Rattle.ws_history.proofs.Settled.{most_are_over}
pub use Rattle.ws_history.proofs.Spending.{ordinary_spent_there, spent_there}
pub use Rattle.ws_history.proofs.RoomFields.{resolved_knows, states_in}
