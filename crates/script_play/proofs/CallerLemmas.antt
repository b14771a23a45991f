-- The lemmas that proofs of the crates above may name: this crate promises them, as it does the clauses of
-- its functions. All others are its own.
pub use Rattle.script_play.proofs.Commands.{read_again}
pub use Rattle.script_play.proofs.Followed.{followed_as, holds_along, run_none, run_on, sim_asked}
pub use Rattle.script_play.proofs.Playing.{where_ok}
