-- The lemmas that proofs of the crates above may name: this crate promises them, as it does the clauses of
-- its functions. All others are its own.
pub use Rattle.simulator.proofs.Asking.{all_asked, no_asks, quiet_ends, sets_out}
pub use Rattle.simulator.proofs.Bounding.{total, total_falls, total_most, turns_before, turns_bounded}
pub use Rattle.simulator.proofs.Counting.{counts_anew, counts_on, idle_waits}
pub use Rattle.simulator.proofs.Gathering.{added, added_more, added_none}
pub use Rattle.simulator.proofs.Keeping.{kept, opens}
pub use Rattle.simulator.proofs.Limits.{limit_most}
pub use Rattle.simulator.proofs.Onward.{answered_along, moves_on, ready_along, stays_open}
pub use Rattle.simulator.proofs.Processes.{next_is_left}
pub use Rattle.simulator.proofs.Ranging.{within}
pub use Rattle.simulator.proofs.Spending.{steps_bounded}
pub use Rattle.simulator.proofs.Stepping.{begins, bounded, finishes, keeps_number, moves, open_moves, rest_line, runs_out, stays_in_turn, steps_by_one, turn_ends}
pub use Rattle.simulator.proofs.Visiting.{all_visited}
pub use Rattle.simulator.proofs.Knowing.{goes_alike, knows_mind, wants_same}
pub use Rattle.simulator.proofs.Alike.{same_knowledge}
