-- The lemmas that proofs of the crates above may name: this crate promises them, as it does the clauses of
-- its functions. All others are its own.
pub use Rattle.transcript.proofs.Agreeing.{In, contains_in, decides_few, decides_inputs, different_in, few_different, in_contains, in_without, no_more, one_more}
pub use Rattle.transcript.proofs.Differences.{any_different, any_in, different-push, in_any, in_different, input_is, no_input}
pub use Rattle.transcript.proofs.Events.{row_spelled}
pub use Rattle.transcript.proofs.Fields.{no_space_in}
pub use Rattle.transcript.proofs.Histories.{count_more, count_same, due_other, if_same, latest-push, none_seen, quiet, same}
pub use Rattle.transcript.proofs.Runs.{IsRun-nil, IsRun-push, slice_get-append, slice_get-push, slice_get-take, take-push}
pub use Rattle.transcript.proofs.Singly.{due_by, enabled_by, may_have, process_below, run_singly, singly, together}
