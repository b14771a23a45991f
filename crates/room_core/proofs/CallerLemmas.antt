-- The lemmas that proofs of the crates above may name: this crate promises them, as it does the clauses of
-- its functions. All others are its own.
pub use Rattle.room_core.proofs.settling.AgreedInputs.{written_known}
pub use Rattle.room_core.proofs.settling.Alone.{steps_within}
pub use Rattle.room_core.proofs.settling.CertifiedReductions.{none_spent}
pub use Rattle.room_core.proofs.settling.Counted.{no_more_pass}
pub use Rattle.room_core.proofs.settling.Decisions.{process_decided}
pub use Rattle.room_core.proofs.fields.Decoding.{agrees}
pub use Rattle.room_core.proofs.fields.FieldCalls.{calls_in_fields, fields_stand, opening_in_fields, step_in_fields}
pub use Rattle.room_core.proofs.values.Knowing.{fields_known}
pub use Rattle.room_core.proofs.values.LowValues.{fields_low, out_low}
pub use Rattle.room_core.proofs.agreements.FixedTests.{fixed_aside, fixed_back, fixed_of, in_line, test_of}
pub use Rattle.room_core.proofs.agreements.Promises.{rooms_agree}
pub use Rattle.room_core.proofs.fields.Replays.{is_room, shapes, under_crash_at_end, under_line_at_end}
pub use Rattle.room_core.proofs.agreements.Stages.{one_inside}
pub use Rattle.room_core.proofs.fields.States.{moved_data, opening_data, refill-set, woken_data}
pub use Rattle.room_core.proofs.fields.EventCounts.{events_are}
pub use Rattle.room_core.proofs.fields.Prefixes.{replay_fields-snoc}
pub use Rattle.room_core.proofs.fields.Taken.{taken_line, taken_moves}
pub use Rattle.room_core.proofs.moments.Moments.{at_before, at_end, length-snoc}
pub use Rattle.room_core.proofs.points.LastReads.{last_now, last_same, slice_get-push}
pub use Rattle.room_core.proofs.points.OneProcess.{left_uncounted, left_unstored}
pub use Rattle.room_core.proofs.points.RealTimes.{decision_stays}
pub use Rattle.room_core.proofs.points.Growing.{GoesOn, goes_on}
pub use Rattle.room_core.proofs.points.RoomPoints.{effects_at, timeline_of_run, timelines}
pub use Rattle.room_core.proofs.settling.FewSpent.{few_out}
pub use Rattle.room_core.proofs.settling.Following.{settling_follows, steps_follow}
