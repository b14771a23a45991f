-- The lemmas that proofs of the crates above may name: this crate promises them, as it does the clauses of
-- its functions. All others are its own.
pub use Rattle.history_checker.proofs.NamedRooms.{EntriesOf, AreKeyed, after_there, after-push, after-with_room, has_room-lookup, IsKeyed-push, IsKeyed-with_room, keys_in, none_there, spec_there, specs-push, specs-with_room, value_there, values_in, with_room}
pub use Rattle.history_checker.proofs.Judged.{name_there, room_judged, task_judged}
