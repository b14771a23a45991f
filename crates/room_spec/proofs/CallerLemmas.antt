-- The lemmas that proofs of the crates above may name: this crate promises them, as it does the clauses of
-- its functions. All others are its own.
pub use Rattle.room_spec.proofs.Ends.{before_line, end_at, end_found, lines_to_end, with_line_end}
pub use Rattle.room_spec.proofs.Fronts.{end_place, len_ends, some_body}
pub use Rattle.room_spec.proofs.Lines.{before_cut, text_of-cons}
pub use Rattle.room_spec.proofs.MemoryWords.{are_memory_words, by_bits}
pub use Rattle.room_spec.proofs.Texts.{pieces_whole}
pub use Rattle.room_spec.proofs.Values.{input_small, own_input_small, first_in_room, next_in_room, first_of_input, next_of_input}
