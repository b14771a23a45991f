-- The lemmas that proofs of the crates above may name: this crate promises them, as it does the clauses of
-- its functions. All others are its own.
pub use Rattle.room_files.proofs.AllKinds.{all_read, first_of, first_of_end}
pub use Rattle.room_files.proofs.BlockEnds.{few_behind}
pub use Rattle.room_files.proofs.BlockSteps.{blocks_fault}
pub use Rattle.room_files.proofs.Feeding.{fed_end, fed_fault, fed_step, said}
