-- The lemmas that proofs of the crates above may name: this crate promises them, as it does the clauses of
-- its functions. All others are its own.
pub use Rattle.protocol_lang.proofs.Causes.{first_fault}
pub use Rattle.protocol_lang.proofs.Limits.{first_small, next_small, small_if_read}
pub use Rattle.protocol_lang.proofs.Numerals.{decimal_digits, digits_of-decimal, number_from, number_of-decimal, number_spelled, number_to}
pub use Rattle.protocol_lang.proofs.Only.{only}
pub use Rattle.protocol_lang.proofs.Sound.{found}
pub use Rattle.protocol_lang.proofs.Thresholds.{decides_least_of, decides_with, writes_again}
